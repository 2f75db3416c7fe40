use Rattle.std.proofs.Common.{◌≡◌, [], length, map, drop}
use Rattle.serde_json.specs.View.{view}
use Rattle.line_forms.specs.Json.{try_fold}
use Rattle.topology_forms.specs.Topology.{arc_read}
use Rattle.topo_read.proofs.arc.read_arcs.Given as goal

-- the arcs that are left make of those before them what all of them make of none
abbrev pub invariant-loop-number : goal.invariant-loop-number
invariant-loop-number l = record {
  read : try_fold (arc_read l.deltas) l.lines (map view (drop l.number l.arcs)) ≡ try_fold (arc_read l.deltas) [] (map view l.arcs);
  count : length l.lines ≡ l.number;
}
