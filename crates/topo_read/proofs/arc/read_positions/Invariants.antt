use Rattle.std.proofs.Common.{◌≡◌, map, drop}
use Rattle.serde_json.specs.View.{view}
use Rattle.line_forms.specs.Json.{try_fold}
use Rattle.topology_forms.specs.Topology.{no_positions, position_read}
use Rattle.topo_read.proofs.arc.read_positions.Given as goal

-- the positions that are left make of the arc so far what all of them make of none
abbrev pub invariant-loop-position : goal.invariant-loop-position
invariant-loop-position l =
    try_fold (position_read l.deltas l.number) l.arc (map view (drop l.position-index l.positions))
    ≡ try_fold (position_read l.deltas l.number) no_positions (map view l.positions)
