use Rattle.std.proofs.Common.{◌≡◌, false, map, length}
use Rattle.std.specs.List.{range_with_len}
use Rattle.tgap_model.specs.Merged.{merged}
use Rattle.tgap_model.specs.Removals.{removals_to}
use Rattle.tgap_model.specs.Records.{step_record}
use Rattle.tgap_build.specs.Built.{HasRemoved}
use Rattle.tgap_build.specs.Sought.{IsSought}
use Rattle.tgap_build.specs.Queues.{IsCornered}
use Rattle.tgap_build.specs.Running.{AreRunning}
use Rattle.tgap_build.specs.Table.{labelled_edges}
use Rattle.tgap_build.proofs.sweep_all.Given as goal

-- so many steps were made, and have removed their vertices; the edges are those after them
abbrev pub invariant-loop-i : goal.invariant-loop-i
invariant-loop-i l = record {
  base : l.forest.base ≡ l.fn.forest.base;
  made : l.forest.made ≡ l.i;
  unclosed : l.forest.closed ≡ false;
  removed : HasRemoved l.forest l.i;
  running : AreRunning l.forest l.i (removals_to (merged l.forest.base) l.i) l.live.edges;
  sought : IsSought l.live.edges.places.items l.live.sought;
  corners : IsCornered (length l.live.edges.beside.items) (labelled_edges l.live.edges) l.live.corners;
  records : l.records ≡ map (step_record (merged l.fn.forest.base)) (range_with_len 1 l.i);
}
