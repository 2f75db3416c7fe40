use Rattle.std.proofs.Common.{◌≡◌, ◌++◌, drop}
use Rattle.tgap_model.specs.Partition.{arc_segments}
use Rattle.tgap_model.proofs.segment.base_segments.Given as goal

-- what was put, and the segments of the arcs that are left, are the segments of all arcs
abbrev pub invariant-loop-i : goal.invariant-loop-i
invariant-loop-i l = l.segments.items ++ arc_segments l.i (drop l.i l.arcs) ≡ arc_segments 0 l.arcs
