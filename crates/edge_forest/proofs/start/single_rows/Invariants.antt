use Rattle.std.proofs.Common.{◌≡◌, map}
use Rattle.std.specs.List.{range_with_len}
use Rattle.edge_forest.specs.Start.{arc_row}
use Rattle.edge_forest.proofs.start.single_rows.Given as goal

abbrev pub invariant-loop-i : goal.invariant-loop-i
invariant-loop-i l = l.rows.items ≡ map (arc_row l.arcs) (range_with_len 0 l.i)
