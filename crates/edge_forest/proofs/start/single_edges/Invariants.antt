use Rattle.std.proofs.Common.{◌≡◌, map}
use Rattle.std.specs.List.{range_with_len}
use Rattle.edge_forest.specs.Start.{arc_edge}
use Rattle.edge_forest.proofs.start.single_edges.Given as goal

abbrev pub invariant-loop-i : goal.invariant-loop-i
invariant-loop-i l = l.edges.items ≡ map (arc_edge l.arcs) (range_with_len 0 l.i)
