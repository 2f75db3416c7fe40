use Rattle.std.proofs.Common.{◌≡◌, map}
use Rattle.std.specs.List.{range_with_len}
use Rattle.edge_forest.specs.Places.{placed}
use Rattle.edge_forest.proofs.nodes.in_order.Given as goal

abbrev pub invariant-loop-place : goal.invariant-loop-place
invariant-loop-place l = l.rows.items ≡ map (placed l.points) (range_with_len 0 l.place)
