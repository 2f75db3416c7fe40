-- The points so far stand at the end of the list.
use Rattle.std.proofs.Common.{◌≡◌, ◌++◌, map}
use Rattle.edge_forest.proofs.walk.push_back_to_front.Given as goal

abbrev pub invariant-loop-point : goal.invariant-loop-point
invariant-loop-point l = l.points.items ≡ l.initial.points.items ++ map (λ p. p.now) l.yielded
