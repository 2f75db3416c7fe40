-- Those of the points so far that are left stand at the end.
use Rattle.std.proofs.Common.{◌≡◌, ◌++◌, ◌-◌, filter, map, reverse, drop, length}
use Rattle.edge_forest.specs.Removed.{PointSteps, step_of}
use Rattle.edge_forest.specs.Spent.{is_left}
use Rattle.edge_forest.proofs.left.push_left_back.Given as goal

abbrev pub invariant-loop-done : goal.invariant-loop-done
invariant-loop-done l = (t : PointSteps) → l.steps ≡ map (step_of t) l.along
    → l.points.items ≡ l.initial.points.items ++ filter (is_left t l.k) (reverse (drop (length l.along - l.done) l.along))
