-- Those of the points so far that are left stand at the end.
use Rattle.std.proofs.Common.{◌≡◌, ◌++◌, filter, map, take}
use Rattle.edge_forest.specs.Removed.{PointSteps, step_of}
use Rattle.edge_forest.specs.Spent.{is_left}
use Rattle.edge_forest.proofs.left.push_left_along.Given as goal

abbrev pub invariant-loop-i : goal.invariant-loop-i
invariant-loop-i l = (t : PointSteps) → l.steps ≡ map (step_of t) l.along
    → l.points.items ≡ l.initial.points.items ++ filter (is_left t l.k) (take l.i l.along)
