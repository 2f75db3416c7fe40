-- The steps of the points so far stand at the end.
use Rattle.std.proofs.Common.{◌≡◌, ◌++◌, map, take}
use Rattle.edge_forest.specs.Removed.{step_of}
use Rattle.edge_forest.proofs.gone_steps.push_steps.Given as goal

abbrev pub invariant-loop-point : goal.invariant-loop-point
invariant-loop-point l = l.steps.items ≡ l.initial.steps.items ++ map (step_of l.removed) (take l.point-index l.points)
