-- The points are out of the runs so far.
use Rattle.std.proofs.Common.{◌≡◌, ◌++◌, not, map, filter, take, drop}
use Rattle.point_rope.proofs.runs.remove_from.Given as goal

abbrev pub invariant-loop-run : goal.invariant-loop-run
invariant-loop-run g l = l.runs ≡ map (filter (λ p. not (g.T.PointTest.passes l.test p))) (take l.run-index l.initial.runs) ++ drop l.run-index l.initial.runs
