-- none of the points of the runs so far
use Rattle.std.proofs.Common.{◌≡◌, false, take}
use Rattle.std.specs.List.{list_any}
use Rattle.point_rope.specs.Runs.{joined}
use Rattle.point_rope.proofs.over_runs.any_has.Given as goal

abbrev pub invariant-loop-run : goal.invariant-loop-run
invariant-loop-run g l = list_any (g.T.PointTest.passes l.test) (joined (take l.run-index l.runs)) ≡ false
