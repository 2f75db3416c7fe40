-- the box holds the points of the runs so far
use Rattle.std.proofs.Common.{take, All}
use Rattle.point_rope.specs.Held.{IsHeld}
use Rattle.point_rope.specs.Runs.{joined}
use Rattle.point_rope.proofs.over_runs.bounds_of_runs.Given as goal

abbrev pub invariant-loop-run : goal.invariant-loop-run
invariant-loop-run l = All (IsHeld l.bounds) (joined (take l.run-index l.runs))
