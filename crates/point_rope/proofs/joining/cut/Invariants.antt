-- The points so far are in full runs.
use Rattle.std.proofs.Common.{◌≡◌, ◌≤◌, ◌-◌, ◌++◌, take, length}
use Rattle.point_rope.specs.Runs.{joined}
use Rattle.point_rope.proofs.joining.cut.Given as goal

abbrev pub invariant-loop-place : goal.invariant-loop-place
invariant-loop-place l = record {
  within : l.place ≤ length l.points;
  cut : joined l.full ≡ joined l.fn.full ++ take l.place l.points;
}

abbrev pub decreases-loop-place : goal.decreases-loop-place
decreases-loop-place l = length l.points - l.place
