-- The ends so far are up to the abscissa.
use Rattle.std.proofs.Common.{◌≤◌, ◌-◌, ◌≤ℤ◌, length, take, All}
use Rattle.planar_stack.proofs.sweep.ended_by.Given as goal

abbrev pub invariant-loop-ended : goal.invariant-loop-ended
invariant-loop-ended l = record {
  within : l.ended ≤ length l.ends;
  past : All (λ e. e.abscissa ≤ℤ l.line) (take l.ended l.ends);
}

abbrev pub decreases-loop-ended : goal.decreases-loop-ended
decreases-loop-ended l = length l.ends - l.ended
