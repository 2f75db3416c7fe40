-- The ends so far.
use Rattle.std.proofs.Common.{◌<◌, ℕ}
use Rattle.planar_sweep.specs.Ends.{IsFair}
use Rattle.planar_sweep.proofs.marks.are_fair.Given as goal

abbrev pub invariant-loop-i : goal.invariant-loop-i
invariant-loop-i l = (k : ℕ) → k < l.i → IsFair l.segments l.marks k
