-- The neighbours so far agree, and `lower` is the lower face of the last of them.
use Rattle.std.proofs.Common.{◌≡◌, ◌<◌, ◌+◌, ◌-◌, ℕ, get_or}
use Rattle.planar_stack.specs.Sweep.{sides_at}
use Rattle.planar_stack.proofs.scan.agreeing.Given as goal

abbrev pub invariant-loop-i : goal.invariant-loop-i
invariant-loop-i l = record {
  last : (d : ℕ) → l.lower ≡ (sides_at l.starts (get_or l.numbers (l.i - 1) d)).lower;
  agree : (k d : ℕ) → k + 1 < l.i → (sides_at l.starts (get_or l.numbers k d)).lower ≡ (sides_at l.starts (get_or l.numbers (k + 1) d)).upper;
}
