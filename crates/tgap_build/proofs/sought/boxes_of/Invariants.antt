-- There is a box for each place so far.
use Rattle.std.proofs.Common.{◌≡◌, ◌<◌, ℕ, length}
use Rattle.tgap_build.specs.Sought.{IsBoxedAt}
use Rattle.tgap_build.proofs.sought.boxes_of.Given as goal

abbrev pub invariant-loop-place : goal.invariant-loop-place
invariant-loop-place l = record {
  long : length l.boxes ≡ l.place-index;
  each : (k : ℕ) → k < l.place-index → IsBoxedAt l.places l.boxes k;
}
