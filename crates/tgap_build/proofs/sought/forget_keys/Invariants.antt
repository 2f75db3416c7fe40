-- Each box that holds the points of its edge still does.
use Rattle.std.proofs.Common.{◌≡◌, ℕ, length}
use Rattle.tgap_build.specs.Sought.{IsBoxedAt}
use Rattle.tgap_build.proofs.sought.forget_keys.Given as goal

abbrev pub invariant-loop-key : goal.invariant-loop-key
invariant-loop-key l = record {
  kept : (k : ℕ) → IsBoxedAt l.edges.places.items l.initial.boxes k → IsBoxedAt l.edges.places.items l.boxes k;
  room : length l.boxes ≡ length l.initial.boxes;
}
