-- The boxes of the keys so far hold the points of their edges, and each box that did so still does.
use Rattle.std.proofs.Common.{◌≡◌, ◌<◌, ℕ, length, get_or}
use Rattle.tgap_build.specs.Sought.{IsBoxedAt}
use Rattle.tgap_build.proofs.sought.renew_keys.Given as goal

abbrev pub invariant-loop-key : goal.invariant-loop-key
invariant-loop-key l = record {
  here : (j : ℕ) → j < l.key-index → j < length l.keys → IsBoxedAt l.edges.places.items l.boxes (get_or l.keys j 0);
  kept : (k : ℕ) → IsBoxedAt l.edges.places.items l.initial.boxes k → IsBoxedAt l.edges.places.items l.boxes k;
  room : length l.boxes ≡ length l.initial.boxes;
}
