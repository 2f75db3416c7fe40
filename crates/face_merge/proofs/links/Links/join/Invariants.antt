-- The lengths together stay the same, and the links so far are gone.
use Rattle.std.proofs.Common.{◌≡◌, ◌⊎◌, ℕ, None, take}
use Rattle.std.specs.List.{All}
use Rattle.face_merge.specs.Links.{ArePaired, length_at, joined}
use Rattle.face_merge.proofs.links.Links.join.Given as goal

abbrev pub invariant-loop-link : goal.invariant-loop-link
invariant-loop-link l = record {
  paired : ArePaired (length_at l.self);
  together : (s t : ℕ) → joined (length_at l.self) l.from l.to s t ≡ joined (length_at l.fn.self) l.from l.to s t;
  left : (t : ℕ) → (length_at l.self l.from t ≡ None) ⊎ (length_at l.self l.from t ≡ length_at l.fn.self l.from t);
  gone : All (λ link. length_at l.self l.from link.slot ≡ None) (take l.link-index l.links);
}
