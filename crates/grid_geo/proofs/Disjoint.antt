-- Segments whose bounding boxes are apart have nothing in common.
use Rattle.std.proofs.Common.{◌≡◌, ◌⊎◌, inl, inr, true, false, ◌&&◌, ℤ, pos, ◌*ℤ◌, ◌<ℤ◌, ◌≤ℤ◌, int_le, int_eq, sym, ◌∙◌, arith}
use Rattle.std.proofs.lemmas.Bool.{and_parts, or_cases, false_from_ne_true, true≢false}
use Rattle.std.proofs.lemmas.Int.{ints}
use Rattle.lemmas.proofs.Signs.{Decides-int_le, le_le_trans, mul_lt_left}
use Rattle.tgap_model.specs.declared.geometry.Fraction.{Fraction}
use Rattle.tgap_model.specs.declared.geometry.Seg.{Seg}
use Rattle.tgap_model.specs.Segment.{is_on, lies_between, cross_at, AreDisjoint}

-- a number between two others is at most one of them, and at least one of them
most : (a b n k : ℤ) → lies_between a b n k ≡ true → (n ≤ℤ (k *ℤ a)) ⊎ (n ≤ℤ (k *ℤ b))
most a b n k h = elim (or_cases (int_le (k *ℤ a) n && int_le n (k *ℤ b)) (int_le (k *ℤ b) n && int_le n (k *ℤ a)) h) [
  | inl e ↦ inr ((Decides-int_le n (k *ℤ b)).0 (and_parts _ _ e).1)
  | inr e ↦ inl ((Decides-int_le n (k *ℤ a)).0 (and_parts _ _ e).1)
]

least : (a b n k : ℤ) → lies_between a b n k ≡ true → ((k *ℤ a) ≤ℤ n) ⊎ ((k *ℤ b) ≤ℤ n)
least a b n k h = elim (or_cases (int_le (k *ℤ a) n && int_le n (k *ℤ b)) (int_le (k *ℤ b) n && int_le n (k *ℤ a)) h) [
  | inl e ↦ inl ((Decides-int_le (k *ℤ a) n).0 (and_parts _ _ e).0)
  | inr e ↦ inr ((Decides-int_le (k *ℤ b) n).0 (and_parts _ _ e).0)
]

clash : (a c n k : ℤ) → pos 0 <ℤ k → a <ℤ c → n ≤ℤ (k *ℤ a) → (k *ℤ c) ≤ℤ n → ⊥
clash a c n k p gap up low = let less = mul_lt_left p gap in let both = le_le_trans low up in absurd (omega (arith, ints, less, both))

-- where one interval ends before the other begins, no number is in both
pub apart_intervals : (a b c d : ℤ) → a <ℤ c → a <ℤ d → b <ℤ c → b <ℤ d → (n k : ℤ) → pos 0 <ℤ k → lies_between a b n k ≡ true → lies_between c d n k ≡ false
apart_intervals a b c d ac ad bc bd n k p h =
    false_from_ne_true (lies_between c d n k) (λ e. elim (most a b n k h) [
      | inl up ↦ elim (least c d n k e) [ inl low ↦ clash a c n k p ac up low | inr low ↦ clash a d n k p ad up low ]
      | inr up ↦ elim (least c d n k e) [ inl low ↦ clash b c n k p bc up low | inr low ↦ clash b d n k p bd up low ]
    ])

-- a point on a segment has both coordinates between those of its ends
pub on_x : (p : Fraction) (s : Seg) → is_on p s ≡ true → lies_between s.a.x s.b.x p.nx p.d ≡ true
on_x p s h = (and_parts (int_eq (cross_at s.a s.b p) (pos 0)) (lies_between s.a.x s.b.x p.nx p.d) (and_parts _ (lies_between s.a.y s.b.y p.ny p.d) h).0).1

pub on_y : (p : Fraction) (s : Seg) → is_on p s ≡ true → lies_between s.a.y s.b.y p.ny p.d ≡ true
on_y p s h = (and_parts _ (lies_between s.a.y s.b.y p.ny p.d) h).1

-- segments of which one is left of the other, or below it, have no point in common
pub none_left : (s t : Seg) → s.a.x <ℤ t.a.x → s.a.x <ℤ t.b.x → s.b.x <ℤ t.a.x → s.b.x <ℤ t.b.x → AreDisjoint s t
none_left s t f g i j p d h =
    false_from_ne_true (is_on p t) (λ e. true≢false (sym (on_x p t e) ∙ apart_intervals s.a.x s.b.x t.a.x t.b.x f g i j p.nx p.d d (on_x p s h)))

pub none_below : (s t : Seg) → s.a.y <ℤ t.a.y → s.a.y <ℤ t.b.y → s.b.y <ℤ t.a.y → s.b.y <ℤ t.b.y → AreDisjoint s t
none_below s t f g i j p d h =
    false_from_ne_true (is_on p t) (λ e. true≢false (sym (on_y p t e) ∙ apart_intervals s.a.y s.b.y t.a.y t.b.y f g i j p.ny p.d d (on_y p s h)))

-- it does not matter which is first
pub none_turned : (s t : Seg) → AreDisjoint t s → AreDisjoint s t
none_turned s t none p d h = false_from_ne_true (is_on p t) (λ e. true≢false (sym h ∙ none p d e))
