-- The order of points, by x and then by y.
use Rattle.std.proofs.Common.{◌≡◌, ◌⊎◌, inl, inr, true, false, ◌&&◌, ℤ, ◌<ℤ◌, int_lt, refl, ◌∙◌, subst, sym}
use Rattle.std.specs.Int.Signed.{≤ℤ_refl}
use Rattle.std.specs.Ordering.{int_eq}
use Rattle.std.proofs.lemmas.Bool.{or_left, or_right, or_from, or_cases, and_from, and_parts, and_right}
use Rattle.std.proofs.lemmas.Bool.Decides.{Decides-int_eq}
use Rattle.lemmas.proofs.Keys.{IsKeyOrder}
use Rattle.lemmas.proofs.Signs.{Decides-int_lt, int_lt-from_le, lt_lt_trans, by_order}
use Rattle.tgap_model.specs.declared.geometry.Point.{Point}
use Rattle.tgap_model.specs.Base.{same_point}
use Rattle.tgap_model.specs.Segment.{point_before}
use Rattle.tgap_model.proofs.Points.{point_same, same_point-true, same_point-from}

point_before-itself : (a : Point) → point_before a a ≡ false
point_before-itself a = or_from _ _ (int_lt-from_le (≤ℤ_refl a.x)) (and_right _ _ (int_lt-from_le (≤ℤ_refl a.y)))

-- what the test of two points says
before_cases : (a b : Point) → point_before a b ≡ true → (a.x <ℤ b.x) ⊎ ((a.x ≡ b.x) × (a.y <ℤ b.y))
before_cases a b e = elim (or_cases (int_lt a.x b.x) (int_eq a.x b.x && int_lt a.y b.y) e) [
  | inl f ↦ inl ((Decides-int_lt a.x b.x).0 f)
  | inr f ↦ let parts = and_parts (int_eq a.x b.x) (int_lt a.y b.y) f in inr ((Decides-int_eq a.x b.x).0 parts.0, (Decides-int_lt a.y b.y).0 parts.1)
]

before_by_x : (a b : Point) → a.x <ℤ b.x → point_before a b ≡ true
before_by_x a b h = or_left _ _ ((Decides-int_lt a.x b.x).1 h)

before_by_y : (a b : Point) → a.x ≡ b.x → a.y <ℤ b.y → point_before a b ≡ true
before_by_y a b e h = or_right _ _ (and_from _ _ ((Decides-int_eq a.x b.x).1 e) ((Decides-int_lt a.y b.y).1 h))

before_passes : (a b c : Point) → point_before a b ≡ true → point_before b c ≡ true → point_before a c ≡ true
before_passes a b c e f = elim (before_cases a b e) [
  | inl h ↦ elim (before_cases b c f) [
    | inl k ↦ before_by_x a c (lt_lt_trans h k)
    | inr k ↦ before_by_x a c (subst (λ (z : ℤ). a.x <ℤ z) k.0 h)
  ]
  | inr h ↦ elim (before_cases b c f) [
    | inl k ↦ before_by_x a c (subst (λ (z : ℤ). z <ℤ c.x) (sym h.0) k)
    | inr k ↦ before_by_y a c (h.0 ∙ k.0) (lt_lt_trans h.1 k.1)
  ]
]

-- any two points compare
pub points : IsKeyOrder point_before same_point
points = record {
  order = record { itself = λ a p. point_before-itself a; passes = λ a b c p q r e f. before_passes a b c e f };
  same = same_point-true;
  itself = λ a. same_point-from a a refl;
  cases = λ a b. by_order a.x b.x
      (λ h. inl (before_by_x a b h))
      (λ e. by_order a.y b.y (λ h. inl (before_by_y a b e h)) (λ f. inr (inl (point_same a b e f))) (λ h. inr (inr (before_by_y b a (sym e) h))))
      (λ h. inr (inr (before_by_x b a h)));
}
