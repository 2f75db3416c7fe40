-- What the tests by strict sides and by common ends say: that the first segment may stand next above the second.
use Rattle.std.proofs.Common.{if◌then◌else◌, ◌≡◌, ◌⊎◌, inl, inr, Bool, true, false, ◌&&◌, ◌||◌, [], ◌∷◌, ℤ, pos, ◌+ℤ◌, ◌-ℤ◌, ◌*ℤ◌, ◌<ℤ◌, ◌≤ℤ◌, int_lt, int_le, refl, sym, ap, ◌∙◌, subst, subst₂, true≢false, arith}
use Rattle.std.specs.Int.{int_signum}
use Rattle.std.proofs.lemmas.Int.{ints, by_lt_z}
use Rattle.std.proofs.Math.IntN.{*ℤ-zero}
use Rattle.std.proofs.lemmas.Bool.{and_from, and_parts, or_cases, or_left, or_right}
use Rattle.lemmas.proofs.Polynomials.{same_value, var, number, ◌⊕◌, ◌⊖◌, ◌⊗◌}
use Rattle.lemmas.proofs.Signs.{Decides-int_lt, Decides-int_le, apart_from_lt, by_signum, le_from_lt, le_from_mul_left, le_from_same, mul_le_left, mul_positive, mul_negative_right, mul_not_negative, mul_not_positive, not_positive_from_mul, same_from_le, same_from_mul_left, sub_negative, sub_not_negative, sub_positive}
use Rattle.lemmas.proofs.Products.{zero_from_mul_left}
use Rattle.tgap_model.specs.declared.geometry.Point.{Point}
use Rattle.tgap_model.specs.declared.geometry.Fraction.{Fraction}
use Rattle.tgap_model.specs.declared.geometry.Seg.{Seg}
use Rattle.tgap_model.specs.Base.{same_point}
use Rattle.tgap_model.specs.Point.{cross, side}
use Rattle.tgap_model.specs.Segment.{is_at, is_permitted, cross_at, run, rise}
use Rattle.tgap_model.proofs.Points.{point_same, same_point-from, same_point-true}
use Rattle.grid_geo.proofs.Disjoint.{none_below}
use Rattle.grid_geo.proofs.Lines.{IsOnLine, first_end_on_line, second_end_on_line, gaps_on_line}
use Rattle.grid_geo.proofs.Places.{x_gap, y_gap, IsAt, IsOn, at_from_facts, on_facts}
use Rattle.planar_sweep.specs.Over.{GoesForward, is_slanted, starts_over, ends_over, is_over, starts_apart, ends_apart, is_end_or_left, is_end_or_right, shares_line, same_ends, MeetAtEnds, StandsOver}
use Rattle.planar_sweep.proofs.Gaps.{Reaches, reaches_itself}
use Rattle.planar_sweep.proofs.Heights.{upright, slope, rest, at_point, at_grid, cross_by_gaps, stands_up}

-- ---- tests

not_right : (z : ℤ) → pos 0 ≤ℤ z → int_le (pos 0) (int_signum z) ≡ true
not_right z h = by_signum z
    (λ l f. absurd (omega (arith, ints, h, l)))
    (λ l f. subst (λ (w : ℤ). int_le (pos 0) w ≡ true) (sym f) refl)
    (λ l f. subst (λ (w : ℤ). int_le (pos 0) w ≡ true) (sym f) refl)

not_left : (z : ℤ) → z ≤ℤ pos 0 → int_le (int_signum z) (pos 0) ≡ true
not_left z h = by_signum z
    (λ l f. subst (λ (w : ℤ). int_le w (pos 0) ≡ true) (sym f) refl)
    (λ l f. subst (λ (w : ℤ). int_le w (pos 0) ≡ true) (sym f) refl)
    (λ l f. absurd (omega (arith, ints, h, l)))

strictly_left : (z : ℤ) → int_lt (pos 0) (int_signum z) ≡ true → pos 0 <ℤ z
strictly_left z e = let h = (Decides-int_lt (pos 0) (int_signum z)).0 e in by_signum z
    (λ l f. absurd (omega (arith, ints, h, f))) (λ l f. absurd (omega (arith, ints, h, f))) (λ l f. l)

strictly_right : (z : ℤ) → int_lt (int_signum z) (pos 0) ≡ true → z <ℤ pos 0
strictly_right z e = let h = (Decides-int_lt (int_signum z) (pos 0)).0 e in by_signum z
    (λ l f. l) (λ l f. absurd (omega (arith, ints, h, f))) (λ l f. absurd (omega (arith, ints, h, f)))

-- which of the four tests is that of two segments
over_by : (s t : Seg) (b c : Bool) → is_slanted s ≡ b → is_slanted t ≡ c
    → (if b then if c then starts_over s t && ends_over s t else int_le (side s.a s.b t.b) (pos 0) else if c then int_le (pos 0) (side t.a t.b s.a) else int_le t.b.y s.a.y) ≡ true
    → is_over s t ≡ true
over_by s t b c f g h = subst₂ (λ (x y : Bool). (if x then if y then starts_over s t && ends_over s t else int_le (side s.a s.b t.b) (pos 0) else if y then int_le (pos 0) (side t.a t.b s.a) else int_le t.b.y s.a.y) ≡ true) (sym f) (sym g) h

-- ---- what two segments have in common

abbrev IsEndOf : Seg → Point → Type 0
IsEndOf s v = (v ≡ s.a) ⊎ (v ≡ s.b)

end_on_line : (s : Seg) (v : Point) → IsEndOf s v → IsOnLine s v
end_on_line s v (inl e) = subst (λ (w : Point). IsOnLine s w) (sym e) (first_end_on_line s)
end_on_line s v (inr e) = subst (λ (w : Point). IsOnLine s w) (sym e) (second_end_on_line s)

-- a point at an end of both is permitted
permitted : (s t : Seg) (p : Fraction) (v : Point) → IsEndOf s v → IsEndOf t v → is_at p v ≡ true → is_permitted (same_ends s t) s t p ≡ true
permitted s t p v end_s end_t at = by end_s
  where
    end_there : (w : Point) → v ≡ w → same_point w t.a || same_point w t.b ≡ true
    end_there w e = elim end_t [
      | inl f ↦ or_left (same_point w t.a) (same_point w t.b) (same_point-from w t.a (sym e ∙ f))
      | inr f ↦ or_right (same_point w t.a) (same_point w t.b) (same_point-from w t.b (sym e ∙ f))
    ]

    there : (w : Point) → v ≡ w → (same_point w t.a || same_point w t.b) && is_at p w ≡ true
    there w e = and_from (same_point w t.a || same_point w t.b) (is_at p w) (end_there w e) (subst (λ (u : Point). is_at p u ≡ true) e at)

    by : IsEndOf s v → is_permitted (same_ends s t) s t p ≡ true
    by (inl e) = or_left ((same_point s.a t.a || same_point s.a t.b) && is_at p s.a) ((same_point s.b t.a || same_point s.b t.b) && is_at p s.b) (there s.a e)
    by (inr e) = or_right ((same_point s.a t.a || same_point s.a t.b) && is_at p s.a) ((same_point s.b t.a || same_point s.b t.b) && is_at p s.b) (there s.b e)

-- two segments meet at ends alone where all that they have in common is at one end of both, and where they have nothing in common
meet_at : (s t : Seg) (v : Point) → IsEndOf s v → IsEndOf t v → ((p : Fraction) → pos 0 <ℤ p.d → IsOn p s → IsOn p t → IsAt p v) → MeetAtEnds s t
meet_at s t v end_s end_t at = λ p common.
    true≢false (sym (permitted s t p v end_s end_t (at_from_facts p v (at p common.rational (on_facts p s common.first) (on_facts p t common.second)))) ∙ common.forbidden)

meet_nowhere : (s t : Seg) → ((p : Fraction) → pos 0 <ℤ p.d → IsOn p s → IsOn p t → ⊥) → MeetAtEnds s t
meet_nowhere s t none = λ p common. none p common.rational (on_facts p s common.first) (on_facts p t common.second)

-- a point of a slanted segment is at an end where it has the abscissa of that
at_end : (s : Seg) (p : Fraction) (v : Point) → s.a.x <ℤ s.b.x → IsOn p s → IsEndOf s v → x_gap p v ≡ pos 0 → IsAt p v
at_end s p v right on end e = record {
  x = e;
  y = zero_from_mul_left (run s) (λ f. apart_from_lt (sub_positive right) (sym f)) (flat (run s *ℤ y_gap p v) (rise s *ℤ x_gap p v) (gaps_on_line s p v on.line (end_on_line s v end))
      (ap (λ (z : ℤ). rise s *ℤ z) e ∙ *ℤ-zero (rise s)));
}
  where
    flat : (y z : ℤ) → y -ℤ z ≡ pos 0 → z ≡ pos 0 → y ≡ pos 0
    flat y z h k = omega (arith, ints)

-- ---- two slanted segments: their difference of heights is an affine function of the abscissa, which is 0 at a common point

-- where a sum of two products is 0, a factor is not positive if the one beside it is positive and the other two are not negative
first_not_positive : {a b c e : ℤ} → a *ℤ b +ℤ c *ℤ e ≡ pos 0 → pos 0 <ℤ a → pos 0 ≤ℤ c → pos 0 ≤ℤ e → b ≤ℤ pos 0
first_not_positive {a} {b} {c} {e} f h i j = not_positive_from_mul a b h (first (a *ℤ b) (c *ℤ e) f (mul_not_negative i j))
  where
    first : (y z : ℤ) → y +ℤ z ≡ pos 0 → pos 0 ≤ℤ z → y ≤ℤ pos 0
    first y z f h = omega (arith, ints)

last_not_positive : {a b c e : ℤ} → a *ℤ b +ℤ c *ℤ e ≡ pos 0 → pos 0 ≤ℤ a → pos 0 ≤ℤ b → pos 0 <ℤ c → e ≤ℤ pos 0
last_not_positive {a} {b} {c} {e} f h i j = not_positive_from_mul c e j (last (a *ℤ b) (c *ℤ e) f (mul_not_negative h i))
  where
    last : (y z : ℤ) → y +ℤ z ≡ pos 0 → pos 0 ≤ℤ y → z ≤ℤ pos 0
    last y z f h = omega (arith, ints)

-- An affine function is 0 at n / d, which is from u to v. So where it is positive at one of the two and not negative at the other, n / d
-- is the other, and it is not positive at both.
module _ (m r u v n d : ℤ) (flat : m *ℤ n +ℤ r *ℤ d ≡ pos 0) (after : pos 0 ≤ℤ (n -ℤ d *ℤ u)) (before : (n -ℤ d *ℤ v) ≤ℤ pos 0) where
  weighed : (m *ℤ v +ℤ r) *ℤ (n -ℤ d *ℤ u) +ℤ (m *ℤ u +ℤ r) *ℤ (d *ℤ v -ℤ n) ≡ pos 0
  weighed = same_value (m ∷ r ∷ u ∷ v ∷ n ∷ d ∷ []) ((var 0 ⊗ var 3 ⊕ var 1) ⊗ (var 4 ⊖ var 5 ⊗ var 2) ⊕ (var 0 ⊗ var 2 ⊕ var 1) ⊗ (var 5 ⊗ var 3 ⊖ var 4)) ((var 3 ⊖ var 2) ⊗ (var 0 ⊗ var 4 ⊕ var 1 ⊗ var 5)) refl
      ∙ ap (λ (z : ℤ). (v -ℤ u) *ℤ z) flat ∙ *ℤ-zero (v -ℤ u)

  at_start : pos 0 ≤ℤ (m *ℤ u +ℤ r) → pos 0 <ℤ (m *ℤ v +ℤ r) → n -ℤ d *ℤ u ≡ pos 0
  at_start h k = same_from_le (first_not_positive weighed k h (turned (d *ℤ v) before)) after
    where
      turned : (z : ℤ) → (n -ℤ z) ≤ℤ pos 0 → pos 0 ≤ℤ (z -ℤ n)
      turned z h = omega (arith, ints)

  at_last : pos 0 <ℤ (m *ℤ u +ℤ r) → pos 0 ≤ℤ (m *ℤ v +ℤ r) → n -ℤ d *ℤ v ≡ pos 0
  at_last h k = same_from_le before (turned (d *ℤ v) (last_not_positive weighed k after h))
    where
      turned : (z : ℤ) → (z -ℤ n) ≤ℤ pos 0 → pos 0 ≤ℤ (n -ℤ z)
      turned z h = omega (arith, ints)

  not_both : pos 0 <ℤ (m *ℤ u +ℤ r) → pos 0 <ℤ (m *ℤ v +ℤ r) → pos 0 <ℤ d → ⊥
  not_both h k rational = apart_from_lt (mul_positive rational h) (sym (same_value (m ∷ r ∷ u ∷ d ∷ []) (var 3 ⊗ (var 0 ⊗ var 2 ⊕ var 1)) (var 0 ⊗ (var 3 ⊗ var 2) ⊕ var 1 ⊗ var 3) refl
      ∙ ap (λ (z : ℤ). m *ℤ z +ℤ r *ℤ d) (sym (there (d *ℤ u) (at_start (le_from_lt h) k))) ∙ flat))
    where
      there : (z : ℤ) → n -ℤ z ≡ pos 0 → n ≡ z
      there z e = omega (arith, ints)

module _ (s t : Seg) (slanted_s : is_slanted s ≡ true) (slanted_t : is_slanted t ≡ true) where
  s_right : s.a.x <ℤ s.b.x
  s_right = (Decides-int_lt s.a.x s.b.x).0 slanted_s

  t_right : t.a.x <ℤ t.b.x
  t_right = (Decides-int_lt t.a.x t.b.x).0 slanted_t

  -- the function is positive at an end of the first segment strictly at the left of the second, and at one of the second strictly at the
  -- right of the first
  over_first : (v : Point) → IsEndOf s v → int_lt (pos 0) (side t.a t.b v) ≡ true → pos 0 <ℤ (slope s t *ℤ v.x +ℤ rest s t)
  over_first v end e = subst (λ (z : ℤ). pos 0 <ℤ z) (sym same) (mul_positive (sub_positive s_right) (strictly_left (cross t.a t.b v) e))
    where
      same : slope s t *ℤ v.x +ℤ rest s t ≡ run s *ℤ cross t.a t.b v
      same = at_grid s t v ∙ ap (λ (z : ℤ). run s *ℤ cross t.a t.b v -ℤ run t *ℤ z) (end_on_line s v end).line
          ∙ same_value ((run s *ℤ cross t.a t.b v) ∷ run t ∷ []) (var 0 ⊖ var 1 ⊗ number (pos 0)) (var 0) refl

  over_second : (v : Point) → IsEndOf t v → int_lt (side s.a s.b v) (pos 0) ≡ true → pos 0 <ℤ (slope s t *ℤ v.x +ℤ rest s t)
  over_second v end e = subst (λ (z : ℤ). pos 0 <ℤ z) (sym same) (opposite (run t *ℤ cross s.a s.b v) (mul_negative_right (sub_positive t_right) (strictly_right (cross s.a s.b v) e)))
    where
      opposite : (z : ℤ) → z <ℤ pos 0 → pos 0 <ℤ (pos 0 -ℤ z)
      opposite z k = omega (arith, ints)

      same : slope s t *ℤ v.x +ℤ rest s t ≡ pos 0 -ℤ run t *ℤ cross s.a s.b v
      same = at_grid s t v ∙ ap (λ (z : ℤ). run s *ℤ z -ℤ run t *ℤ cross s.a s.b v) (end_on_line t v end).line
          ∙ same_value (run s ∷ (run t *ℤ cross s.a s.b v) ∷ []) (var 0 ⊗ number (pos 0) ⊖ var 1) (number (pos 0) ⊖ var 1) refl

  -- and 0 at an end of both
  level : (v : Point) → IsEndOf s v → IsEndOf t v → slope s t *ℤ v.x +ℤ rest s t ≡ pos 0
  level v end_s end_t = at_grid s t v ∙ ap (λ (z : ℤ). run s *ℤ z -ℤ run t *ℤ cross s.a s.b v) (end_on_line t v end_t).line
      ∙ ap (λ (z : ℤ). run s *ℤ pos 0 -ℤ run t *ℤ z) (end_on_line s v end_s).line
      ∙ same_value (run s ∷ run t ∷ []) (var 0 ⊗ number (pos 0) ⊖ var 1 ⊗ number (pos 0)) (number (pos 0)) refl

  -- strict tests give those that are not strict
  weaker : (y z : ℤ) → int_lt (pos 0) y || int_lt z (pos 0) ≡ true → int_le (pos 0) y || int_le z (pos 0) ≡ true
  weaker y z e = elim (or_cases (int_lt (pos 0) y) (int_lt z (pos 0)) e) [
    | inl f ↦ or_left (int_le (pos 0) y) (int_le z (pos 0)) ((Decides-int_le (pos 0) y).1 (le_from_lt ((Decides-int_lt (pos 0) y).0 f)))
    | inr f ↦ or_right (int_le (pos 0) y) (int_le z (pos 0)) ((Decides-int_le z (pos 0)).1 (le_from_lt ((Decides-int_lt z (pos 0)).0 f)))
  ]

  -- which hold too where an end is an end of the other
  by_end : (v w : Point) → (IsEndOf t v) ⊎ (IsEndOf s w) → int_le (pos 0) (side t.a t.b v) || int_le (side s.a s.b w) (pos 0) ≡ true
  by_end v w (inl h) = or_left (int_le (pos 0) (side t.a t.b v)) (int_le (side s.a s.b w) (pos 0)) (not_right (cross t.a t.b v) (le_from_same (sym (end_on_line t v h).line)))
  by_end v w (inr h) = or_right (int_le (pos 0) (side t.a t.b v)) (int_le (side s.a s.b w) (pos 0)) (not_left (cross s.a s.b w) (le_from_same (end_on_line s w h).line))

  over : starts_over s t ≡ true → ends_over s t ≡ true → is_over s t ≡ true
  over f g = over_by s t true true slanted_s slanted_t (and_from (starts_over s t) (ends_over s t) f g)

  -- a common point: before it is a start at which the first one is strictly over the second, and behind it such an end
  module _ (p : Fraction) (rational : pos 0 <ℤ p.d) (on_s : IsOn p s) (on_t : IsOn p t) where
    at_s : Reaches p s
    at_s = reaches_itself p s rational (inl s_right) on_s

    at_t : Reaches p t
    at_t = reaches_itself p t rational (inl t_right) on_t

    flat : slope s t *ℤ p.nx +ℤ rest s t *ℤ p.d ≡ pos 0
    flat = sym (at_point s t p on_s.line) ∙ ap (λ (z : ℤ). run s *ℤ z) on_t.line ∙ *ℤ-zero (run s)

    from_start : {P : Type 0} → starts_apart s t ≡ true → ((u : ℤ) → pos 0 ≤ℤ (p.nx -ℤ p.d *ℤ u) → pos 0 <ℤ (slope s t *ℤ u +ℤ rest s t) → P) → P
    from_start e f = elim (or_cases (int_lt (pos 0) (side t.a t.b s.a)) (int_lt (side s.a s.b t.a) (pos 0)) e) [
      | inl h ↦ f s.a.x at_s.from (over_first s.a (inl refl) h)
      | inr h ↦ f t.a.x at_t.from (over_second t.a (inl refl) h)
    ]

    to_end : {P : Type 0} → ends_apart s t ≡ true → ((v : ℤ) → (p.nx -ℤ p.d *ℤ v) ≤ℤ pos 0 → pos 0 <ℤ (slope s t *ℤ v +ℤ rest s t) → P) → P
    to_end e f = elim (or_cases (int_lt (pos 0) (side t.a t.b s.b)) (int_lt (side s.a s.b t.b) (pos 0)) e) [
      | inl h ↦ f s.b.x at_s.to (over_first s.b (inr refl) h)
      | inr h ↦ f t.b.x at_t.to (over_second t.b (inr refl) h)
    ]

  -- strictly apart at both
  pub apart_at_both : starts_apart s t ≡ true → ends_apart s t ≡ true → StandsOver s t
  apart_at_both e f = record {
    over = over (weaker (side t.a t.b s.a) (side s.a s.b t.a) e) (weaker (side t.a t.b s.b) (side s.a s.b t.b) f);
    ends = meet_nowhere s t (λ p rational on_s on_t. from_start p rational on_s on_t e (λ u after h. to_end p rational on_s on_t f (λ v before k.
        not_both (slope s t) (rest s t) u v p.nx p.d (flat p rational on_s on_t) after before h k rational)));
  }

  -- with one start, or one end
  pub apart_at_ends : s.a ≡ t.a → ends_apart s t ≡ true → StandsOver s t
  apart_at_ends e f = record {
    over = over (by_end s.a t.a (inl (inl e))) (weaker (side t.a t.b s.b) (side s.a s.b t.b) f);
    ends = meet_at s t s.a (inl refl) (inl e) (λ p rational on_s on_t. at_end s p s.a s_right on_s (inl refl) (to_end p rational on_s on_t f (λ v before k.
        at_start (slope s t) (rest s t) s.a.x v p.nx p.d (flat p rational on_s on_t) (at_s p rational on_s on_t).from before (le_from_same (sym (level s.a (inl refl) (inl e)))) k)));
  }

  pub apart_at_starts : s.b ≡ t.b → starts_apart s t ≡ true → StandsOver s t
  apart_at_starts e f = record {
    over = over (weaker (side t.a t.b s.a) (side s.a s.b t.a) f) (by_end s.b t.b (inl (inr e)));
    ends = meet_at s t s.b (inr refl) (inr e) (λ p rational on_s on_t. at_end s p s.b s_right on_s (inr refl) (from_start p rational on_s on_t f (λ u after h.
        at_last (slope s t) (rest s t) u s.b.x p.nx p.d (flat p rational on_s on_t) after (at_s p rational on_s on_t).to h (le_from_same (sym (level s.b (inr refl) (inr e)))))));
  }

  -- one of them ends where the other begins
  end_to_start : s.b ≡ t.a → StandsOver s t
  end_to_start e = record {
    over = over (by_end s.a t.a (inr (inr (sym e)))) (by_end s.b t.b (inl (inl e)));
    ends = meet_at s t s.b (inr refl) (inl e) (λ p rational on_s on_t. at_end s p s.b s_right on_s (inr refl)
        (same_from_le (at_s p rational on_s on_t).to (subst (λ (v : Point). pos 0 ≤ℤ x_gap p v) (sym e) (at_t p rational on_s on_t).from)));
  }

  start_to_end : t.b ≡ s.a → StandsOver s t
  start_to_end e = record {
    over = over (by_end s.a t.a (inl (inr (sym e)))) (by_end s.b t.b (inr (inl e)));
    ends = meet_at s t s.a (inl refl) (inr (sym e)) (λ p rational on_s on_t. at_end s p s.a s_right on_s (inl refl)
        (same_from_le (subst (λ (v : Point). x_gap p v ≤ℤ pos 0) e (at_t p rational on_s on_t).to) (at_s p rational on_s on_t).from));
  }

  pub are_end_to_start : same_point s.b t.a || same_point t.b s.a ≡ true → StandsOver s t
  are_end_to_start e = elim (or_cases (same_point s.b t.a) (same_point t.b s.a) e) [
    | inl f ↦ end_to_start (same_point-true s.b t.a f)
    | inr f ↦ start_to_end (same_point-true t.b s.a f)
  ]

-- ---- a slanted segment and an upright one

end_or_left : (s : Seg) (v : Point) → is_end_or_left s v ≡ true → IsEndOf s v ⊎ (pos 0 <ℤ cross s.a s.b v)
end_or_left s v e = elim (or_cases (same_point v s.a || same_point v s.b) (int_lt (pos 0) (side s.a s.b v)) e) [
  | inl f ↦ inl (elim (or_cases (same_point v s.a) (same_point v s.b) f) [ inl g ↦ inl (same_point-true v s.a g) | inr g ↦ inr (same_point-true v s.b g) ])
  | inr f ↦ inr (strictly_left (cross s.a s.b v) f)
]

end_or_right : (s : Seg) (v : Point) → is_end_or_right s v ≡ true → IsEndOf s v ⊎ (cross s.a s.b v <ℤ pos 0)
end_or_right s v e = elim (or_cases (same_point v s.a || same_point v s.b) (int_lt (side s.a s.b v) (pos 0)) e) [
  | inl f ↦ inl (elim (or_cases (same_point v s.a) (same_point v s.b) f) [ inl g ↦ inl (same_point-true v s.a g) | inr g ↦ inr (same_point-true v s.b g) ])
  | inr f ↦ inr (strictly_right (cross s.a s.b v) f)
]

-- the lower end of an upright segment is an end of a slanted one, or at its left
pub upright_over : (s t : Seg) → GoesForward s → is_slanted s ≡ false → is_slanted t ≡ true → is_end_or_left t s.a ≡ true → StandsOver s t
upright_over s t f g h e = by (end_or_left t s.a e)
  where
    right : t.a.x <ℤ t.b.x
    right = (Decides-int_lt t.a.x t.b.x).0 h

    clash : (k a b c : ℤ) → k ≡ a +ℤ (b -ℤ c) → k ≡ pos 0 → pos 0 <ℤ a → pos 0 ≤ℤ b → c ≡ pos 0 → ⊥
    clash k a b c i j l m n = omega (arith, ints)

    by : IsEndOf t s.a ⊎ (pos 0 <ℤ cross t.a t.b s.a) → StandsOver s t
    by (inl end) = record {
      over = over_by s t false true g h (not_right (cross t.a t.b s.a) (le_from_same (sym (end_on_line t s.a end).line)));
      ends = meet_at s t s.a (inl refl) end (λ p rational on_s on_t. at_end t p s.a right on_t end (stands_up p s rational (upright s f g) on_s).first);
    }
    by (inr left) = record {
      over = over_by s t false true g h (not_right (cross t.a t.b s.a) (le_from_lt left));
      ends = meet_nowhere s t (λ p rational on_s on_t.
          let u = stands_up p s rational (upright s f g) on_s in
          clash (cross_at t.a t.b p) (p.d *ℤ cross t.a t.b s.a) (run t *ℤ y_gap p s.a) (rise t *ℤ x_gap p s.a) (cross_by_gaps t p s.a) on_t.line
          (mul_positive rational left) (mul_not_negative (le_from_lt (sub_positive right)) u.above) (ap (λ (z : ℤ). rise t *ℤ z) u.first ∙ *ℤ-zero (rise t)));
    }

-- the upper end of an upright segment is an end of a slanted one, or at its right
pub over_upright : (s t : Seg) → GoesForward t → is_slanted s ≡ true → is_slanted t ≡ false → is_end_or_right s t.b ≡ true → StandsOver s t
over_upright s t f g h e = by (end_or_right s t.b e)
  where
    right : s.a.x <ℤ s.b.x
    right = (Decides-int_lt s.a.x s.b.x).0 g

    clash : (k a b c : ℤ) → k ≡ a +ℤ (b -ℤ c) → k ≡ pos 0 → a <ℤ pos 0 → b ≤ℤ pos 0 → c ≡ pos 0 → ⊥
    clash k a b c i j l m n = omega (arith, ints)

    by : IsEndOf s t.b ⊎ (cross s.a s.b t.b <ℤ pos 0) → StandsOver s t
    by (inl end) = record {
      over = over_by s t true false g h (not_left (cross s.a s.b t.b) (le_from_same (end_on_line s t.b end).line));
      ends = meet_at s t t.b end (inr refl) (λ p rational on_s on_t. at_end s p t.b right on_s end (stands_up p t rational (upright t f h) on_t).last);
    }
    by (inr below) = record {
      over = over_by s t true false g h (not_left (cross s.a s.b t.b) (le_from_lt below));
      ends = meet_nowhere s t (λ p rational on_s on_t.
          let u = stands_up p t rational (upright t f h) on_t in
          clash (cross_at s.a s.b p) (p.d *ℤ cross s.a s.b t.b) (run s *ℤ y_gap p t.b) (rise s *ℤ x_gap p t.b) (cross_by_gaps s p t.b) on_s.line
          (mul_negative_right rational below) (mul_not_positive (le_from_lt (sub_positive right)) u.below) (ap (λ (z : ℤ). rise s *ℤ z) u.last ∙ *ℤ-zero (rise s)));
    }

-- ---- two upright segments

pub uprights_over : (s t : Seg) → GoesForward s → GoesForward t → is_slanted s ≡ false → is_slanted t ≡ false → t.b.y ≤ℤ s.a.y → StandsOver s t
uprights_over s t fs ft g h low = record {
  over = over_by s t false false g h ((Decides-int_le t.b.y s.a.y).1 low);
  ends = λ p common.
      let u = stands_up p s common.rational (upright s fs g) (on_facts p s common.first) in
      let w = stands_up p t common.rational (upright t ft h) (on_facts p t common.second) in
      let y = level p.ny (p.d *ℤ s.a.y) (p.d *ℤ t.b.y) (mul_le_left (le_from_lt common.rational) low) u.above w.below in
      let x = one p.nx (p.d *ℤ s.a.x) (p.d *ℤ t.b.x) u.first w.last in
      let cancel = λ (m n : ℤ) (e : p.d *ℤ m ≡ p.d *ℤ n). same_from_mul_left p.d (λ e. apart_from_lt common.rational (sym e)) e in
      true≢false (sym (permitted s t p s.a (inl refl) (inr (point_same s.a t.b (cancel s.a.x t.b.x x) (cancel s.a.y t.b.y y.1))) (at_from_facts p s.a (record { x = u.first; y = y.0 }))) ∙ common.forbidden);
}
  where
    one : (n y z : ℤ) → n -ℤ y ≡ pos 0 → n -ℤ z ≡ pos 0 → y ≡ z
    one n y z e f = omega (arith, ints)

    level : (n y z : ℤ) → z ≤ℤ y → pos 0 ≤ℤ (n -ℤ y) → (n -ℤ z) ≤ℤ pos 0 → (n -ℤ y ≡ pos 0) × (y ≡ z)
    level n y z e f g = (omega (arith, ints), omega (arith, ints))

-- ---- by coordinates alone

-- no vertical line meets both
pub far_over : (s t : Seg) → GoesForward s → GoesForward t → shares_line s t ≡ false → is_over s t ≡ true → StandsOver s t
far_over s t fs ft far e = record {
  over = e;
  ends = meet_nowhere s t (λ p rational on_s on_t.
      let at_s = reaches_itself p s rational fs on_s in
      let at_t = reaches_itself p t rational ft on_t in
      true≢false (sym (and_from (int_le t.a.x s.b.x) (int_le s.a.x t.b.x) ((Decides-int_le t.a.x s.b.x).1 (ordered p.nx p.d t.a.x s.b.x rational at_t.from at_s.to))
      ((Decides-int_le s.a.x t.b.x).1 (ordered p.nx p.d s.a.x t.b.x rational at_s.from at_t.to))) ∙ far));
}
  where
    ordered : (n d u v : ℤ) → pos 0 <ℤ d → pos 0 ≤ℤ (n -ℤ d *ℤ u) → (n -ℤ d *ℤ v) ≤ℤ pos 0 → u ≤ℤ v
    ordered n d u v rational from to = le_from_mul_left d rational (joined (d *ℤ u) (d *ℤ v) from to)
      where
        joined : (y z : ℤ) → pos 0 ≤ℤ (n -ℤ y) → (n -ℤ z) ≤ℤ pos 0 → y ≤ℤ z
        joined y z h k = omega (arith, ints)

-- a point between the abscissas of the ends of a segment that is not lower than either, and one that is not higher
cross_in_box : (a b v : Point) → (b.x -ℤ v.x) *ℤ (v.y -ℤ a.y) +ℤ (v.x -ℤ a.x) *ℤ (v.y -ℤ b.y) ≡ cross a b v
cross_in_box a b v = same_value (a.x ∷ a.y ∷ b.x ∷ b.y ∷ v.x ∷ v.y ∷ [])
    ((var 2 ⊖ var 4) ⊗ (var 5 ⊖ var 1) ⊕ (var 4 ⊖ var 0) ⊗ (var 5 ⊖ var 3)) ((var 2 ⊖ var 0) ⊗ (var 5 ⊖ var 1) ⊖ (var 3 ⊖ var 1) ⊗ (var 4 ⊖ var 0)) refl

above_both : (s : Seg) (v : Point) → s.a.x ≤ℤ v.x → v.x ≤ℤ s.b.x → s.a.y <ℤ v.y → s.b.y <ℤ v.y → int_le (pos 0) (side s.a s.b v) ≡ true
above_both s v from to h k = not_right (cross s.a s.b v) (subst (λ (z : ℤ). pos 0 ≤ℤ z) (cross_in_box s.a s.b v)
    (sum (mul_not_negative (sub_not_negative to) (sub_not_negative (le_from_lt h))) (mul_not_negative (sub_not_negative from) (sub_not_negative (le_from_lt k)))))
  where
    sum : {y z : ℤ} → pos 0 ≤ℤ y → pos 0 ≤ℤ z → pos 0 ≤ℤ (y +ℤ z)
    sum h k = omega (arith, ints)

below_both : (s : Seg) (v : Point) → s.a.x ≤ℤ v.x → v.x ≤ℤ s.b.x → v.y <ℤ s.a.y → v.y <ℤ s.b.y → int_le (side s.a s.b v) (pos 0) ≡ true
below_both s v from to h k = not_left (cross s.a s.b v) (subst (λ (z : ℤ). z ≤ℤ pos 0) (cross_in_box s.a s.b v)
    (sum (mul_not_positive (sub_not_negative to) (le_from_lt (sub_negative h))) (mul_not_positive (sub_not_negative from) (le_from_lt (sub_negative k)))))
  where
    sum : {y z : ℤ} → y ≤ℤ pos 0 → z ≤ℤ pos 0 → (y +ℤ z) ≤ℤ pos 0
    sum h k = omega (arith, ints)

-- both ends of the first segment are higher than both of the second, and a vertical line meets both
pub higher_over : (s t : Seg) → GoesForward s → GoesForward t → shares_line s t ≡ true → t.a.y <ℤ s.a.y → t.a.y <ℤ s.b.y → t.b.y <ℤ s.a.y → t.b.y <ℤ s.b.y → StandsOver s t
higher_over s t fs ft shared aa ab ba bb = record {
  over = by (is_slanted s) refl (is_slanted t) refl;
  ends = λ p common. true≢false (sym common.first ∙ none_below t s aa ab ba bb p common.rational common.second);
}
  where
    parts : (int_le t.a.x s.b.x ≡ true) × (int_le s.a.x t.b.x ≡ true)
    parts = and_parts (int_le t.a.x s.b.x) (int_le s.a.x t.b.x) shared

    from : t.a.x ≤ℤ s.b.x
    from = (Decides-int_le t.a.x s.b.x).0 parts.0

    to : s.a.x ≤ℤ t.b.x
    to = (Decides-int_le s.a.x t.b.x).0 parts.1

    starts : starts_over s t ≡ true
    starts = by_lt_z s.a.x t.a.x
        (λ l. or_right (int_le (pos 0) (side t.a t.b s.a)) (int_le (side s.a s.b t.a) (pos 0)) (below_both s t.a (le_from_lt l) from aa ab))
        (λ l. or_left (int_le (pos 0) (side t.a t.b s.a)) (int_le (side s.a s.b t.a) (pos 0)) (above_both t s.a l to aa ba))

    finish : ends_over s t ≡ true
    finish = by_lt_z t.b.x s.b.x
        (λ l. or_right (int_le (pos 0) (side t.a t.b s.b)) (int_le (side s.a s.b t.b) (pos 0)) (below_both s t.b to (le_from_lt l) ba bb))
        (λ l. or_left (int_le (pos 0) (side t.a t.b s.b)) (int_le (side s.a s.b t.b) (pos 0)) (above_both t s.b from l ab bb))

    by : (b : Bool) → is_slanted s ≡ b → (c : Bool) → is_slanted t ≡ c → is_over s t ≡ true
    by true g true h = over_by s t true true g h (and_from (starts_over s t) (ends_over s t) starts finish)
    by true g false h = over_by s t true false g h (below_both s t.b to (subst (λ (z : ℤ). z ≤ℤ s.b.x) (upright t ft h).same from) ba bb)
    by false g true h = over_by s t false true g h (above_both t s.a (subst (λ (z : ℤ). t.a.x ≤ℤ z) (sym (upright s fs g).same) from) to aa ba)
    by false g false h = over_by s t false false g h ((Decides-int_le t.b.y s.a.y).1 (le_from_lt ba))
