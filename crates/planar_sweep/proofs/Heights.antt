-- What the test for one segment over another says: on each vertical line that meets both, no point of the first is lower than one of the
-- second.
use Rattle.std.proofs.Common.{if◌then◌else◌, ◌≡◌, inl, inr, Bool, true, false, ◌&&◌, [], ◌∷◌, ℤ, pos, ◌+ℤ◌, ◌-ℤ◌, ◌*ℤ◌, ◌<ℤ◌, ◌≤ℤ◌, int_le, refl, sym, ap, ◌∙◌, subst, arith}
use Rattle.std.specs.Int.{int_signum}
use Rattle.std.proofs.lemmas.Int.{ints}
use Rattle.std.proofs.lemmas.Bool.{and_parts, or_cases}
use Rattle.lemmas.proofs.Polynomials.{same_value, var, number, ◌⊕◌, ◌⊖◌, ◌⊗◌}
use Rattle.lemmas.proofs.Signs.{Decides-int_lt, Decides-int_le, int_lt-false, by_order, by_signum, le_from_lt, le_from_same, le_le_trans, le_from_sub, mul_le_left, mul_le_right, mul_not_negative, mul_not_positive, not_negative_from_mul, not_negative_by, sub_positive}
use Rattle.tgap_model.specs.declared.geometry.Point.{Point}
use Rattle.tgap_model.specs.declared.geometry.Fraction.{Fraction}
use Rattle.tgap_model.specs.declared.geometry.Seg.{Seg}
use Rattle.tgap_model.specs.Point.{cross, side}
use Rattle.tgap_model.specs.Segment.{cross_at, run, rise}
use Rattle.grid_geo.proofs.Places.{x_gap, y_gap, IsOn}
use Rattle.planar_sweep.specs.Over.{GoesForward, is_slanted, starts_over, ends_over, is_over}
use Rattle.planar_sweep.proofs.Gaps.{from_gaps, Reaches, reaches_itself, reaches_again, OnOneLine}

-- the second point is not higher
abbrev pub IsNotHigher : Fraction → Fraction → Type 0
IsNotHigher q p = (q.ny *ℤ p.d) ≤ℤ (p.ny *ℤ q.d)

-- ---- signs

left_or_on : (z : ℤ) → int_le (pos 0) (int_signum z) ≡ true → pos 0 ≤ℤ z
left_or_on z e = let h = (Decides-int_le (pos 0) (int_signum z)).0 e in by_signum z
    (λ l f. absurd (omega (arith, ints, h, f))) (λ l f. le_from_same (sym l)) (λ l f. le_from_lt l)

right_or_on : (z : ℤ) → int_le (int_signum z) (pos 0) ≡ true → z ≤ℤ pos 0
right_or_on z e = let h = (Decides-int_le (int_signum z) (pos 0)).0 e in by_signum z
    (λ l f. le_from_lt l) (λ l f. le_from_same l) (λ l f. absurd (omega (arith, ints, h, f)))

-- ---- two points of one abscissa, of which one is on a line

module _ (s : Seg) (p q : Fraction) (i : pos 0 <ℤ p.d) (j : pos 0 <ℤ q.d) (line : OnOneLine p q) (right : s.a.x <ℤ s.b.x) where
  difference : run s *ℤ (p.ny *ℤ q.d -ℤ q.ny *ℤ p.d) ≡ q.d *ℤ cross_at s.a s.b p -ℤ p.d *ℤ cross_at s.a s.b q
  difference = same_value (s.a.x ∷ s.a.y ∷ s.b.x ∷ s.b.y ∷ p.nx ∷ p.ny ∷ p.d ∷ q.nx ∷ q.ny ∷ q.d ∷ [])
      ((var 2 ⊖ var 0) ⊗ (var 5 ⊗ var 9 ⊖ var 8 ⊗ var 6))
      ((var 9 ⊗ ((var 2 ⊖ var 0) ⊗ (var 5 ⊖ var 6 ⊗ var 1) ⊖ (var 3 ⊖ var 1) ⊗ (var 4 ⊖ var 6 ⊗ var 0))
      ⊖ var 6 ⊗ ((var 2 ⊖ var 0) ⊗ (var 8 ⊖ var 9 ⊗ var 1) ⊖ (var 3 ⊖ var 1) ⊗ (var 7 ⊖ var 9 ⊗ var 0)))
      ⊕ (var 3 ⊖ var 1) ⊗ (var 4 ⊗ var 9 ⊖ var 7 ⊗ var 6)) refl
      ∙ ap (λ (z : ℤ). (q.d *ℤ cross_at s.a s.b p -ℤ p.d *ℤ cross_at s.a s.b q) +ℤ rise s *ℤ (z -ℤ q.nx *ℤ p.d)) line
      ∙ same_value ((q.d *ℤ cross_at s.a s.b p -ℤ p.d *ℤ cross_at s.a s.b q) ∷ rise s ∷ (q.nx *ℤ p.d) ∷ []) (var 0 ⊕ var 1 ⊗ (var 2 ⊖ var 2)) (var 0) refl

  -- the first is not lower where it is at the left of the line that holds the second
  not_lower_by_first : cross_at s.a s.b q ≡ pos 0 → pos 0 ≤ℤ cross_at s.a s.b p → IsNotHigher q p
  not_lower_by_first e h = le_from_sub (q.ny *ℤ p.d) (p.ny *ℤ q.d)
      (not_negative_from_mul (run s) _ (sub_positive right) (subst (λ (z : ℤ). pos 0 ≤ℤ z) (sym same) (mul_not_negative (le_from_lt j) h)))
    where
      same : run s *ℤ (p.ny *ℤ q.d -ℤ q.ny *ℤ p.d) ≡ q.d *ℤ cross_at s.a s.b p
      same = difference ∙ ap (λ (z : ℤ). q.d *ℤ cross_at s.a s.b p -ℤ p.d *ℤ z) e
          ∙ same_value ((q.d *ℤ cross_at s.a s.b p) ∷ p.d ∷ []) (var 0 ⊖ var 1 ⊗ number (pos 0)) (var 0) refl

  -- or where the second is at the right of the line that holds the first
  not_lower_by_second : cross_at s.a s.b p ≡ pos 0 → cross_at s.a s.b q ≤ℤ pos 0 → IsNotHigher q p
  not_lower_by_second e h = le_from_sub (q.ny *ℤ p.d) (p.ny *ℤ q.d)
      (not_negative_from_mul (run s) _ (sub_positive right) (subst (λ (z : ℤ). pos 0 ≤ℤ z) (sym same) (opposite (p.d *ℤ cross_at s.a s.b q) (mul_not_positive (le_from_lt i) h))))
    where
      opposite : (z : ℤ) → z ≤ℤ pos 0 → pos 0 ≤ℤ (pos 0 -ℤ z)
      opposite z k = omega (arith, ints)

      same : run s *ℤ (p.ny *ℤ q.d -ℤ q.ny *ℤ p.d) ≡ pos 0 -ℤ p.d *ℤ cross_at s.a s.b q
      same = difference ∙ ap (λ (z : ℤ). q.d *ℤ z -ℤ p.d *ℤ cross_at s.a s.b q) e
          ∙ same_value (q.d ∷ (p.d *ℤ cross_at s.a s.b q) ∷ []) (var 0 ⊗ number (pos 0) ⊖ var 1) (number (pos 0) ⊖ var 1) refl

-- ---- two slanted segments: the difference of their heights is an affine function of the abscissa

module _ (s t : Seg) where
  abbrev pub slope : ℤ
  slope = run t *ℤ rise s -ℤ rise t *ℤ run s

  abbrev pub rest : ℤ
  rest = run s *ℤ run t *ℤ (s.a.y -ℤ t.a.y) +ℤ run s *ℤ rise t *ℤ t.a.x -ℤ run t *ℤ rise s *ℤ s.a.x

  pub at_point : (p : Fraction) → cross_at s.a s.b p ≡ pos 0 → run s *ℤ cross_at t.a t.b p ≡ slope *ℤ p.nx +ℤ rest *ℤ p.d
  at_point p e = same_value (s.a.x ∷ s.a.y ∷ s.b.x ∷ s.b.y ∷ t.a.x ∷ t.a.y ∷ t.b.x ∷ t.b.y ∷ p.nx ∷ p.ny ∷ p.d ∷ [])
      ((var 2 ⊖ var 0) ⊗ ((var 6 ⊖ var 4) ⊗ (var 9 ⊖ var 10 ⊗ var 5) ⊖ (var 7 ⊖ var 5) ⊗ (var 8 ⊖ var 10 ⊗ var 4)))
      ((((var 6 ⊖ var 4) ⊗ (var 3 ⊖ var 1) ⊖ (var 7 ⊖ var 5) ⊗ (var 2 ⊖ var 0)) ⊗ var 8
      ⊕ ((var 2 ⊖ var 0) ⊗ (var 6 ⊖ var 4) ⊗ (var 1 ⊖ var 5) ⊕ (var 2 ⊖ var 0) ⊗ (var 7 ⊖ var 5) ⊗ var 4 ⊖ (var 6 ⊖ var 4) ⊗ (var 3 ⊖ var 1) ⊗ var 0) ⊗ var 10)
      ⊕ (var 6 ⊖ var 4) ⊗ ((var 2 ⊖ var 0) ⊗ (var 9 ⊖ var 10 ⊗ var 1) ⊖ (var 3 ⊖ var 1) ⊗ (var 8 ⊖ var 10 ⊗ var 0))) refl
      ∙ ap (λ (z : ℤ). (slope *ℤ p.nx +ℤ rest *ℤ p.d) +ℤ run t *ℤ z) e
      ∙ same_value ((slope *ℤ p.nx +ℤ rest *ℤ p.d) ∷ run t ∷ []) (var 0 ⊕ var 1 ⊗ number (pos 0)) (var 0) refl

  -- at a grid point, by its crosses with both
  pub at_grid : (v : Point) → slope *ℤ v.x +ℤ rest ≡ run s *ℤ cross t.a t.b v -ℤ run t *ℤ cross s.a s.b v
  at_grid v = same_value (s.a.x ∷ s.a.y ∷ s.b.x ∷ s.b.y ∷ t.a.x ∷ t.a.y ∷ t.b.x ∷ t.b.y ∷ v.x ∷ v.y ∷ [])
      (((var 6 ⊖ var 4) ⊗ (var 3 ⊖ var 1) ⊖ (var 7 ⊖ var 5) ⊗ (var 2 ⊖ var 0)) ⊗ var 8
      ⊕ ((var 2 ⊖ var 0) ⊗ (var 6 ⊖ var 4) ⊗ (var 1 ⊖ var 5) ⊕ (var 2 ⊖ var 0) ⊗ (var 7 ⊖ var 5) ⊗ var 4 ⊖ (var 6 ⊖ var 4) ⊗ (var 3 ⊖ var 1) ⊗ var 0))
      ((var 2 ⊖ var 0) ⊗ ((var 6 ⊖ var 4) ⊗ (var 9 ⊖ var 5) ⊖ (var 7 ⊖ var 5) ⊗ (var 8 ⊖ var 4))
      ⊖ (var 6 ⊖ var 4) ⊗ ((var 2 ⊖ var 0) ⊗ (var 9 ⊖ var 1) ⊖ (var 3 ⊖ var 1) ⊗ (var 8 ⊖ var 0))) refl

  module _ (s_right : s.a.x <ℤ s.b.x) (t_right : t.a.x <ℤ t.b.x) where
    -- of a point of the first segment
    from_first : (v : Point) → cross s.a s.b v ≡ pos 0 → int_le (pos 0) (side t.a t.b v) ≡ true → pos 0 ≤ℤ (slope *ℤ v.x +ℤ rest)
    from_first v on e = subst (λ (z : ℤ). pos 0 ≤ℤ z) (sym same) (mul_not_negative (le_from_lt (sub_positive s_right)) (left_or_on (cross t.a t.b v) e))
      where
        same : slope *ℤ v.x +ℤ rest ≡ run s *ℤ cross t.a t.b v
        same = at_grid v ∙ ap (λ (z : ℤ). run s *ℤ cross t.a t.b v -ℤ run t *ℤ z) on
            ∙ same_value ((run s *ℤ cross t.a t.b v) ∷ run t ∷ []) (var 0 ⊖ var 1 ⊗ number (pos 0)) (var 0) refl

    -- and of the second
    from_second : (v : Point) → cross t.a t.b v ≡ pos 0 → int_le (side s.a s.b v) (pos 0) ≡ true → pos 0 ≤ℤ (slope *ℤ v.x +ℤ rest)
    from_second v on e = subst (λ (z : ℤ). pos 0 ≤ℤ z) (sym same) (opposite (run t *ℤ cross s.a s.b v) (mul_not_positive (le_from_lt (sub_positive t_right)) (right_or_on (cross s.a s.b v) e)))
      where
        opposite : (z : ℤ) → z ≤ℤ pos 0 → pos 0 ≤ℤ (pos 0 -ℤ z)
        opposite z k = omega (arith, ints)

        same : slope *ℤ v.x +ℤ rest ≡ pos 0 -ℤ run t *ℤ cross s.a s.b v
        same = at_grid v ∙ ap (λ (z : ℤ). run s *ℤ z -ℤ run t *ℤ cross s.a s.b v) on
            ∙ same_value (run s ∷ (run t *ℤ cross s.a s.b v) ∷ []) (var 0 ⊗ number (pos 0) ⊖ var 1) (number (pos 0) ⊖ var 1) refl

    first_end : (r : Seg) → cross r.a r.b r.a ≡ pos 0
    first_end r = same_value (r.a.x ∷ r.a.y ∷ r.b.x ∷ r.b.y ∷ []) ((var 2 ⊖ var 0) ⊗ (var 1 ⊖ var 1) ⊖ (var 3 ⊖ var 1) ⊗ (var 0 ⊖ var 0)) (number (pos 0)) refl

    last_end : (r : Seg) → cross r.a r.b r.b ≡ pos 0
    last_end r = same_value (r.a.x ∷ r.a.y ∷ r.b.x ∷ r.b.y ∷ []) ((var 2 ⊖ var 0) ⊗ (var 3 ⊖ var 1) ⊖ (var 3 ⊖ var 1) ⊗ (var 2 ⊖ var 0)) (number (pos 0)) refl

    -- where it is not negative at one abscissa before a point and at one behind it, it is not negative there
    between : (u v n d : ℤ) → pos 0 <ℤ d → pos 0 ≤ℤ (n -ℤ d *ℤ u) → (n -ℤ d *ℤ v) ≤ℤ pos 0 → pos 0 ≤ℤ (slope *ℤ u +ℤ rest) → pos 0 ≤ℤ (slope *ℤ v +ℤ rest) → pos 0 ≤ℤ (slope *ℤ n +ℤ rest *ℤ d)
    between u v n d rational from to h k = by_order u v
        (λ less. not_negative_by (behind (n) (d *ℤ v) to) from (sub_positive less) h k
        (same_value (slope ∷ rest ∷ u ∷ v ∷ n ∷ d ∷ []) ((var 5 ⊗ var 3 ⊖ var 4) ⊗ (var 0 ⊗ var 2 ⊕ var 1) ⊕ (var 4 ⊖ var 5 ⊗ var 2) ⊗ (var 0 ⊗ var 3 ⊕ var 1)) ((var 3 ⊖ var 2) ⊗ (var 0 ⊗ var 4 ⊕ var 1 ⊗ var 5)) refl))
        (λ e. alone (le_from_same (sym e)))
        (λ more. alone (le_from_lt more))
      where
        behind : (m z : ℤ) → (m -ℤ z) ≤ℤ pos 0 → pos 0 ≤ℤ (z -ℤ m)
        behind m z f = omega (arith, ints)

        one : (m x y : ℤ) → x ≤ℤ y → pos 0 ≤ℤ (m -ℤ y) → (m -ℤ x) ≤ℤ pos 0 → m ≡ y
        one m x y f i j = omega (arith, ints)

        alone : v ≤ℤ u → pos 0 ≤ℤ (slope *ℤ n +ℤ rest *ℤ d)
        alone le =
            let here : n ≡ d *ℤ u = one n (d *ℤ v) (d *ℤ u) (mul_le_left (le_from_lt rational) le) from to in
            subst (λ (z : ℤ). pos 0 ≤ℤ (slope *ℤ z +ℤ rest *ℤ d)) (sym here)
            (subst (λ (z : ℤ). pos 0 ≤ℤ z) (same_value (slope ∷ rest ∷ u ∷ d ∷ []) (var 3 ⊗ (var 0 ⊗ var 2 ⊕ var 1)) (var 0 ⊗ (var 3 ⊗ var 2) ⊕ var 1 ⊗ var 3) refl) (mul_not_negative (le_from_lt rational) h))

    -- the test of two slanted segments
    slanted_over : starts_over s t && ends_over s t ≡ true → (p : Fraction) → pos 0 <ℤ p.d → cross_at s.a s.b p ≡ pos 0 → Reaches p s → Reaches p t → pos 0 ≤ℤ cross_at t.a t.b p
    slanted_over e p rational on rs rt =
        let parts = and_parts (starts_over s t) (ends_over s t) e in
        not_negative_from_mul (run s) (cross_at t.a t.b p) (sub_positive s_right) (subst (λ (z : ℤ). pos 0 ≤ℤ z) (sym (at_point p on))
        (elim (or_cases (int_le (pos 0) (side t.a t.b s.a)) (int_le (side s.a s.b t.a) (pos 0)) parts.0) [
          | inl f ↦ from s.a.x rs.from (from_first s.a (first_end s) f) parts.1
          | inr f ↦ from t.a.x rt.from (from_second t.a (first_end t) f) parts.1
        ]))
      where
        from : (u : ℤ) → pos 0 ≤ℤ (p.nx -ℤ p.d *ℤ u) → pos 0 ≤ℤ (slope *ℤ u +ℤ rest) → ends_over s t ≡ true → pos 0 ≤ℤ (slope *ℤ p.nx +ℤ rest *ℤ p.d)
        from u after h g = elim (or_cases (int_le (pos 0) (side t.a t.b s.b)) (int_le (side s.a s.b t.b) (pos 0)) g) [
          | inl f ↦ between u s.b.x p.nx p.d rational after rs.to h (from_first s.b (last_end s) f)
          | inr f ↦ between u t.b.x p.nx p.d rational after rt.to h (from_second t.b (last_end t) f)
        ]

-- ---- upright segments

-- the cross of a line and a point, by that of a grid point and the gaps to it
pub cross_by_gaps : (s : Seg) (p : Fraction) (v : Point) → cross_at s.a s.b p ≡ p.d *ℤ cross s.a s.b v +ℤ (run s *ℤ y_gap p v -ℤ rise s *ℤ x_gap p v)
cross_by_gaps s p v = same_value (s.a.x ∷ s.a.y ∷ s.b.x ∷ s.b.y ∷ v.x ∷ v.y ∷ p.nx ∷ p.ny ∷ p.d ∷ [])
    ((var 2 ⊖ var 0) ⊗ (var 7 ⊖ var 8 ⊗ var 1) ⊖ (var 3 ⊖ var 1) ⊗ (var 6 ⊖ var 8 ⊗ var 0))
    (var 8 ⊗ ((var 2 ⊖ var 0) ⊗ (var 5 ⊖ var 1) ⊖ (var 3 ⊖ var 1) ⊗ (var 4 ⊖ var 0)) ⊕ ((var 2 ⊖ var 0) ⊗ (var 7 ⊖ var 8 ⊗ var 5) ⊖ (var 3 ⊖ var 1) ⊗ (var 6 ⊖ var 8 ⊗ var 4))) refl

-- an upright segment: its abscissa, and the order of its ends
pub record IsUpright (s : Seg) : Type 0 where
  pub same : s.a.x ≡ s.b.x
  pub up : s.a.y ≤ℤ s.b.y

pub upright : (s : Seg) → GoesForward s → is_slanted s ≡ false → IsUpright s
upright s (inl h) e = absurd (omega (arith, ints, h, int_lt-false s.a.x s.b.x e))
upright s (inr h) e = record { same = h.0; up = h.1 }

-- where a point of it stands
pub record StandsUp (p : Fraction) (s : Seg) : Type 0 where
  pub first : x_gap p s.a ≡ pos 0
  pub last : x_gap p s.b ≡ pos 0
  pub above : pos 0 ≤ℤ y_gap p s.a
  pub below : y_gap p s.b ≤ℤ pos 0

pub stands_up : (p : Fraction) (s : Seg) → pos 0 <ℤ p.d → IsUpright s → IsOn p s → StandsUp p s
stands_up p s rational u on =
    let x = from_gaps p.nx p.d s.a.x s.b.x rational (le_from_same u.same) on.x in
    let y = from_gaps p.ny p.d s.a.y s.b.y rational u.up on.y in
    record {
      first = zero (x_gap p s.a) x.0 (subst (λ (z : ℤ). (p.nx -ℤ p.d *ℤ z) ≤ℤ pos 0) (sym u.same) x.1);
      last = zero (x_gap p s.b) (subst (λ (z : ℤ). pos 0 ≤ℤ (p.nx -ℤ p.d *ℤ z)) u.same x.0) x.1;
      above = y.0;
      below = y.1;
    }
  where
    zero : (z : ℤ) → pos 0 ≤ℤ z → z ≤ℤ pos 0 → z ≡ pos 0
    zero z h k = omega (arith, ints)

-- ---- the test

pub not_lower : (s t : Seg) → GoesForward s → GoesForward t → is_over s t ≡ true → (p q : Fraction) → pos 0 <ℤ p.d → pos 0 <ℤ q.d → IsOn p s → IsOn q t → OnOneLine p q → IsNotHigher q p
not_lower s t fs ft e p q i j on_s on_t line = by (is_slanted s) refl (is_slanted t) refl e
  where
    right : (r : Seg) → is_slanted r ≡ true → r.a.x <ℤ r.b.x
    right r h = (Decides-int_lt r.a.x r.b.x).0 h

    by : (b : Bool) → is_slanted s ≡ b → (c : Bool) → is_slanted t ≡ c
        → (if b then if c then starts_over s t && ends_over s t else int_le (side s.a s.b t.b) (pos 0) else if c then int_le (pos 0) (side t.a t.b s.a) else int_le t.b.y s.a.y) ≡ true
        → IsNotHigher q p
    by true f true g h = not_lower_by_first t p q i j line (right t g) on_t.line
        (slanted_over s t (right s f) (right t g) h p i on_s.line (reaches_itself p s i fs on_s) (reaches_again q p t j i (sym line) (reaches_itself q t j ft on_t)))
    by true f false g h =
        let u = stands_up q t j (upright t ft g) on_t in
        not_lower_by_second s p q i j line (right s f) on_s.line (subst (λ (z : ℤ). z ≤ℤ pos 0) (sym (cross_by_gaps s q t.b))
        (sum (mul_not_positive (le_from_lt j) (right_or_on (cross s.a s.b t.b) h)) (mul_not_positive (le_from_lt (sub_positive (right s f))) u.below) (ap (λ (z : ℤ). rise s *ℤ z) u.last ∙ nothing (rise s))))
      where
        sum : {x y z : ℤ} → x ≤ℤ pos 0 → y ≤ℤ pos 0 → z ≡ pos 0 → (x +ℤ (y -ℤ z)) ≤ℤ pos 0
        sum a b c = omega (arith, ints)

        nothing : (m : ℤ) → m *ℤ pos 0 ≡ pos 0
        nothing m = omega (arith, ints)
    by false f true g h =
        let u = stands_up p s i (upright s fs f) on_s in
        not_lower_by_first t p q i j line (right t g) on_t.line (subst (λ (z : ℤ). pos 0 ≤ℤ z) (sym (cross_by_gaps t p s.a))
        (sum (mul_not_negative (le_from_lt i) (left_or_on (cross t.a t.b s.a) h)) (mul_not_negative (le_from_lt (sub_positive (right t g))) u.above) (ap (λ (z : ℤ). rise t *ℤ z) u.first ∙ nothing (rise t))))
      where
        sum : {x y z : ℤ} → pos 0 ≤ℤ x → pos 0 ≤ℤ y → z ≡ pos 0 → pos 0 ≤ℤ (x +ℤ (y -ℤ z))
        sum a b c = omega (arith, ints)

        nothing : (m : ℤ) → m *ℤ pos 0 ≡ pos 0
        nothing m = omega (arith, ints)
    by false f false g h =
        let u = stands_up p s i (upright s fs f) on_s in
        let w = stands_up q t j (upright t ft g) on_t in
        le_le_trans (le_le_trans (mul_le_right (le_from_lt i) (high q.ny (q.d *ℤ t.b.y) w.below)) middle) (mul_le_right (le_from_lt j) (low p.ny (p.d *ℤ s.a.y) u.above))
      where
        low : (m z : ℤ) → pos 0 ≤ℤ (m -ℤ z) → z ≤ℤ m
        low m z k = omega (arith, ints)

        high : (m z : ℤ) → (m -ℤ z) ≤ℤ pos 0 → m ≤ℤ z
        high m z k = omega (arith, ints)

        middle : ((q.d *ℤ t.b.y) *ℤ p.d) ≤ℤ ((p.d *ℤ s.a.y) *ℤ q.d)
        middle = subst (λ (z : ℤ). ((q.d *ℤ t.b.y) *ℤ p.d) ≤ℤ z) (same_value (q.d ∷ s.a.y ∷ p.d ∷ []) (var 0 ⊗ var 1 ⊗ var 2) (var 2 ⊗ var 1 ⊗ var 0) refl)
            (mul_le_right (le_from_lt i) (mul_le_left (le_from_lt j) ((Decides-int_le t.b.y s.a.y).0 h)))
