-- A point just right of another one: which segments cross the lines through both, which of these are above, and in which order.
use Rattle.std.proofs.Common.{◌≡◌, ◌≢◌, ◌⊎◌, inl, inr, ⊎_elim, ℕ, ◌+◌, ◌*◌, ◌≤◌, ◌&&◌, ◌||◌, Bool, true, false, cond, [], ◌∷◌, ℤ, pos, neg_ℤ, ◌+ℤ◌, ◌-ℤ◌, ◌*ℤ◌, ◌<ℤ◌, ◌≤ℤ◌, int_le, int_lt, unsigned_abs, refl, sym, ap, ap₂, ◌∙◌, subst, arith}
use Rattle.std.specs.Ordering.{int_eq}
use Rattle.std.specs.Int.Signed.{clash_ℤ}
use Rattle.std.specs.Cmp.{both_ways}
use Rattle.std.proofs.lemmas.Int.{ints, by_lt_z}
use Rattle.std.proofs.lemmas.Bool.{and_parts, and_from, or_cases, or_left, or_right, or_from, and_left, false_from_ne_true}
use Rattle.std.proofs.lemmas.Bool.Decides.{Decides-int_eq}
use Rattle.std.proofs.Math.IntN.{*ℤ_comm}
use Rattle.lemmas.proofs.Integers.{one-*ℤ, *ℤ-neg}
use Rattle.lemmas.proofs.Polynomials.{same_value, var, number, ◌⊕◌, ◌⊖◌, ◌⊗◌}
use Rattle.lemmas.proofs.Signs.{Decides-int_lt, Decides-int_le, int_lt-from_le, by_order, le_lt_trans, le_from_lt, apart_from_lt, mul_le_left, mul_positive, mul_not_negative, positive_from_mul, negative_from_mul, sub_positive, sub_negative, sub_not_negative, sub_zero, same_from_le, lt_from_sub}
use Rattle.tgap_model.specs.declared.geometry.Point.{Point}
use Rattle.tgap_model.specs.declared.geometry.Fraction.{Fraction}
use Rattle.tgap_model.specs.declared.geometry.Seg.{Seg}
use Rattle.tgap_model.specs.Bounds.{max_difference, max_cross, IsNear}
use Rattle.tgap_model.specs.Point.{shoelace_term}
use Rattle.tgap_model.specs.Segment.{Line, IsBetweenColumns, line_through, crosses, rightward, run, rise, height, is_above, is_higher}
use Rattle.grid_geo.proofs.Sizes.{unsigned_abs-mul_le}
use Rattle.planar_stack.proofs.Crossings.{Spans, spans_from_crosses, crosses_from_spans}
use Rattle.picture_laws.specs.FaceAt.{has_abscissa, is_level_or_above, is_lower}
use Rattle.picture_laws.specs.PlaceLaws.{IsJustRightOf}

-- ---- the sign of z, where d * z is e * g and something less than e

over_one : (z : ℤ) → z *ℤ pos 1 ≡ z
over_one z = *ℤ_comm z (pos 1) ∙ one-*ℤ z

module _ (d e x g z : ℤ) (i : pos 0 <ℤ d) (j : pos 0 <ℤ e) (sum : d *ℤ z ≡ x +ℤ e *ℤ g) where
  sign_up : neg_ℤ e <ℤ x → pos 0 <ℤ g → pos 0 <ℤ z
  sign_up low h = positive_from_mul d z i (subst (λ (w : ℤ). pos 0 <ℤ w) (sym sum) (more x (e *ℤ g) low whole))
    where
      whole : e ≤ℤ (e *ℤ g)
      whole = subst (λ (w : ℤ). w ≤ℤ (e *ℤ g)) (over_one e) (mul_le_left (le_from_lt j) (one g h))
        where
          one : (g : ℤ) → pos 0 <ℤ g → pos 1 ≤ℤ g
          one g h = omega (arith, ints)

      more : (x w : ℤ) → neg_ℤ e <ℤ x → e ≤ℤ w → pos 0 <ℤ (x +ℤ w)
      more x w h k = omega (arith, ints)

  sign_down : x <ℤ e → g <ℤ pos 0 → z <ℤ pos 0
  sign_down high h = negative_from_mul d z i (subst (λ (w : ℤ). w <ℤ pos 0) (sym sum) (less x (e *ℤ g) high whole))
    where
      whole : e ≤ℤ neg_ℤ (e *ℤ g)
      whole = subst (λ (w : ℤ). w ≤ℤ neg_ℤ (e *ℤ g)) (over_one e) (subst (λ (w : ℤ). (e *ℤ pos 1) ≤ℤ w) (*ℤ-neg e g) (mul_le_left (le_from_lt j) (one g h)))
        where
          one : (g : ℤ) → g <ℤ pos 0 → pos 1 ≤ℤ neg_ℤ g
          one g h = omega (arith, ints)

      less : (x w : ℤ) → x <ℤ e → e ≤ℤ neg_ℤ w → (x +ℤ w) <ℤ pos 0
      less x w h k = omega (arith, ints)

  -- where g is 0, z has the sign of x
  sign_level : g ≡ pos 0 → d *ℤ z ≡ x
  sign_level h = sum ∙ ap (λ (w : ℤ). x +ℤ e *ℤ w) h ∙ same_value (x ∷ e ∷ []) (var 0 ⊕ var 1 ⊗ number (pos 0)) (var 0) refl

-- ---- two tests

-- one number is less than another, or they are the same and so is a second pair: the order of a third pair
lower_test : (a b r s u v : ℤ) → (a <ℤ b → u <ℤ v) → (b <ℤ a → v <ℤ u) → (a ≡ b → r <ℤ s → u <ℤ v) → (a ≡ b → u <ℤ v → r <ℤ s)
    → (int_lt a b || (int_eq a b && int_lt r s)) ≡ int_lt u v
lower_test a b r s u v less more level back = by_order a b
    (λ h. or_left (int_lt a b) (int_eq a b && int_lt r s) ((Decides-int_lt a b).1 h) ∙ sym ((Decides-int_lt u v).1 (less h)))
    (λ e. both_ways (int_lt a b || (int_eq a b && int_lt r s)) (int_lt u v)
    (λ t. (Decides-int_lt u v).1 (⊎_elim (λ h. absurd (apart_from_lt ((Decides-int_lt a b).0 h) e))
    (λ h. level e ((Decides-int_lt r s).0 (and_parts (int_eq a b) (int_lt r s) h).1)) (or_cases (int_lt a b) (int_eq a b && int_lt r s) t)))
    (λ t. or_right (int_lt a b) (int_eq a b && int_lt r s)
    (and_from (int_eq a b) (int_lt r s) ((Decides-int_eq a b).1 e) ((Decides-int_lt r s).1 (back e ((Decides-int_lt u v).0 t))))))
    (λ h. or_from (int_lt a b) (int_eq a b && int_lt r s) (int_lt-from_le (le_from_lt h)) (and_left (int_eq a b) (int_lt r s) (differ h))
    ∙ sym (int_lt-from_le (le_from_lt (more h))))
  where
    differ : b <ℤ a → int_eq a b ≡ false
    differ h = false_from_ne_true (int_eq a b) (λ t. apart_from_lt h (sym ((Decides-int_eq a b).0 t)))

-- ---- how large the numbers of a segment are

-- both ends of a segment that goes to the right are within the limits
pub record IsSmall (r : Seg) : Type 0 where
  pub a : IsNear r.a
  pub b : IsNear r.b

run_size : (r : Seg) → IsSmall r → unsigned_abs (run r) ≤ max_difference
run_size r h = let u = h.a.x in let v = h.b.x in omega (arith, ints, u, v)

rise_size : (r : Seg) → IsSmall r → unsigned_abs (rise r) ≤ max_difference
rise_size r h = let u = h.a.y in let v = h.b.y in omega (arith, ints, u, v)

rise_within : (r : Seg) → IsSmall r → unsigned_abs (rise r) ≤ max_cross
rise_within r h = let u = rise_size r h in omega (arith, u)

turn_size : (q r : Seg) → IsSmall q → IsSmall r → unsigned_abs (rise r *ℤ run q -ℤ rise q *ℤ run r) ≤ max_cross
turn_size q r h k =
    difference (rise r *ℤ run q) (rise q *ℤ run r)
    (unsigned_abs-mul_le (rise r) (run q) max_difference max_difference (rise_size r k) (run_size q h))
    (unsigned_abs-mul_le (rise q) (run r) max_difference max_difference (rise_size q h) (run_size r k))
  where
    difference : (x y : ℤ) → unsigned_abs x ≤ max_difference * max_difference → unsigned_abs y ≤ max_difference * max_difference → unsigned_abs (x -ℤ y) ≤ max_cross
    difference x y a b = omega (arith, ints, a, b)

-- ---- the two points

module _ (p q : Fraction) (positive : pos 0 <ℤ p.d) (near : IsJustRightOf q p) where
  abbrev gap : ℤ
  gap = q.nx *ℤ p.d -ℤ p.nx *ℤ q.d

  gap_positive : pos 0 <ℤ gap
  gap_positive = sub_positive near.right

  -- the gap times a number that is not large is less than the second denominator
  small : (z : ℤ) → unsigned_abs z ≤ max_cross → (neg_ℤ q.d <ℤ (gap *ℤ z)) × ((gap *ℤ z) <ℤ q.d)
  small z h = (turned (gap *ℤ z) (subst (λ (w : ℤ). w <ℤ q.d) (*ℤ-neg gap z) (below (neg_ℤ z) (low z h))), below z (high z h))
    where
      high : (z : ℤ) → unsigned_abs z ≤ max_cross → z ≤ℤ pos max_cross
      high z h = omega (arith, ints, h)

      low : (z : ℤ) → unsigned_abs z ≤ max_cross → neg_ℤ z ≤ℤ pos max_cross
      low z h = omega (arith, ints, h)

      below : (z : ℤ) → z ≤ℤ pos max_cross → (gap *ℤ z) <ℤ q.d
      below z h = le_lt_trans (mul_le_left (le_from_lt gap_positive) h) near.near

      turned : (w : ℤ) → neg_ℤ w <ℤ q.d → neg_ℤ q.d <ℤ w
      turned w h = omega (arith, ints)

  short : gap <ℤ q.d
  short = subst (λ (w : ℤ). w <ℤ q.d) (over_one gap) (small (pos 1) (omega arith)).1

  -- ---- whole abscissas

  side_sum : (v : ℤ) → p.d *ℤ (q.nx -ℤ q.d *ℤ v) ≡ gap +ℤ q.d *ℤ (p.nx -ℤ p.d *ℤ v)
  side_sum v = same_value (p.nx ∷ p.d ∷ q.nx ∷ q.d ∷ v ∷ [])
      (var 1 ⊗ (var 2 ⊖ var 3 ⊗ var 4)) ((var 2 ⊗ var 1 ⊖ var 0 ⊗ var 3) ⊕ var 3 ⊗ (var 0 ⊖ var 1 ⊗ var 4)) refl

  -- an abscissa at the first point or left of it is left of the second, and one right of the first is right of the second
  pub side_left : (v : ℤ) → (p.d *ℤ v) ≤ℤ p.nx → (q.d *ℤ v) <ℤ q.nx
  side_left v h =
      lt_from_sub (q.d *ℤ v) q.nx (positive_from_mul p.d (q.nx -ℤ q.d *ℤ v) positive
      (subst (λ (w : ℤ). pos 0 <ℤ w) (sym (side_sum v)) (both gap (q.d *ℤ (p.nx -ℤ p.d *ℤ v)) gap_positive (mul_not_negative (le_from_lt near.rational) (sub_not_negative h)))))
    where
      both : (x w : ℤ) → pos 0 <ℤ x → pos 0 ≤ℤ w → pos 0 <ℤ (x +ℤ w)
      both x w h k = omega (arith, ints)

  pub side_right : (v : ℤ) → p.nx <ℤ (p.d *ℤ v) → q.nx <ℤ (q.d *ℤ v)
  side_right v h = back (q.nx) (q.d *ℤ v)
      (sign_down p.d q.d gap (p.nx -ℤ p.d *ℤ v) (q.nx -ℤ q.d *ℤ v) positive near.rational (side_sum v) short (sub_negative h))
    where
      back : (a b : ℤ) → (a -ℤ b) <ℤ pos 0 → a <ℤ b
      back a b h = omega (arith, ints)

  -- so no whole abscissa is that of the second
  pub between_columns : IsBetweenColumns (line_through q)
  between_columns = record {
    rational = near.rational;
    apart = λ v e. by_lt_z p.nx (p.d *ℤ v) (λ h. apart_from_lt (side_right v h) e) (λ h. apart_from_lt (side_left v h) (sym e));
  }

  module _ (s : Seg) where
    abbrev r : Seg
    r = rightward s

    pub abscissa_there : has_abscissa p s ≡ crosses (line_through q) s
    abscissa_there = both_ways (has_abscissa p s) (crosses (line_through q) s)
        (λ e. let parts = and_parts (int_le (p.d *ℤ r.a.x) p.nx) (int_lt p.nx (p.d *ℤ r.b.x)) e in
        crosses_from_spans (line_through q) s (record {
          left = side_left r.a.x ((Decides-int_le (p.d *ℤ r.a.x) p.nx).0 parts.0);
          right = side_right r.b.x ((Decides-int_lt p.nx (p.d *ℤ r.b.x)).0 parts.1);
        }))
        (λ e. let spans = spans_from_crosses (line_through q) s near.rational e in
        and_from (int_le (p.d *ℤ r.a.x) p.nx) (int_lt p.nx (p.d *ℤ r.b.x))
        ((Decides-int_le (p.d *ℤ r.a.x) p.nx).1 (by_lt_z p.nx (p.d *ℤ r.a.x) (λ h. clash_ℤ spans.left (le_from_lt (side_right r.a.x h))) (λ h. h)))
        ((Decides-int_lt p.nx (p.d *ℤ r.b.x)).1 (by_lt_z p.nx (p.d *ℤ r.b.x) (λ h. h) (λ h. clash_ℤ spans.right (le_from_lt (side_left r.b.x h))))))

    -- ---- the heights of one segment and of the points

    height_sum : p.d *ℤ (height (line_through q) r -ℤ q.ny *ℤ run r) ≡ gap *ℤ rise r +ℤ q.d *ℤ (height (line_through p) r -ℤ p.ny *ℤ run r)
    height_sum =
        same_value (p.nx ∷ p.ny ∷ p.d ∷ q.nx ∷ q.ny ∷ q.d ∷ rise r ∷ shoelace_term r.a r.b ∷ run r ∷ [])
        (var 2 ⊗ ((var 3 ⊗ var 6 ⊖ var 5 ⊗ var 7) ⊖ var 4 ⊗ var 8))
        (((var 3 ⊗ var 2 ⊖ var 0 ⊗ var 5) ⊗ var 6 ⊕ var 5 ⊗ ((var 0 ⊗ var 6 ⊖ var 2 ⊗ var 7) ⊖ var 1 ⊗ var 8)) ⊖ (var 4 ⊗ var 2 ⊖ var 1 ⊗ var 5) ⊗ var 8) refl
        ∙ ap (λ (w : ℤ). (gap *ℤ rise r +ℤ q.d *ℤ (height (line_through p) r -ℤ p.ny *ℤ run r)) -ℤ w *ℤ run r) (sub_zero (sym near.height))
        ∙ same_value ((gap *ℤ rise r +ℤ q.d *ℤ (height (line_through p) r -ℤ p.ny *ℤ run r)) ∷ run r ∷ []) (var 0 ⊖ number (pos 0) ⊗ var 1) (var 0) refl

    pub above_there : IsSmall (rightward s) → p.ny *ℤ run (rightward s) ≢ height (line_through p) (rightward s) → is_level_or_above p s ≡ is_above s q
    unfolding is_above
    above_there tiny apart = both_ways (int_le (p.ny *ℤ run r) (height (line_through p) r)) (int_lt (q.ny *ℤ run r) (height (line_through q) r))
        (λ e. (Decides-int_lt (q.ny *ℤ run r) (height (line_through q) r)).1 (lt_from_sub (q.ny *ℤ run r) (height (line_through q) r)
        (sign_up p.d q.d (gap *ℤ rise r) (height (line_through p) r -ℤ p.ny *ℤ run r) (height (line_through q) r -ℤ q.ny *ℤ run r) positive near.rational height_sum
        (small (rise r) (rise_within r tiny)).0 (sub_positive (strictly ((Decides-int_le (p.ny *ℤ run r) (height (line_through p) r)).0 e))))))
        (λ e. (Decides-int_le (p.ny *ℤ run r) (height (line_through p) r)).1 (by_lt_z (height (line_through p) r) (p.ny *ℤ run r)
        (λ h. absurd (opposed (height (line_through q) r) (q.ny *ℤ run r)
        (sign_down p.d q.d (gap *ℤ rise r) (height (line_through p) r -ℤ p.ny *ℤ run r) (height (line_through q) r -ℤ q.ny *ℤ run r) positive near.rational height_sum
        (small (rise r) (rise_within r tiny)).1 (sub_negative h)) ((Decides-int_lt (q.ny *ℤ run r) (height (line_through q) r)).0 e)))
        (λ h. h)))
      where
        strictly : (p.ny *ℤ run r) ≤ℤ height (line_through p) r → (p.ny *ℤ run r) <ℤ height (line_through p) r
        strictly h = by_lt_z (p.ny *ℤ run r) (height (line_through p) r) (λ k. k) (λ k. absurd (apart (same_from_le h k)))

        opposed : (a b : ℤ) → (a -ℤ b) <ℤ pos 0 → b <ℤ a → ⊥
        opposed a b h k = omega (arith, ints)

  -- ---- the heights of two segments

  module _ (s t : Seg) (tiny : IsSmall (rightward s)) (little : IsSmall (rightward t)) where
    abbrev u : Seg
    u = rightward s

    abbrev v : Seg
    v = rightward t

    abbrev here : ℤ
    here = height (line_through p) v *ℤ run u -ℤ height (line_through p) u *ℤ run v

    abbrev there : ℤ
    there = height (line_through q) v *ℤ run u -ℤ height (line_through q) u *ℤ run v

    abbrev steeper : ℤ
    steeper = rise v *ℤ run u -ℤ rise u *ℤ run v

    order_sum : p.d *ℤ there ≡ gap *ℤ steeper +ℤ q.d *ℤ here
    order_sum = same_value (p.nx ∷ p.d ∷ q.nx ∷ q.d ∷ rise u ∷ shoelace_term u.a u.b ∷ run u ∷ rise v ∷ shoelace_term v.a v.b ∷ run v ∷ [])
        (var 1 ⊗ ((var 2 ⊗ var 7 ⊖ var 3 ⊗ var 8) ⊗ var 6 ⊖ (var 2 ⊗ var 4 ⊖ var 3 ⊗ var 5) ⊗ var 9))
        ((var 2 ⊗ var 1 ⊖ var 0 ⊗ var 3) ⊗ (var 7 ⊗ var 6 ⊖ var 4 ⊗ var 9) ⊕ var 3 ⊗ ((var 0 ⊗ var 7 ⊖ var 1 ⊗ var 8) ⊗ var 6 ⊖ (var 0 ⊗ var 4 ⊖ var 1 ⊗ var 5) ⊗ var 9)) refl

    bounds : (neg_ℤ q.d <ℤ (gap *ℤ steeper)) × ((gap *ℤ steeper) <ℤ q.d)
    bounds = small steeper (turn_size u v tiny little)

    pub order_there : is_lower (line_through p) s t ≡ is_higher (line_through q) t s
    unfolding is_higher
    order_there = lower_test (height (line_through p) u *ℤ run v) (height (line_through p) v *ℤ run u) (rise u *ℤ run v) (rise v *ℤ run u)
        (height (line_through q) u *ℤ run v) (height (line_through q) v *ℤ run u)
        (λ h. lt_from_sub (height (line_through q) u *ℤ run v) (height (line_through q) v *ℤ run u)
        (sign_up p.d q.d (gap *ℤ steeper) here there positive near.rational order_sum bounds.0 (sub_positive h)))
        (λ h. back (height (line_through q) v *ℤ run u) (height (line_through q) u *ℤ run v)
        (sign_down p.d q.d (gap *ℤ steeper) here there positive near.rational order_sum bounds.1 (sub_negative h)))
        (λ e h. lt_from_sub (height (line_through q) u *ℤ run v) (height (line_through q) v *ℤ run u) (positive_from_mul p.d there positive
        (subst (λ (w : ℤ). pos 0 <ℤ w) (sym (level e)) (mul_positive gap_positive (sub_positive h)))))
        (λ e h. lt_from_sub (rise u *ℤ run v) (rise v *ℤ run u) (positive_from_mul gap steeper gap_positive
        (subst (λ (w : ℤ). pos 0 <ℤ w) (level e) (mul_positive positive (sub_positive h)))))
      where
        level : height (line_through p) u *ℤ run v ≡ height (line_through p) v *ℤ run u → p.d *ℤ there ≡ gap *ℤ steeper
        level e = sign_level p.d q.d (gap *ℤ steeper) here there positive near.rational order_sum (sub_zero e)

        back : (a b : ℤ) → (a -ℤ b) <ℤ pos 0 → a <ℤ b
        back a b h = omega (arith, ints)
