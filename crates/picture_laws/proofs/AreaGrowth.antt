-- Where closed segments that go round no point clockwise go round some point midway between whole abscissas, their area is positive.
use Rattle.std.proofs.Common.{◌≡◌, ⊎_elim, Bool, true, false, cond, List, [], ◌∷◌, map, ℤ, pos, neg_ℤ, ◌+ℤ◌, ◌-ℤ◌, ◌*ℤ◌, ◌<ℤ◌, ◌≤ℤ◌, int_lt, refl, sym, ap, ap₂, ◌∙◌, subst, true≢false, arith}
use Rattle.std.specs.Cmp.{both_ways}
use Rattle.std.proofs.lemmas.Int.{ints}
use Rattle.std.proofs.lemmas.List.Elements.{All-weaker}
use Rattle.lemmas.proofs.Polynomials.{same_value, var, number, minus, ◌⊕◌, ◌⊖◌, ◌⊗◌}
use Rattle.lemmas.proofs.Signs.{Decides-int_lt, int_lt-from_le, by_order, le_from_lt, apart_from_lt, sub_positive, sub_zero, same_from_sub, mul_positive, mul_lt_left, lt_from_mul_left, same_from_mul_left, positive_from_mul}
use Rattle.tgap_model.specs.declared.geometry.Point.{Point}
use Rattle.tgap_model.specs.declared.geometry.Fraction.{Fraction}
use Rattle.tgap_model.specs.declared.geometry.Seg.{Seg}
use Rattle.tgap_model.specs.Point.{shoelace_term}
use Rattle.tgap_model.specs.Segment.{IsBetweenColumns, line_through, line_after, run, rise, height, is_above}
use Rattle.slice_laws.proofs.Paths.{flip}
use Rattle.picture_laws.specs.FaceRings.{IsMidway}
use Rattle.picture_laws.proofs.Sums.{int_sum, int_sum-agree}
use Rattle.picture_laws.proofs.RingWinds.{one_if}
use Rattle.picture_laws.proofs.AlongSegment.{is_right, seen}
use Rattle.picture_laws.proofs.AreaColumns.{Scaled, IsScaled, HasMultiple, larger, firsts, larger_each, has_multiple, spot, level, right_same, over_same, over_first, area_positive, column_positive}

module _ (p : Fraction) (v : ℤ) (midway : IsMidway p v) where
  half : (a b : ℤ) → a <ℤ b → (pos 2 *ℤ a +ℤ pos 1) <ℤ (pos 2 *ℤ b)
  half a b h = omega (arith, ints)

  back : (a b : ℤ) → (pos 2 *ℤ a +ℤ pos 1) <ℤ (pos 2 *ℤ b) → a <ℤ b
  back a b h = omega (arith, ints)

  two : pos 0 <ℤ pos 2
  two = omega (arith, ints)

  moved : {a b c d : ℤ} → a ≡ c → b ≡ d → a <ℤ b → c <ℤ d
  moved {a} {b} {c} {d} e f h = subst (λ (z : ℤ). c <ℤ z) f (subst (λ (z : ℤ). z <ℤ b) e h)

  pub midway_between : IsBetweenColumns (line_through p)
  midway_between = record {
    rational = midway.rational;
    apart = λ x e. odd v x (same_from_mul_left p.d (λ z. apart_from_lt midway.rational (sym z))
        (sym midway.half ∙ ap (λ (z : ℤ). pos 2 *ℤ z) e ∙ same_value (p.d ∷ x ∷ []) (number (pos 2) ⊗ (var 0 ⊗ var 1)) (var 0 ⊗ (number (pos 2) ⊗ var 1)) refl));
  }
    where
      odd : (x v : ℤ) → pos 2 *ℤ x +ℤ pos 1 ≡ pos 2 *ℤ v → ⊥
      odd x v e = omega (arith, ints, e)

  right_at : (w : Point) → is_right p w ≡ int_lt v w.x
  right_at w = both_ways (is_right p w) (int_lt v w.x)
      (λ e. (Decides-int_lt v w.x).1 (back v w.x (lt_from_mul_left p.d midway.rational (moved midway.half right (mul_lt_left two ((Decides-int_lt p.nx (p.d *ℤ w.x)).0 e))))))
      (λ e. (Decides-int_lt p.nx (p.d *ℤ w.x)).1 (lt_from_mul_left (pos 2) two (moved (sym midway.half) (sym right) (mul_lt_left midway.rational (half v w.x ((Decides-int_lt v w.x).0 e))))))
    where
      right : pos 2 *ℤ (p.d *ℤ w.x) ≡ p.d *ℤ (pos 2 *ℤ w.x)
      right = same_value (p.d ∷ w.x ∷ []) (number (pos 2) ⊗ (var 0 ⊗ var 1)) (var 0 ⊗ (number (pos 2) ⊗ var 1)) refl

  module _ (n : ℤ) (positive : pos 0 <ℤ n) where
    -- the height of the point in parts of 2 * n times its denominator
    abbrev top : ℤ
    top = (pos 2 *ℤ n) *ℤ p.ny

    over_right : (k : ℤ) (r : Seg) → pos 0 <ℤ run r → k *ℤ run r ≡ p.d *ℤ n
        → int_lt (p.ny *ℤ run r) (height (line_through p) r) ≡ int_lt top (k *ℤ height (line_after v) r)
    over_right k r runs e = both_ways (int_lt (p.ny *ℤ run r) (height (line_through p) r)) (int_lt top (k *ℤ height (line_after v) r))
        (λ f. (Decides-int_lt top (k *ℤ height (line_after v) r)).1 (lt_from_mul_left p.d midway.rational
        (moved low high (mul_lt_left share ((Decides-int_lt (p.ny *ℤ run r) (height (line_through p) r)).0 f)))))
        (λ f. (Decides-int_lt (p.ny *ℤ run r) (height (line_through p) r)).1 (lt_from_mul_left (pos 2 *ℤ k) share
        (moved (sym low) (sym high) (mul_lt_left midway.rational ((Decides-int_lt top (k *ℤ height (line_after v) r)).0 f)))))
      where
        share : pos 0 <ℤ (pos 2 *ℤ k)
        share = mul_positive two (positive_from_mul (run r) k runs (subst (λ (z : ℤ). pos 0 <ℤ z) (sym e ∙ same_value (k ∷ run r ∷ []) (var 0 ⊗ var 1) (var 1 ⊗ var 0) refl) (mul_positive midway.rational positive)))

        low : (pos 2 *ℤ k) *ℤ (p.ny *ℤ run r) ≡ p.d *ℤ top
        low = same_value (k ∷ p.ny ∷ run r ∷ []) ((number (pos 2) ⊗ var 0) ⊗ (var 1 ⊗ var 2)) ((number (pos 2) ⊗ var 1) ⊗ (var 0 ⊗ var 2)) refl
            ∙ ap (λ (z : ℤ). (pos 2 *ℤ p.ny) *ℤ z) e
            ∙ same_value (p.ny ∷ p.d ∷ n ∷ []) ((number (pos 2) ⊗ var 0) ⊗ (var 1 ⊗ var 2)) (var 1 ⊗ ((number (pos 2) ⊗ var 2) ⊗ var 0)) refl

        high : (pos 2 *ℤ k) *ℤ height (line_through p) r ≡ p.d *ℤ (k *ℤ height (line_after v) r)
        high = same_value (k ∷ p.nx ∷ p.d ∷ rise r ∷ shoelace_term r.a r.b ∷ [])
            ((number (pos 2) ⊗ var 0) ⊗ (var 1 ⊗ var 3 ⊖ var 2 ⊗ var 4)) (var 0 ⊗ ((number (pos 2) ⊗ var 1) ⊗ var 3 ⊖ (number (pos 2) ⊗ var 2) ⊗ var 4)) refl
            ∙ ap (λ (z : ℤ). k *ℤ (z *ℤ rise r -ℤ (pos 2 *ℤ p.d) *ℤ shoelace_term r.a r.b)) midway.half
            ∙ same_value (k ∷ p.d ∷ v ∷ rise r ∷ shoelace_term r.a r.b ∷ [])
            (var 0 ⊗ ((var 1 ⊗ (number (pos 2) ⊗ var 2 ⊕ number (pos 1))) ⊗ var 3 ⊖ (number (pos 2) ⊗ var 1) ⊗ var 4))
            (var 1 ⊗ (var 0 ⊗ ((number (pos 2) ⊗ var 2 ⊕ number (pos 1)) ⊗ var 3 ⊖ number (pos 2) ⊗ var 4))) refl

    over_at : (e : Scaled) → e.1 *ℤ run e.0 ≡ p.d *ℤ n → is_above e.0 p ≡ int_lt top (level v e)
    unfolding is_above
    over_at (s, k) f = by_order s.a.x s.b.x
        (λ h. ap (λ (b : Bool). int_lt (p.ny *ℤ run (cond b s (flip s))) (height (line_through p) (cond b s (flip s)))) ((Decides-int_lt s.a.x s.b.x).1 h)
        ∙ over_right k s (sub_positive h) f)
        (λ e. absurd (apart_from_lt (mul_positive midway.rational positive) (sym (sym f ∙ ap (λ (z : ℤ). k *ℤ z) (sub_zero e) ∙ same_value (k ∷ []) (var 0 ⊗ number (pos 0)) (number (pos 0)) refl))))
        (λ h. ap (λ (b : Bool). int_lt (p.ny *ℤ run (cond b s (flip s))) (height (line_through p) (cond b s (flip s)))) (int_lt-from_le (le_from_lt h))
        ∙ over_right (neg_ℤ k) (flip s) (sub_positive h) (same_value (k ∷ s.a.x ∷ s.b.x ∷ []) (minus (var 0) ⊗ (var 1 ⊖ var 2)) (var 0 ⊗ (var 2 ⊖ var 1)) refl ∙ f)
        ∙ ap (int_lt top) (same_value (k ∷ v ∷ s.a.x ∷ s.a.y ∷ s.b.x ∷ s.b.y ∷ [])
        (minus (var 0) ⊗ ((number (pos 2) ⊗ var 1 ⊕ number (pos 1)) ⊗ (var 3 ⊖ var 5) ⊖ number (pos 2) ⊗ (var 4 ⊗ var 3 ⊖ var 2 ⊗ var 5)))
        (var 0 ⊗ ((number (pos 2) ⊗ var 1 ⊕ number (pos 1)) ⊗ (var 5 ⊖ var 3) ⊖ number (pos 2) ⊗ (var 2 ⊗ var 5 ⊖ var 4 ⊗ var 3))) refl))

    -- as much is seen at the point as at one of its column just over it
    seen_at : (e : Scaled) → IsScaled (p.d *ℤ n) e → seen p e.0 ≡ seen (spot (p.d *ℤ n) v top) e.0
    seen_at e h =
        ap₂ (λ (i j : Bool). cond (is_above e.0 p) (one_if i -ℤ one_if j) (pos 0)) (right_at e.0.a) (right_at e.0.b)
        ∙ by (int_lt v e.0.a.x) refl (int_lt v e.0.b.x) refl
        ∙ sym (ap₂ (λ (i j : Bool). cond (is_above e.0 (spot (p.d *ℤ n) v top)) (one_if i -ℤ one_if j) (pos 0)) (right_same (p.d *ℤ n) all v top e.0.a) (right_same (p.d *ℤ n) all v top e.0.b))
      where
        all : pos 0 <ℤ (p.d *ℤ n)
        all = mul_positive midway.rational positive

        nothing : (b c : Bool) → cond b (pos 0) (pos 0) ≡ cond c (pos 0) (pos 0)
        nothing true true = refl
        nothing true false = refl
        nothing false true = refl
        nothing false false = refl

        leans : (i j : Bool) → int_lt v e.0.a.x ≡ i → int_lt v e.0.b.x ≡ j → (i ≡ j → ⊥) → e.1 *ℤ run e.0 ≡ p.d *ℤ n
        leans i j f g differ = ⊎_elim (λ k. k) (λ k. absurd (differ (sym f ∙ ap (int_lt v) (same_from_sub e.0.a.x e.0.b.x k) ∙ g))) h

        apart : (i j : Bool) → int_lt v e.0.a.x ≡ i → int_lt v e.0.b.x ≡ j → (i ≡ j → ⊥)
            → cond (is_above e.0 p) (one_if i -ℤ one_if j) (pos 0) ≡ cond (is_above e.0 (spot (p.d *ℤ n) v top)) (one_if i -ℤ one_if j) (pos 0)
        apart i j f g differ = ap (λ (b : Bool). cond b (one_if i -ℤ one_if j) (pos 0))
            (over_at e (leans i j f g differ) ∙ sym (over_same (p.d *ℤ n) all v top e (leans i j f g differ)))

        by : (i : Bool) → int_lt v e.0.a.x ≡ i → (j : Bool) → int_lt v e.0.b.x ≡ j
            → cond (is_above e.0 p) (one_if i -ℤ one_if j) (pos 0) ≡ cond (is_above e.0 (spot (p.d *ℤ n) v top)) (one_if i -ℤ one_if j) (pos 0)
        by true f true g = nothing (is_above e.0 p) (is_above e.0 (spot (p.d *ℤ n) v top))
        by false f false g = nothing (is_above e.0 p) (is_above e.0 (spot (p.d *ℤ n) v top))
        by true f false g = apart true false f g true≢false
        by false f true g = apart false true f g (λ z. true≢false (sym z))

  -- so the area is positive where the segments go round the point
  pub area_is_positive : (segments : List Seg) → ((value : Point → ℤ) → int_sum (λ s. value s.b -ℤ value s.a) segments ≡ pos 0)
      → ((q : Fraction) → IsBetweenColumns (line_through q) → pos 0 ≤ℤ int_sum (seen q) segments) → pos 0 <ℤ int_sum (seen p) segments
      → pos 0 <ℤ int_sum (λ (s : Seg). shoelace_term s.a s.b) segments
  area_is_positive segments closed round h =
      area_positive segments closed round common v (column_positive segments closed round common v (top one.common one.positive) (subst (λ (z : ℤ). pos 0 <ℤ z) there h))
    where
      one : HasMultiple segments
      one = has_multiple segments

      common : HasMultiple segments
      common = record {
        common = p.d *ℤ one.common;
        positive = mul_positive midway.rational one.positive;
        scaled = map (larger p.d) one.scaled;
        same = firsts p.d one.scaled ∙ one.same;
        each = larger_each p.d one.common one.scaled one.each;
      }

      there : int_sum (seen p) segments ≡ int_sum (seen (spot (p.d *ℤ one.common) v (top one.common one.positive))) segments
      there =
          sym (over_first segments closed round common (seen p))
          ∙ int_sum-agree (λ (e : Scaled). seen p e.0) (λ e. seen (spot (p.d *ℤ one.common) v (top one.common one.positive)) e.0) common.scaled
          (All-weaker (IsScaled (p.d *ℤ one.common)) (λ e. seen p e.0 ≡ seen (spot (p.d *ℤ one.common) v (top one.common one.positive)) e.0) (seen_at one.common one.positive) common.scaled common.each)
          ∙ over_first segments closed round common (seen (spot (p.d *ℤ one.common) v (top one.common one.positive)))
