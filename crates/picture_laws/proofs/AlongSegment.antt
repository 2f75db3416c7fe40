-- A closed row of segments goes equally often round two points where it does not meet the straight way between them.
use Rattle.std.proofs.Common.{◌≡◌, Bool, true, false, cond, not, ◌&&◌, ◌||◌, List, [], ◌∷◌, All, ℤ, pos, negsuc, neg_ℤ, ◌+ℤ◌, ◌-ℤ◌, ◌*ℤ◌, ◌<ℤ◌, ◌≤ℤ◌, int_lt, refl, sym, ap, ap₂, ◌∙◌, subst, true≢false, arith}
use Rattle.std.specs.Cmp.{both_ways}
use Rattle.std.proofs.lemmas.Int.{ints, by_lt_z}
use Rattle.std.proofs.lemmas.List.Elements.{All-weaker}
use Rattle.lemmas.proofs.Polynomials.{Polynomial, same_value, var, number, ◌⊕◌, ◌⊖◌, ◌⊗◌}
use Rattle.lemmas.proofs.Signs.{Decides-int_lt, int_lt-false, int_lt-from_le, by_order, le_from_lt, le_from_same, lt_lt_trans, le_lt_trans, sub_positive, sub_not_negative, lt_from_sub, le_from_sub, mul_positive, mul_not_negative, not_negative_by, not_negative_from_mul, mul_lt_left, lt_from_mul_left, mul_lt_right, lt_from_mul_right, positive_by_second}
use Rattle.tgap_model.specs.declared.geometry.Point.{Point}
use Rattle.tgap_model.specs.declared.geometry.Fraction.{Fraction}
use Rattle.tgap_model.specs.declared.geometry.Seg.{Seg}
use Rattle.tgap_model.specs.Point.{shoelace_term}
use Rattle.tgap_model.specs.Segment.{IsBetweenColumns, line_through, goes_right, run, rise, height, is_on, is_above}
use Rattle.removal_laws.proofs.Between.{is_between, is_on_from}
use Rattle.slice_laws.proofs.Paths.{flip}
use Rattle.slice_laws.proofs.Meetings.{on_flip}
use Rattle.picture_laws.specs.FaceRings.{winding, winding_part, IsOnWay}
use Rattle.picture_laws.proofs.Sums.{int_sum, fold_is_sum, int_sum-agree, int_sum-same, int_sum-sub}
use Rattle.picture_laws.proofs.RingWinds.{one_if}

-- ---- weighted means of points

-- the point a * y + b * z, over the same mean of the denominators
abbrev pub mix : ℤ → ℤ → Fraction → Fraction → Fraction
mix a b y z = record { nx = a *ℤ y.nx +ℤ b *ℤ z.nx; ny = a *ℤ y.ny +ℤ b *ℤ z.ny; d = a *ℤ y.d +ℤ b *ℤ z.d }

-- a point at the height of a segment, between the abscissas of its ends or at one of them, is on it
pub on_closed : (z : Fraction) (r : Seg) → pos 0 <ℤ run r → (z.d *ℤ r.a.x) ≤ℤ z.nx → z.nx ≤ℤ (z.d *ℤ r.b.x) → z.ny *ℤ run r ≡ height (line_through z) r → is_on z r ≡ true
on_closed z r runs low high level = is_on_from z r.a r.b (record {
  total = run r;
  near = z.d *ℤ r.b.x -ℤ z.nx;
  far = z.nx -ℤ z.d *ℤ r.a.x;
  positive = runs;
  near_sign = sub_not_negative high;
  far_sign = sub_not_negative low;
  under = same_value values ((var 2 ⊖ var 0) ⊗ var 5) ((var 5 ⊗ var 2 ⊖ var 4) ⊕ (var 4 ⊖ var 5 ⊗ var 0)) refl;
  over_x = same_value values ((var 2 ⊖ var 0) ⊗ var 4) ((var 5 ⊗ var 2 ⊖ var 4) ⊗ var 0 ⊕ (var 4 ⊖ var 5 ⊗ var 0) ⊗ var 2) refl;
  over_y = same_value (z.ny ∷ run r ∷ []) (var 1 ⊗ var 0) (var 0 ⊗ var 1) refl ∙ level
      ∙ same_value values (var 4 ⊗ (var 3 ⊖ var 1) ⊖ var 5 ⊗ (var 0 ⊗ var 3 ⊖ var 2 ⊗ var 1)) ((var 5 ⊗ var 2 ⊖ var 4) ⊗ var 1 ⊕ (var 4 ⊖ var 5 ⊗ var 0) ⊗ var 3) refl;
})
  where
    values : List ℤ
    values = r.a.x ∷ r.a.y ∷ r.b.x ∷ r.b.y ∷ z.nx ∷ z.d ∷ []

-- ---- differences of numbers that stand where tests hold

none : (b : Bool) → cond b (pos 0) (pos 0) ≡ pos 0
none true = refl
none false = refl

zeros : (i j k l : Bool) → cond i (pos 0) (pos 0) -ℤ cond j (pos 0) (pos 0) ≡ cond k (pos 0) (pos 0) -ℤ cond l (pos 0) (pos 0)
zeros i j k l = ap₂ (λ u v. u -ℤ v) (none i) (none j) ∙ sym (ap₂ (λ u v. u -ℤ v) (none k) (none l))

outer : (i j k l : Bool) → i ≡ l → cond i (negsuc 0) (pos 0) -ℤ cond j (pos 0) (pos 0) ≡ cond k (pos 0) (pos 0) -ℤ cond l (pos 1) (pos 0)
outer i j k l e = ap₂ (λ (b : Bool) z. cond b (negsuc 0) (pos 0) -ℤ z) e (none j) ∙ by l ∙ sym (ap (λ z. z -ℤ cond l (pos 1) (pos 0)) (none k))
  where
    by : (b : Bool) → cond b (negsuc 0) (pos 0) -ℤ pos 0 ≡ pos 0 -ℤ cond b (pos 1) (pos 0)
    by true = refl
    by false = refl

inner : (i j k l : Bool) → j ≡ k → cond i (pos 0) (pos 0) -ℤ cond j (negsuc 0) (pos 0) ≡ cond k (pos 1) (pos 0) -ℤ cond l (pos 0) (pos 0)
inner i j k l e = ap₂ (λ z (b : Bool). z -ℤ cond b (negsuc 0) (pos 0)) (none i) e ∙ by k ∙ sym (ap (λ z. cond k (pos 1) (pos 0) -ℤ z) (none l))
  where
    by : (b : Bool) → pos 0 -ℤ cond b (negsuc 0) (pos 0) ≡ cond b (pos 1) (pos 0) -ℤ pos 0
    by true = refl
    by false = refl

left_alike : (i j k l : Bool) → i ≡ j → cond i (negsuc 0) (pos 0) -ℤ cond j (negsuc 0) (pos 0) ≡ cond k (pos 0) (pos 0) -ℤ cond l (pos 0) (pos 0)
left_alike i j k l e = ap (λ (b : Bool). cond b (negsuc 0) (pos 0) -ℤ cond j (negsuc 0) (pos 0)) e ∙ by j ∙ sym (ap₂ (λ u v. u -ℤ v) (none k) (none l))
  where
    by : (b : Bool) → cond b (negsuc 0) (pos 0) -ℤ cond b (negsuc 0) (pos 0) ≡ pos 0 -ℤ pos 0
    by true = refl
    by false = refl

right_alike : (i j k l : Bool) → k ≡ l → cond i (pos 0) (pos 0) -ℤ cond j (pos 0) (pos 0) ≡ cond k (pos 1) (pos 0) -ℤ cond l (pos 1) (pos 0)
right_alike i j k l e = ap₂ (λ u v. u -ℤ v) (none i) (none j) ∙ sym (by l) ∙ ap (λ (b : Bool). cond b (pos 1) (pos 0) -ℤ cond l (pos 1) (pos 0)) (sym e)
  where
    by : (b : Bool) → cond b (pos 1) (pos 0) -ℤ cond b (pos 1) (pos 0) ≡ pos 0 -ℤ pos 0
    by true = refl
    by false = refl

-- ---- the straight way from a point to another one

-- p is not right of q
pub record IsRightward (p q : Fraction) : Type 0 where
  pub left : pos 0 <ℤ p.d
  pub right : pos 0 <ℤ q.d
  pub order : (p.nx *ℤ q.d) ≤ℤ (q.nx *ℤ p.d)

-- the points of a segment have the way between them on it
pub way_on : (x : Seg) (p q z : Fraction) → pos 0 <ℤ p.d → pos 0 <ℤ q.d → is_on p x ≡ true → is_on q x ≡ true → IsOnWay p q z → is_on z x ≡ true
way_on x p q z i j e f w =
    let g = is_between p x.a x.b i e in
    let h = is_between q x.a x.b j f in
    let a = w.near *ℤ h.total in
    let b = w.far *ℤ g.total in
    is_on_from z x.a x.b (record {
      total = w.total *ℤ (g.total *ℤ h.total);
      near = a *ℤ g.near +ℤ b *ℤ h.near;
      far = a *ℤ g.far +ℤ b *ℤ h.far;
      positive = mul_positive w.positive (mul_positive g.positive h.positive);
      near_sign = plus (mul_not_negative (mul_not_negative w.near_sign (le_from_lt h.positive)) g.near_sign) (mul_not_negative (mul_not_negative w.far_sign (le_from_lt g.positive)) h.near_sign);
      far_sign = plus (mul_not_negative (mul_not_negative w.near_sign (le_from_lt h.positive)) g.far_sign) (mul_not_negative (mul_not_negative w.far_sign (le_from_lt g.positive)) h.far_sign);
      under = apart w.total g.total h.total z.d ∙ ap (λ (v : ℤ). (g.total *ℤ h.total) *ℤ v) w.under ∙ spread w.near w.far g.total h.total p.d q.d
          ∙ ap₂ (λ (u v : ℤ). (w.near *ℤ h.total) *ℤ u +ℤ (w.far *ℤ g.total) *ℤ v) g.under h.under
          ∙ same_value (w.near ∷ w.far ∷ g.total ∷ h.total ∷ g.near ∷ g.far ∷ h.near ∷ h.far ∷ [])
          ((var 0 ⊗ var 3) ⊗ (var 4 ⊕ var 5) ⊕ (var 1 ⊗ var 2) ⊗ (var 6 ⊕ var 7))
          (((var 0 ⊗ var 3) ⊗ var 4 ⊕ (var 1 ⊗ var 2) ⊗ var 6) ⊕ ((var 0 ⊗ var 3) ⊗ var 5 ⊕ (var 1 ⊗ var 2) ⊗ var 7)) refl;
      over_x = apart w.total g.total h.total z.nx ∙ ap (λ (v : ℤ). (g.total *ℤ h.total) *ℤ v) w.over_x ∙ spread w.near w.far g.total h.total p.nx q.nx
          ∙ ap₂ (λ (u v : ℤ). (w.near *ℤ h.total) *ℤ u +ℤ (w.far *ℤ g.total) *ℤ v) g.over_x h.over_x
          ∙ together (w.near *ℤ h.total) (w.far *ℤ g.total) g.near g.far h.near h.far x.a.x x.b.x;
      over_y = apart w.total g.total h.total z.ny ∙ ap (λ (v : ℤ). (g.total *ℤ h.total) *ℤ v) w.over_y ∙ spread w.near w.far g.total h.total p.ny q.ny
          ∙ ap₂ (λ (u v : ℤ). (w.near *ℤ h.total) *ℤ u +ℤ (w.far *ℤ g.total) *ℤ v) g.over_y h.over_y
          ∙ together (w.near *ℤ h.total) (w.far *ℤ g.total) g.near g.far h.near h.far x.a.y x.b.y;
    })
  where
    plus : {u v : ℤ} → pos 0 ≤ℤ u → pos 0 ≤ℤ v → pos 0 ≤ℤ (u +ℤ v)
    plus h k = omega (arith, ints)

    apart : (t r s n : ℤ) → (t *ℤ (r *ℤ s)) *ℤ n ≡ (r *ℤ s) *ℤ (t *ℤ n)
    apart t r s n = same_value (t ∷ r ∷ s ∷ n ∷ []) ((var 0 ⊗ (var 1 ⊗ var 2)) ⊗ var 3) ((var 1 ⊗ var 2) ⊗ (var 0 ⊗ var 3)) refl

    spread : (m n r s u v : ℤ) → (r *ℤ s) *ℤ (m *ℤ u +ℤ n *ℤ v) ≡ (m *ℤ s) *ℤ (r *ℤ u) +ℤ (n *ℤ r) *ℤ (s *ℤ v)
    spread m n r s u v = same_value (m ∷ n ∷ r ∷ s ∷ u ∷ v ∷ [])
        ((var 2 ⊗ var 3) ⊗ (var 0 ⊗ var 4 ⊕ var 1 ⊗ var 5)) ((var 0 ⊗ var 3) ⊗ (var 2 ⊗ var 4) ⊕ (var 1 ⊗ var 2) ⊗ (var 3 ⊗ var 5)) refl

    together : (a b m n r s u v : ℤ) → a *ℤ (m *ℤ u +ℤ n *ℤ v) +ℤ b *ℤ (r *ℤ u +ℤ s *ℤ v) ≡ (a *ℤ m +ℤ b *ℤ r) *ℤ u +ℤ (a *ℤ n +ℤ b *ℤ s) *ℤ v
    together a b m n r s u v = same_value (a ∷ b ∷ m ∷ n ∷ r ∷ s ∷ u ∷ v ∷ [])
        (var 0 ⊗ (var 2 ⊗ var 6 ⊕ var 3 ⊗ var 7) ⊕ var 1 ⊗ (var 4 ⊗ var 6 ⊕ var 5 ⊗ var 7))
        ((var 0 ⊗ var 2 ⊕ var 1 ⊗ var 4) ⊗ var 6 ⊕ (var 0 ⊗ var 3 ⊕ var 1 ⊗ var 5) ⊗ var 7) refl

-- the way back
pub way_turned : (p q z : Fraction) → IsOnWay p q z → IsOnWay q p z
way_turned p q z w = record {
  rational = w.rational;
  total = w.total;
  near = w.far;
  far = w.near;
  positive = w.positive;
  near_sign = w.far_sign;
  far_sign = w.near_sign;
  over_x = w.over_x ∙ turned (w.near *ℤ p.nx) (w.far *ℤ q.nx);
  over_y = w.over_y ∙ turned (w.near *ℤ p.ny) (w.far *ℤ q.ny);
  under = w.under ∙ turned (w.near *ℤ p.d) (w.far *ℤ q.d);
}
  where
    turned : (u v : ℤ) → u +ℤ v ≡ v +ℤ u
    turned u v = omega (arith, ints)

-- a point of the way is not left of the first one, nor right of the second
module _ (p q z : Fraction) (rightward : IsRightward p q) (w : IsOnWay p q z) where
  pub way_left : (p.nx *ℤ z.d) ≤ℤ (z.nx *ℤ p.d)
  way_left = le_from_sub (p.nx *ℤ z.d) (z.nx *ℤ p.d) (not_negative_from_mul w.total (z.nx *ℤ p.d -ℤ p.nx *ℤ z.d) w.positive
      (subst (λ (v : ℤ). pos 0 ≤ℤ v) (sym (
      same_value (w.total ∷ z.nx ∷ z.d ∷ p.nx ∷ p.d ∷ []) (var 0 ⊗ (var 1 ⊗ var 4 ⊖ var 3 ⊗ var 2)) ((var 0 ⊗ var 1) ⊗ var 4 ⊖ var 3 ⊗ (var 0 ⊗ var 2)) refl
      ∙ ap₂ (λ (u v : ℤ). u *ℤ p.d -ℤ p.nx *ℤ v) w.over_x w.under
      ∙ same_value (w.near ∷ w.far ∷ p.nx ∷ p.d ∷ q.nx ∷ q.d ∷ []) ((var 0 ⊗ var 2 ⊕ var 1 ⊗ var 4) ⊗ var 3 ⊖ var 2 ⊗ (var 0 ⊗ var 3 ⊕ var 1 ⊗ var 5)) (var 1 ⊗ (var 4 ⊗ var 3 ⊖ var 2 ⊗ var 5)) refl))
      (mul_not_negative w.far_sign (sub_not_negative rightward.order))))

  pub way_right : (z.nx *ℤ q.d) ≤ℤ (q.nx *ℤ z.d)
  way_right = le_from_sub (z.nx *ℤ q.d) (q.nx *ℤ z.d) (not_negative_from_mul w.total (q.nx *ℤ z.d -ℤ z.nx *ℤ q.d) w.positive
      (subst (λ (v : ℤ). pos 0 ≤ℤ v) (sym (
      same_value (w.total ∷ z.nx ∷ z.d ∷ q.nx ∷ q.d ∷ []) (var 0 ⊗ (var 3 ⊗ var 2 ⊖ var 1 ⊗ var 4)) (var 3 ⊗ (var 0 ⊗ var 2) ⊖ (var 0 ⊗ var 1) ⊗ var 4) refl
      ∙ ap₂ (λ (u v : ℤ). q.nx *ℤ v -ℤ u *ℤ q.d) w.over_x w.under
      ∙ same_value (w.near ∷ w.far ∷ p.nx ∷ p.d ∷ q.nx ∷ q.d ∷ []) (var 4 ⊗ (var 0 ⊗ var 3 ⊕ var 1 ⊗ var 5) ⊖ (var 0 ⊗ var 2 ⊕ var 1 ⊗ var 4) ⊗ var 5) (var 0 ⊗ (var 4 ⊗ var 3 ⊖ var 2 ⊗ var 5)) refl))
      (mul_not_negative w.near_sign (sub_not_negative rightward.order))))

-- the grid point is right of the point
abbrev pub is_right : Fraction → Point → Bool
is_right z w = int_lt z.nx (z.d *ℤ w.x)

-- the height of a segment that goes to the right is above the point
abbrev above : Seg → Fraction → Bool
above r z = int_lt (z.ny *ℤ run r) (height (line_through z) r)

-- what a segment above the point adds to the number of times that segments go round it; where its end has the abscissa of the point
-- it counts from its left end on
abbrev pub seen : Fraction → Seg → ℤ
seen z c = cond (is_above c z) (one_if (is_right z c.a) -ℤ one_if (is_right z c.b)) (pos 0)

module _ (p q : Fraction) where
  mixed : (a b : ℤ) (y z : Fraction) → pos 0 ≤ℤ a → pos 0 <ℤ b → IsOnWay p q y → IsOnWay p q z → IsOnWay p q (mix a b y z)
  mixed a b y z i j h k = record {
    rational = positive_by_second i j one (le_from_lt h.rational) k.rational (same_value (a ∷ b ∷ y.d ∷ z.d ∷ []) (var 0 ⊗ var 2 ⊕ var 1 ⊗ var 3) (number (pos 1) ⊗ (var 0 ⊗ var 2 ⊕ var 1 ⊗ var 3)) refl);
    total = h.total *ℤ k.total;
    near = (a *ℤ k.total) *ℤ h.near +ℤ (b *ℤ h.total) *ℤ k.near;
    far = (a *ℤ k.total) *ℤ h.far +ℤ (b *ℤ h.total) *ℤ k.far;
    positive = mul_positive h.positive k.positive;
    near_sign = plus (mul_not_negative (mul_not_negative i (le_from_lt k.positive)) h.near_sign) (mul_not_negative (mul_not_negative (le_from_lt j) (le_from_lt h.positive)) k.near_sign);
    far_sign = plus (mul_not_negative (mul_not_negative i (le_from_lt k.positive)) h.far_sign) (mul_not_negative (mul_not_negative (le_from_lt j) (le_from_lt h.positive)) k.far_sign);
    over_x = joined h.total k.total h.near h.far k.near k.far y.nx z.nx p.nx q.nx h.over_x k.over_x;
    over_y = joined h.total k.total h.near h.far k.near k.far y.ny z.ny p.ny q.ny h.over_y k.over_y;
    under = joined h.total k.total h.near h.far k.near k.far y.d z.d p.d q.d h.under k.under;
  }
    where
      one : pos 0 <ℤ pos 1
      one = omega (arith, ints)

      plus : {u v : ℤ} → pos 0 ≤ℤ u → pos 0 ≤ℤ v → pos 0 ≤ℤ (u +ℤ v)
      plus h k = omega (arith, ints)

      joined : (s t e f g r u v m n : ℤ) → s *ℤ u ≡ e *ℤ m +ℤ f *ℤ n → t *ℤ v ≡ g *ℤ m +ℤ r *ℤ n
          → (s *ℤ t) *ℤ (a *ℤ u +ℤ b *ℤ v) ≡ ((a *ℤ t) *ℤ e +ℤ (b *ℤ s) *ℤ g) *ℤ m +ℤ ((a *ℤ t) *ℤ f +ℤ (b *ℤ s) *ℤ r) *ℤ n
      joined s t e f g r u v m n c d =
          same_value (a ∷ b ∷ s ∷ t ∷ u ∷ v ∷ []) ((var 2 ⊗ var 3) ⊗ (var 0 ⊗ var 4 ⊕ var 1 ⊗ var 5)) ((var 0 ⊗ var 3) ⊗ (var 2 ⊗ var 4) ⊕ (var 1 ⊗ var 2) ⊗ (var 3 ⊗ var 5)) refl
          ∙ ap₂ (λ (i j : ℤ). (a *ℤ t) *ℤ i +ℤ (b *ℤ s) *ℤ j) c d
          ∙ same_value (a ∷ b ∷ s ∷ t ∷ e ∷ f ∷ g ∷ r ∷ m ∷ n ∷ [])
          ((var 0 ⊗ var 3) ⊗ (var 4 ⊗ var 8 ⊕ var 5 ⊗ var 9) ⊕ (var 1 ⊗ var 2) ⊗ (var 6 ⊗ var 8 ⊕ var 7 ⊗ var 9))
          (((var 0 ⊗ var 3) ⊗ var 4 ⊕ (var 1 ⊗ var 2) ⊗ var 6) ⊗ var 8 ⊕ ((var 0 ⊗ var 3) ⊗ var 5 ⊕ (var 1 ⊗ var 2) ⊗ var 7) ⊗ var 9) refl

  -- ---- a segment that goes to the right

  -- the abscissa of the point is one of it
  pub record Spanned (r : Seg) (z : Fraction) : Type 0 where
    pub left : (z.d *ℤ r.a.x) ≤ℤ z.nx
    pub right : z.nx ≤ℤ (z.d *ℤ r.b.x)

  module _ (r : Seg) (runs : pos 0 <ℤ run r) (apart : (z : Fraction) → IsOnWay p q z → is_on z r ≡ true → ⊥) where
    abbrev gap : Fraction → ℤ
    gap z = height (line_through z) r -ℤ z.ny *ℤ run r

    stays_above : (y z : Fraction) → IsOnWay p q y → IsOnWay p q z → Spanned r y → Spanned r z → above r y ≡ true → above r z ≡ true
    stays_above y z h k s t e = by (above r z) refl
      where
        up : pos 0 <ℤ gap y
        up = sub_positive ((Decides-int_lt (y.ny *ℤ run r) (height (line_through y) r)).0 e)

        by : (b : Bool) → above r z ≡ b → b ≡ true
        by true f = refl
        by false f = absurd (apart m (mixed a (gap y) y z down up h k) (on_closed m r runs low high level))
          where
            a : ℤ
            a = z.ny *ℤ run r -ℤ height (line_through z) r

            down : pos 0 ≤ℤ a
            down = sub_not_negative (int_lt-false (z.ny *ℤ run r) (height (line_through z) r) f)

            m : Fraction
            m = mix a (gap y) y z

            one : pos 0 <ℤ pos 1
            one = omega (arith, ints)

            low : (m.d *ℤ r.a.x) ≤ℤ m.nx
            low = le_from_sub (m.d *ℤ r.a.x) m.nx (not_negative_by down (le_from_lt up) one (sub_not_negative s.left) (sub_not_negative t.left)
                (same_value (a ∷ gap y ∷ y.nx ∷ y.d ∷ z.nx ∷ z.d ∷ r.a.x ∷ [])
                (var 0 ⊗ (var 2 ⊖ var 3 ⊗ var 6) ⊕ var 1 ⊗ (var 4 ⊖ var 5 ⊗ var 6))
                (number (pos 1) ⊗ ((var 0 ⊗ var 2 ⊕ var 1 ⊗ var 4) ⊖ (var 0 ⊗ var 3 ⊕ var 1 ⊗ var 5) ⊗ var 6)) refl))

            high : m.nx ≤ℤ (m.d *ℤ r.b.x)
            high = le_from_sub m.nx (m.d *ℤ r.b.x) (not_negative_by down (le_from_lt up) one (sub_not_negative s.right) (sub_not_negative t.right)
                (same_value (a ∷ gap y ∷ y.nx ∷ y.d ∷ z.nx ∷ z.d ∷ r.b.x ∷ [])
                (var 0 ⊗ (var 3 ⊗ var 6 ⊖ var 2) ⊕ var 1 ⊗ (var 5 ⊗ var 6 ⊖ var 4))
                (number (pos 1) ⊗ ((var 0 ⊗ var 3 ⊕ var 1 ⊗ var 5) ⊗ var 6 ⊖ (var 0 ⊗ var 2 ⊕ var 1 ⊗ var 4))) refl))

            level : m.ny *ℤ run r ≡ height (line_through m) r
            level = same_value (y.nx ∷ y.ny ∷ y.d ∷ z.nx ∷ z.ny ∷ z.d ∷ run r ∷ rise r ∷ shoelace_term r.a r.b ∷ [])
                ((below ⊗ var 1 ⊕ over ⊗ var 4) ⊗ var 6)
                ((below ⊗ var 0 ⊕ over ⊗ var 3) ⊗ var 7 ⊖ (below ⊗ var 2 ⊕ over ⊗ var 5) ⊗ var 8) refl
              where
                below : Polynomial
                below = var 4 ⊗ var 6 ⊖ (var 3 ⊗ var 7 ⊖ var 5 ⊗ var 8)

                over : Polynomial
                over = (var 0 ⊗ var 7 ⊖ var 2 ⊗ var 8) ⊖ var 1 ⊗ var 6

    pub same_above : (y z : Fraction) → IsOnWay p q y → IsOnWay p q z → Spanned r y → Spanned r z → above r y ≡ above r z
    same_above y z h k s t = by (above r y) (above r z) refl refl
      where
        by : (b c : Bool) → above r y ≡ b → above r z ≡ c → b ≡ c
        by true true e f = refl
        by false false e f = refl
        by true false e f = absurd (true≢false (sym (stays_above y z h k s t e) ∙ f))
        by false true e f = absurd (true≢false (sym (stays_above z y k h t s f) ∙ e))

  -- ---- grid points between the two abscissas

  -- the point of the segment at the abscissa of a grid point
  abbrev pub bead : Point → Fraction
  bead w = mix (q.nx -ℤ q.d *ℤ w.x) (p.d *ℤ w.x -ℤ p.nx) p q

  -- the grid point is above it
  abbrev pub is_up : Point → Bool
  is_up w = int_lt (bead w).ny ((bead w).d *ℤ w.y)

  bead_abscissa : (w : Point) → (bead w).nx ≡ (bead w).d *ℤ w.x
  bead_abscissa w = same_value (p.nx ∷ p.d ∷ q.nx ∷ q.d ∷ w.x ∷ [])
      ((var 2 ⊖ var 3 ⊗ var 4) ⊗ var 0 ⊕ (var 1 ⊗ var 4 ⊖ var 0) ⊗ var 2)
      (((var 2 ⊖ var 3 ⊗ var 4) ⊗ var 1 ⊕ (var 1 ⊗ var 4 ⊖ var 0) ⊗ var 3) ⊗ var 4) refl

  module _ (strip : IsRightward p q) where
    at_left : IsOnWay p q p
    at_left = record {
      rational = strip.left;
      total = pos 1;
      near = pos 1;
      far = pos 0;
      positive = record { lt = tt };
      near_sign = le_from_lt (record { lt = tt });
      far_sign = le_from_same refl;
      over_x = itself p.nx q.nx;
      over_y = itself p.ny q.ny;
      under = itself p.d q.d;
    }
      where
        itself : (m n : ℤ) → pos 1 *ℤ m ≡ pos 1 *ℤ m +ℤ pos 0 *ℤ n
        itself m n = same_value (m ∷ n ∷ []) (number (pos 1) ⊗ var 0) (number (pos 1) ⊗ var 0 ⊕ number (pos 0) ⊗ var 1) refl

    at_right : IsOnWay p q q
    at_right = record {
      rational = strip.right;
      total = pos 1;
      near = pos 0;
      far = pos 1;
      positive = record { lt = tt };
      near_sign = le_from_same refl;
      far_sign = le_from_lt (record { lt = tt });
      over_x = itself p.nx q.nx;
      over_y = itself p.ny q.ny;
      under = itself p.d q.d;
    }
      where
        itself : (m n : ℤ) → pos 1 *ℤ n ≡ pos 0 *ℤ m +ℤ pos 1 *ℤ n
        itself m n = same_value (m ∷ n ∷ []) (number (pos 1) ⊗ var 1) (number (pos 0) ⊗ var 0 ⊕ number (pos 1) ⊗ var 1) refl

    bead_in : (w : Point) → is_right p w ≡ true → is_right q w ≡ false → IsOnWay p q (bead w)
    bead_in w e f = mixed (q.nx -ℤ q.d *ℤ w.x) (p.d *ℤ w.x -ℤ p.nx) p q (sub_not_negative (int_lt-false q.nx (q.d *ℤ w.x) f))
        (sub_positive ((Decides-int_lt p.nx (p.d *ℤ w.x)).0 e)) at_left at_right

    -- what is right of the second point is right of the first
    right_of_both : (w : Point) → is_right q w ≡ true → is_right p w ≡ true
    right_of_both w e = (Decides-int_lt p.nx (p.d *ℤ w.x)).1 (lt_from_mul_right q.d strip.right (le_lt_trans strip.order
        (subst (λ (z : ℤ). (q.nx *ℤ p.d) <ℤ z) (same_value (q.d ∷ w.x ∷ p.d ∷ []) ((var 0 ⊗ var 1) ⊗ var 2) ((var 2 ⊗ var 1) ⊗ var 0) refl)
        (mul_lt_right strip.left ((Decides-int_lt q.nx (q.d *ℤ w.x)).0 e)))))

    -- ---- what a segment gives at the two points, and its ends between them

    abbrev part : Seg → Fraction → ℤ
    part r z = cond (above r z) (one_if (is_right z r.a) -ℤ one_if (is_right z r.b)) (pos 0)

    abbrev pub weight : Point → ℤ
    weight w = cond (is_up w) (one_if (is_right p w) -ℤ one_if (is_right q w)) (pos 0)

    module _ (r : Seg) (runs : pos 0 <ℤ run r) (apart : (z : Fraction) → IsOnWay p q z → is_on z r ≡ true → ⊥) where
      abbrev B : Point → Fraction
      B w = bead w

      ascends : r.a.x <ℤ r.b.x
      ascends = lt_from_sub r.a.x r.b.x runs

      right_of_first : (z : Fraction) → pos 0 <ℤ z.d → is_right z r.a ≡ true → is_right z r.b ≡ true
      right_of_first z h e = (Decides-int_lt z.nx (z.d *ℤ r.b.x)).1 (lt_lt_trans ((Decides-int_lt z.nx (z.d *ℤ r.a.x)).0 e) (mul_lt_left h ascends))

      across : (z : Fraction) → is_right z r.a ≡ false → is_right z r.b ≡ true → Spanned r z
      across z e f = record { left = int_lt-false z.nx (z.d *ℤ r.a.x) e; right = le_from_lt ((Decides-int_lt z.nx (z.d *ℤ r.b.x)).0 f) }

      first_spanned : IsOnWay p q (B r.a) → Spanned r (B r.a)
      first_spanned h = record {
        left = le_from_same (sym (bead_abscissa r.a));
        right = subst (λ (z : ℤ). z ≤ℤ ((B r.a).d *ℤ r.b.x)) (sym (bead_abscissa r.a)) (le_from_lt (mul_lt_left h.rational ascends));
      }

      last_spanned : IsOnWay p q (B r.b) → Spanned r (B r.b)
      last_spanned h = record {
        left = subst (λ (z : ℤ). ((B r.b).d *ℤ r.a.x) ≤ℤ z) (sym (bead_abscissa r.b)) (le_from_lt (mul_lt_left h.rational ascends));
        right = le_from_same (bead_abscissa r.b);
      }

      -- at an end the height is that of the end
      end_up : (w : Point) → height (line_through (B w)) r ≡ ((B w).d *ℤ w.y) *ℤ run r → above r (B w) ≡ is_up w
      end_up w e = both_ways (above r (B w)) (is_up w)
          (λ f. (Decides-int_lt (B w).ny ((B w).d *ℤ w.y)).1 (lt_from_mul_right (run r) runs
          (subst (λ (z : ℤ). ((B w).ny *ℤ run r) <ℤ z) e ((Decides-int_lt ((B w).ny *ℤ run r) (height (line_through (B w)) r)).0 f))))
          (λ f. (Decides-int_lt ((B w).ny *ℤ run r) (height (line_through (B w)) r)).1 (subst (λ (z : ℤ). ((B w).ny *ℤ run r) <ℤ z) (sym e)
          (mul_lt_right runs ((Decides-int_lt (B w).ny ((B w).d *ℤ w.y)).0 f))))

      first_up : above r (B r.a) ≡ is_up r.a
      first_up = end_up r.a (ap (λ (z : ℤ). z *ℤ rise r -ℤ (B r.a).d *ℤ shoelace_term r.a r.b) (bead_abscissa r.a)
          ∙ same_value ((B r.a).d ∷ r.a.x ∷ r.a.y ∷ r.b.x ∷ r.b.y ∷ [])
          ((var 0 ⊗ var 1) ⊗ (var 4 ⊖ var 2) ⊖ var 0 ⊗ (var 1 ⊗ var 4 ⊖ var 3 ⊗ var 2)) ((var 0 ⊗ var 2) ⊗ (var 3 ⊖ var 1)) refl)

      last_up : above r (B r.b) ≡ is_up r.b
      last_up = end_up r.b (ap (λ (z : ℤ). z *ℤ rise r -ℤ (B r.b).d *ℤ shoelace_term r.a r.b) (bead_abscissa r.b)
          ∙ same_value ((B r.b).d ∷ r.a.x ∷ r.a.y ∷ r.b.x ∷ r.b.y ∷ [])
          ((var 0 ⊗ var 3) ⊗ (var 4 ⊖ var 2) ⊖ var 0 ⊗ (var 1 ⊗ var 4 ⊖ var 3 ⊗ var 2)) ((var 0 ⊗ var 4) ⊗ (var 3 ⊖ var 1)) refl)

      agree : (y z : Fraction) → IsOnWay p q y → IsOnWay p q z → Spanned r y → Spanned r z → above r y ≡ above r z
      agree = same_above r runs apart

      abbrev Moved : Bool → Bool → Bool → Bool → Type 0
      Moved i j k l = cond (above r p) (one_if i -ℤ one_if j) (pos 0) -ℤ cond (above r q) (one_if k -ℤ one_if l) (pos 0)
          ≡ cond (is_up r.a) (one_if i -ℤ one_if k) (pos 0) -ℤ cond (is_up r.b) (one_if j -ℤ one_if l) (pos 0)

      moved : part r p -ℤ part r q ≡ weight r.a -ℤ weight r.b
      moved = by (is_right p r.a) (is_right p r.b) (is_right q r.a) (is_right q r.b) refl refl refl refl
        where
          by : (i j k l : Bool) → is_right p r.a ≡ i → is_right p r.b ≡ j → is_right q r.a ≡ k → is_right q r.b ≡ l → Moved i j k l
          by false false false false e f g h = zeros (above r p) (above r q) (is_up r.a) (is_up r.b)
          by true true true true e f g h = zeros (above r p) (above r q) (is_up r.a) (is_up r.b)
          by false true false false e f g h =
              let b = bead_in r.b f h in
              let same = agree p (B r.b) at_left b (across p e f) (last_spanned b) ∙ last_up in
              outer (above r p) (above r q) (is_up r.a) (is_up r.b) same
          by false true false true e f g h =
              left_alike (above r p) (above r q) (is_up r.a) (is_up r.b) (agree p q at_left at_right (across p e f) (across q g h))
          by true true false false e f g h =
              let a = bead_in r.a e g in
              let b = bead_in r.b f h in
              right_alike (above r p) (above r q) (is_up r.a) (is_up r.b) (sym first_up ∙ agree (B r.a) (B r.b) a b (first_spanned a) (last_spanned b) ∙ last_up)
          by true true false true e f g h =
              let a = bead_in r.a e g in
              inner (above r p) (above r q) (is_up r.a) (is_up r.b) (agree q (B r.a) at_right a (across q g h) (first_spanned a) ∙ first_up)
          by true false k l e f g h = absurd (true≢false (sym (right_of_first p strip.left e) ∙ f))
          by i j true false e f g h = absurd (true≢false (sym (right_of_first q strip.right g) ∙ h))
          by false j true l e f g h = absurd (true≢false (sym (right_of_both r.a g) ∙ e))
          by i false k true e f g h = absurd (true≢false (sym (right_of_both r.b h) ∙ f))

    -- ---- any segment that does not meet the part

    abbrev pub Clear : Seg → Type 0
    Clear c = (z : Fraction) → IsOnWay p q z → is_on z c ≡ true → ⊥

    flipped : (i j : Bool) (a b c d u v : ℤ) → cond i (b -ℤ a) (pos 0) -ℤ cond j (d -ℤ c) (pos 0) ≡ v -ℤ u → cond i (a -ℤ b) (pos 0) -ℤ cond j (c -ℤ d) (pos 0) ≡ u -ℤ v
    flipped true true a b c d u v e = omega (arith, ints, e)
    flipped true false a b c d u v e = omega (arith, ints, e)
    flipped false true a b c d u v e = omega (arith, ints, e)
    flipped false false a b c d u v e = omega (arith, ints, e)

    -- a vertical one has both ends above the part, or none
    not_down : (c : Seg) → Clear c → c.a.x ≡ c.b.x → is_right p c.a ≡ true → is_right q c.a ≡ false → is_up c.a ≡ true → is_up c.b ≡ true
    not_down c clear e i j f = by (is_up c.b) refl
      where
        B : Fraction
        B = bead c.a

        inside : IsOnWay p q (bead c.a)
        inside = bead_in c.a i j

        same : bead c.a ≡ bead c.b
        same = ap (λ (u : ℤ). mix (q.nx -ℤ q.d *ℤ u) (p.d *ℤ u -ℤ p.nx) p q) e

        high : (bead c.a).ny <ℤ ((bead c.a).d *ℤ c.a.y)
        high = (Decides-int_lt (bead c.a).ny ((bead c.a).d *ℤ c.a.y)).0 f

        by : (b : Bool) → is_up c.b ≡ b → b ≡ true
        by true g = refl
        by false g = absurd (clear (bead c.a) inside (is_on_from (bead c.a) c.a c.b (record {
          total = c.a.y -ℤ c.b.y;
          near = (bead c.a).ny -ℤ (bead c.a).d *ℤ c.b.y;
          far = (bead c.a).d *ℤ c.a.y -ℤ (bead c.a).ny;
          positive = sub_positive (lt_from_mul_left (bead c.a).d inside.rational (le_lt_trans low high));
          near_sign = sub_not_negative low;
          far_sign = le_from_lt (sub_positive high);
          under = same_value ((bead c.a).ny ∷ (bead c.a).d ∷ c.a.y ∷ c.b.y ∷ []) ((var 2 ⊖ var 3) ⊗ var 1) ((var 0 ⊖ var 1 ⊗ var 3) ⊕ (var 1 ⊗ var 2 ⊖ var 0)) refl;
          over_x = ap (λ (n : ℤ). (c.a.y -ℤ c.b.y) *ℤ n) (bead_abscissa c.a)
              ∙ same_value ((bead c.a).ny ∷ (bead c.a).d ∷ c.a.y ∷ c.b.y ∷ c.a.x ∷ []) ((var 2 ⊖ var 3) ⊗ (var 1 ⊗ var 4)) ((var 0 ⊖ var 1 ⊗ var 3) ⊗ var 4 ⊕ (var 1 ⊗ var 2 ⊖ var 0) ⊗ var 4) refl
              ∙ ap (λ (u : ℤ). ((bead c.a).ny -ℤ (bead c.a).d *ℤ c.b.y) *ℤ c.a.x +ℤ ((bead c.a).d *ℤ c.a.y -ℤ (bead c.a).ny) *ℤ u) e;
          over_y = same_value ((bead c.a).ny ∷ (bead c.a).d ∷ c.a.y ∷ c.b.y ∷ []) ((var 2 ⊖ var 3) ⊗ var 0) ((var 0 ⊖ var 1 ⊗ var 3) ⊗ var 2 ⊕ (var 1 ⊗ var 2 ⊖ var 0) ⊗ var 3) refl;
        })))
          where
            low : ((bead c.a).d *ℤ c.b.y) ≤ℤ (bead c.a).ny
            low = int_lt-false (bead c.a).ny ((bead c.a).d *ℤ c.b.y) (subst (λ (z : Fraction). int_lt z.ny (z.d *ℤ c.b.y) ≡ false) (sym same) g)

    level_up : (c : Seg) → Clear c → c.a.x ≡ c.b.x → is_right p c.a ≡ true → is_right q c.a ≡ false → is_up c.a ≡ is_up c.b
    level_up c clear e i j = both_ways (is_up c.a) (is_up c.b) (not_down c clear e i j)
        (not_down (flip c) (λ z h o. clear z h (on_flip z (flip c) o)) (sym e) (sym (ap (λ (u : ℤ). int_lt p.nx (p.d *ℤ u)) e) ∙ i) (sym (ap (λ (u : ℤ). int_lt q.nx (q.d *ℤ u)) e) ∙ j))

    seen_moved : (c : Seg) → Clear c → seen p c -ℤ seen q c ≡ weight c.a -ℤ weight c.b
    unfolding is_above
    seen_moved c clear = by_order c.a.x c.b.x
        (λ h. ap (λ (r : Seg). cond (above r p) (one_if (is_right p c.a) -ℤ one_if (is_right p c.b)) (pos 0) -ℤ cond (above r q) (one_if (is_right q c.a) -ℤ one_if (is_right q c.b)) (pos 0))
        (ap (λ (b : Bool). cond b c (flip c)) ((Decides-int_lt c.a.x c.b.x).1 h))
        ∙ moved c (sub_positive h) clear)
        (λ e. ap₂ (λ u v. u -ℤ v) (level_seen p e) (level_seen q e) ∙ sym (level_weights e))
        (λ h. ap (λ (r : Seg). cond (above r p) (one_if (is_right p c.a) -ℤ one_if (is_right p c.b)) (pos 0) -ℤ cond (above r q) (one_if (is_right q c.a) -ℤ one_if (is_right q c.b)) (pos 0))
        (ap (λ (b : Bool). cond b c (flip c)) (int_lt-from_le (le_from_lt h)))
        ∙ flipped (above (flip c) p) (above (flip c) q) (one_if (is_right p c.a)) (one_if (is_right p c.b)) (one_if (is_right q c.a)) (one_if (is_right q c.b)) (weight c.a) (weight c.b) (moved (flip c) (sub_positive h) (λ z i o. clear z i (on_flip z (flip c) o))))
      where
        alike : (z : Fraction) → c.a.x ≡ c.b.x → is_right z c.a ≡ is_right z c.b
        alike z e = ap (λ (u : ℤ). int_lt z.nx (z.d *ℤ u)) e

        level_seen : (z : Fraction) → c.a.x ≡ c.b.x → seen z c ≡ pos 0
        level_seen z e = ap (λ (b : Bool). cond (is_above c z) (one_if b -ℤ one_if (is_right z c.b)) (pos 0)) (alike z e) ∙ by (is_above c z) (is_right z c.b)
          where
            by : (i j : Bool) → cond i (one_if j -ℤ one_if j) (pos 0) ≡ pos 0
            by true true = refl
            by true false = refl
            by false true = refl
            by false false = refl

        level_weights : c.a.x ≡ c.b.x → weight c.a -ℤ weight c.b ≡ pos 0
        level_weights e =
            ap₂ (λ (i j : Bool). weight c.a -ℤ cond (is_up c.b) (one_if i -ℤ one_if j) (pos 0)) (sym (alike p e)) (sym (alike q e))
            ∙ by (is_right p c.a) (is_right q c.a) refl refl
          where
            nothing : (i j : Bool) → cond i (pos 0) (pos 0) -ℤ cond j (pos 0) (pos 0) ≡ pos 0
            nothing i j = ap₂ (λ u v. u -ℤ v) (none i) (none j)

            itself : (i : Bool) → cond i (pos 1) (pos 0) -ℤ cond i (pos 1) (pos 0) ≡ pos 0
            itself true = refl
            itself false = refl

            by : (i j : Bool) → is_right p c.a ≡ i → is_right q c.a ≡ j → cond (is_up c.a) (one_if i -ℤ one_if j) (pos 0) -ℤ cond (is_up c.b) (one_if i -ℤ one_if j) (pos 0) ≡ pos 0
            by true false f g = ap (λ (b : Bool). cond b (pos 1) (pos 0) -ℤ cond (is_up c.b) (pos 1) (pos 0)) (level_up c clear e f g) ∙ itself (is_up c.b)
            by true true f g = nothing (is_up c.a) (is_up c.b)
            by false false f g = nothing (is_up c.a) (is_up c.b)
            by false true f g = absurd (true≢false (sym (right_of_both c.a g) ∙ f))

    -- so of a closed row as much is seen at both points
    pub same_seen : (segments : List Seg) → All Clear segments → int_sum (λ c. weight c.b -ℤ weight c.a) segments ≡ pos 0
        → int_sum (seen p) segments ≡ int_sum (seen q) segments
    same_seen segments clear closed =
        let apart = int_sum-sub (seen p) (seen q) segments in
        let each = int_sum-agree (λ c. seen p c -ℤ seen q c) (λ c. weight c.a -ℤ weight c.b) segments
        (All-weaker Clear (λ c. seen p c -ℤ seen q c ≡ weight c.a -ℤ weight c.b) seen_moved segments clear) in
        let there = int_sum-sub (λ (c : Seg). weight c.a) (λ c. weight c.b) segments in
        let back = int_sum-sub (λ (c : Seg). weight c.b) (λ c. weight c.a) segments in
        equal _ _ _ _ (int_sum (λ (c : Seg). weight c.a) segments) (int_sum (λ (c : Seg). weight c.b) segments) _ apart each there back closed
      where
        equal : (d u v w a b t : ℤ) → d ≡ u -ℤ v → d ≡ w → w ≡ a -ℤ b → t ≡ b -ℤ a → t ≡ pos 0 → u ≡ v
        equal d u v w a b t e f g h i = omega (arith, ints, e, f, g, h, i)

-- ---- between whole abscissas this is the winding number

winding_seen : (z : Fraction) → IsBetweenColumns (line_through z) → (c : Seg) → winding_part z c ≡ seen z c
winding_seen z between c =
    ap₂ (λ (u v : Bool). cond (((u && is_right z c.b) || (v && is_right z c.a)) && is_above c z) (cond (goes_right c) (neg_ℤ (pos 1)) (pos 1)) (pos 0)) (opposite c.a.x) (opposite c.b.x)
    ∙ by (is_right z c.a) refl (is_right z c.b) refl (is_above c z)
  where
    opposite : (u : ℤ) → int_lt (z.d *ℤ u) z.nx ≡ not (int_lt z.nx (z.d *ℤ u))
    opposite u = by_order (z.d *ℤ u) z.nx
        (λ h. (Decides-int_lt (z.d *ℤ u) z.nx).1 h ∙ sym (ap not (int_lt-from_le (le_from_lt h))))
        (λ e. absurd (between.apart u (sym e)))
        (λ h. int_lt-from_le (le_from_lt h) ∙ sym (ap not ((Decides-int_lt z.nx (z.d *ℤ u)).1 h)))

    right : (w : Point) → is_right z w ≡ true → z.nx <ℤ (z.d *ℤ w.x)
    right w e = (Decides-int_lt z.nx (z.d *ℤ w.x)).0 e

    left : (w : Point) → is_right z w ≡ false → (z.d *ℤ w.x) ≤ℤ z.nx
    left w e = int_lt-false z.nx (z.d *ℤ w.x) e

    by : (i : Bool) → is_right z c.a ≡ i → (j : Bool) → is_right z c.b ≡ j → (k : Bool)
        → cond (((not i && j) || (not j && i)) && k) (cond (goes_right c) (neg_ℤ (pos 1)) (pos 1)) (pos 0) ≡ cond k (one_if i -ℤ one_if j) (pos 0)
    by true e true f k = sym (none k)
    by false e false f k = sym (none k)
    by false e true f k = ap (λ (g : Bool). cond k (cond g (neg_ℤ (pos 1)) (pos 1)) (pos 0))
        ((Decides-int_lt c.a.x c.b.x).1 (lt_from_mul_left z.d between.rational (le_lt_trans (left c.a e) (right c.b f))))
    by true e false f k = ap (λ (g : Bool). cond k (cond g (neg_ℤ (pos 1)) (pos 1)) (pos 0))
        (int_lt-from_le (le_from_lt (lt_from_mul_left z.d between.rational (le_lt_trans (left c.b f) (right c.a e)))))

pub winding_is_seen : (z : Fraction) → IsBetweenColumns (line_through z) → (segments : List Seg) → winding z segments ≡ int_sum (seen z) segments
winding_is_seen z between segments = fold_is_sum (winding_part z) segments ∙ int_sum-same (winding_part z) (seen z) (winding_seen z between) segments

-- ---- two points

-- a closed row that does not meet the way between two points goes round both equally often
pub wound_alike : (p q : Fraction) → pos 0 <ℤ p.d → pos 0 <ℤ q.d → (segments : List Seg) → All (λ c. (z : Fraction) → IsOnWay p q z → is_on z c ≡ true → ⊥) segments
    → ((value : Point → ℤ) → int_sum (λ s. value s.b -ℤ value s.a) segments ≡ pos 0) → int_sum (seen p) segments ≡ int_sum (seen q) segments
wound_alike p q i j segments clear closed = by_lt_z (q.nx *ℤ p.d) (p.nx *ℤ q.d)
    (λ less.
    let back : IsRightward q p = record { left = j; right = i; order = le_from_lt less } in
    sym (same_seen q p back segments (All-weaker (λ (c : Seg). (z : Fraction) → IsOnWay p q z → is_on z c ≡ true → ⊥) (λ c. (z : Fraction) → IsOnWay q p z → is_on z c ≡ true → ⊥)
    (λ c h z w. h z (way_turned q p z w)) segments clear) (closed (weight q p back))))
    (λ le. let there : IsRightward p q = record { left = i; right = j; order = le } in same_seen p q there segments clear (closed (weight p q there)))
