-- A rational point on a segment as a weighted mean of its ends, with weights that are not negative.
use Rattle.std.proofs.Common.{◌≡◌, ◌≢◌, ◌⊎◌, inl, inr, ℕ, ◌+◌, true, ◌&&◌, [], ◌∷◌, ℤ, pos, ◌+ℤ◌, ◌-ℤ◌, ◌*ℤ◌, ◌<ℤ◌, ◌≤ℤ◌, int_le, refl, sym, ap, ◌∙◌, subst, arith}
use Rattle.std.specs.Int.Signed.{clash_ℤ}
use Rattle.std.proofs.lemmas.Bool.{and_parts, and_from, or_cases, or_left, or_right}
use Rattle.std.proofs.lemmas.Bool.Decides.{Decides-int_eq}
use Rattle.std.proofs.lemmas.Int.{ints, by_lt_z}
use Rattle.lemmas.proofs.Polynomials.{Polynomial, same_value, var, number, ◌⊕◌, ◌⊖◌, ◌⊗◌, minus, x_of, y_of, x_step, y_step, cross}
use Rattle.lemmas.proofs.Products.{zero_from_square, zero_from_mul_left}
use Rattle.lemmas.proofs.Signs.{Decides-int_le, by_sign, le_from_lt, le_from_same, mul_not_negative, square_not_negative, neg_not_negative, not_negative_from_mul, not_positive_from_mul, mul_not_positive, same_from_mul_left, apart_from_lt, le_from_sub, same_from_sub, sub_not_negative, sub_negative}
use Rattle.tgap_model.specs.declared.geometry.Point.{Point}
use Rattle.tgap_model.specs.declared.geometry.Fraction.{Fraction}
use Rattle.tgap_model.specs.Point.{cross as cross_of}
use Rattle.tgap_model.specs.Segment.{cross_at, is_at, is_on, lies_between}

-- the orientation of a fraction, of which nx, ny and d are variables n, n + 1 and n + 2, against the line of points i and j
abbrev pub cross_at_of : ℕ → ℕ → ℕ → Polynomial
cross_at_of i j n = x_step i j ⊗ (var (n + 1) ⊖ var (n + 2) ⊗ y_of i) ⊖ y_step i j ⊗ (var n ⊖ var (n + 2) ⊗ x_of i)

-- `total` times the point is `near` times u and `far` times v
pub record IsBetween (p : Fraction) (u v : Point) : Type 0 where
  pub total : ℤ
  pub near : ℤ
  pub far : ℤ
  pub positive : pos 0 <ℤ total
  pub near_sign : pos 0 ≤ℤ near
  pub far_sign : pos 0 ≤ℤ far
  pub under : total *ℤ p.d ≡ near +ℤ far
  pub over_x : total *ℤ p.nx ≡ near *ℤ u.x +ℤ far *ℤ v.x
  pub over_y : total *ℤ p.ny ≡ near *ℤ u.y +ℤ far *ℤ v.y

-- the ends may change places
unfoldable pub between_turned : (p : Fraction) (u v : Point) → IsBetween p u v → IsBetween p v u
between_turned p u v h = record {
  total = h.total;
  near = h.far;
  far = h.near;
  positive = h.positive;
  near_sign = h.far_sign;
  far_sign = h.near_sign;
  under = h.under ∙ same_value (h.near ∷ h.far ∷ []) (var 0 ⊕ var 1) (var 1 ⊕ var 0) refl;
  over_x = h.over_x ∙ same_value (h.near ∷ h.far ∷ u.x ∷ v.x ∷ []) (var 0 ⊗ var 2 ⊕ var 1 ⊗ var 3) (var 1 ⊗ var 3 ⊕ var 0 ⊗ var 2) refl;
  over_y = h.over_y ∙ same_value (h.near ∷ h.far ∷ u.y ∷ v.y ∷ []) (var 0 ⊗ var 2 ⊕ var 1 ⊗ var 3) (var 1 ⊗ var 3 ⊕ var 0 ⊗ var 2) refl;
}

-- ---- the orientation against a line is the weighted mean of those of the ends

-- the orientation against the line from k to l, by the coordinates and the denominator
abbrev pub by_parts : Point → Point → ℤ → ℤ → ℤ → ℤ
by_parts k l x y d = (l.x -ℤ k.x) *ℤ (y -ℤ d *ℤ k.y) -ℤ (l.y -ℤ k.y) *ℤ (x -ℤ d *ℤ k.x)

module _ (p : Fraction) (u v : Point) (h : IsBetween p u v) (k l : Point) where
  pub cross_between : h.total *ℤ cross_at k l p ≡ h.near *ℤ cross_of k l u +ℤ h.far *ℤ cross_of k l v
  cross_between =
      same_value (k.x ∷ k.y ∷ l.x ∷ l.y ∷ p.nx ∷ p.ny ∷ p.d ∷ h.total ∷ []) (var 7 ⊗ cross_at_of 0 1 4)
      (x_step 0 1 ⊗ (var 7 ⊗ var 5 ⊖ (var 7 ⊗ var 6) ⊗ y_of 0) ⊖ y_step 0 1 ⊗ (var 7 ⊗ var 4 ⊖ (var 7 ⊗ var 6) ⊗ x_of 0)) refl
      ∙ ap (λ (z : ℤ). by_parts k l z (h.total *ℤ p.ny) (h.total *ℤ p.d)) h.over_x
      ∙ ap (λ (z : ℤ). by_parts k l (h.near *ℤ u.x +ℤ h.far *ℤ v.x) z (h.total *ℤ p.d)) h.over_y
      ∙ ap (λ (z : ℤ). by_parts k l (h.near *ℤ u.x +ℤ h.far *ℤ v.x) (h.near *ℤ u.y +ℤ h.far *ℤ v.y) z) h.under
      ∙ same_value (k.x ∷ k.y ∷ l.x ∷ l.y ∷ u.x ∷ u.y ∷ v.x ∷ v.y ∷ h.near ∷ h.far ∷ [])
      (x_step 0 1 ⊗ ((var 8 ⊗ y_of 2 ⊕ var 9 ⊗ y_of 3) ⊖ (var 8 ⊕ var 9) ⊗ y_of 0) ⊖ y_step 0 1 ⊗ ((var 8 ⊗ x_of 2 ⊕ var 9 ⊗ x_of 3) ⊖ (var 8 ⊕ var 9) ⊗ x_of 0))
      (var 8 ⊗ cross 0 1 2 ⊕ var 9 ⊗ cross 0 1 3) refl

-- ---- at an end

-- with no weight of one end the point is the other one
pub lone_weight : (t n d m w x y : ℤ) → t ≢ pos 0 → w ≡ pos 0 → t *ℤ d ≡ m +ℤ w → t *ℤ n ≡ m *ℤ x +ℤ w *ℤ y → n ≡ d *ℤ x
lone_weight t n d m w x y h z e f =
    same_from_mul_left t h (
    f ∙ ap (λ (i : ℤ). m *ℤ x +ℤ i *ℤ y) z
    ∙ same_value (m ∷ x ∷ y ∷ []) (var 0 ⊗ var 1 ⊕ number (pos 0) ⊗ var 2) ((var 0 ⊕ number (pos 0)) ⊗ var 1) refl
    ∙ ap (λ (i : ℤ). (m +ℤ i) *ℤ x) (sym z) ∙ ap (λ (i : ℤ). i *ℤ x) (sym e)
    ∙ same_value (t ∷ d ∷ x ∷ []) ((var 0 ⊗ var 1) ⊗ var 2) (var 0 ⊗ (var 1 ⊗ var 2)) refl)

not_zero : {t : ℤ} → pos 0 <ℤ t → t ≢ pos 0
not_zero h e = apart_from_lt h (sym e)

pub at_near : (p : Fraction) (u v : Point) (h : IsBetween p u v) → h.far ≡ pos 0 → is_at p u ≡ true
at_near p u v h z =
    and_from _ _ ((Decides-int_eq _ _).1 (lone_weight h.total p.nx p.d h.near h.far u.x v.x (not_zero h.positive) z h.under h.over_x))
    ((Decides-int_eq _ _).1 (lone_weight h.total p.ny p.d h.near h.far u.y v.y (not_zero h.positive) z h.under h.over_y))

pub at_far : (p : Fraction) (u v : Point) (h : IsBetween p u v) → h.near ≡ pos 0 → is_at p v ≡ true
unfolding between_turned
at_far p u v h z = at_near p v u (between_turned p u v h) z

-- ---- from the test, and back

-- coordinates between those of the ends
in_order : (u v n d : ℤ) → lies_between u v n d ≡ true
    → ((pos 0 ≤ℤ (n -ℤ d *ℤ u)) × (pos 0 ≤ℤ (d *ℤ v -ℤ n))) ⊎ (((n -ℤ d *ℤ u) ≤ℤ pos 0) × ((d *ℤ v -ℤ n) ≤ℤ pos 0))
in_order u v n d e = elim (or_cases (int_le (d *ℤ u) n && int_le n (d *ℤ v)) (int_le (d *ℤ v) n && int_le n (d *ℤ u)) e) [
  | inl f ↦
      let parts = and_parts (int_le (d *ℤ u) n) (int_le n (d *ℤ v)) f in
      inl (not_negative (d *ℤ u) n ((Decides-int_le (d *ℤ u) n).0 parts.0), not_negative n (d *ℤ v) ((Decides-int_le n (d *ℤ v)).0 parts.1))
  | inr f ↦
      let parts = and_parts (int_le (d *ℤ v) n) (int_le n (d *ℤ u)) f in
      inr (not_positive n (d *ℤ u) ((Decides-int_le n (d *ℤ u)).0 parts.1), not_positive (d *ℤ v) n ((Decides-int_le (d *ℤ v) n).0 parts.0))
]
  where
    not_negative : (x y : ℤ) → x ≤ℤ y → pos 0 ≤ℤ (y -ℤ x)
    not_negative x y l = omega (arith, ints)

    not_positive : (x y : ℤ) → x ≤ℤ y → (x -ℤ y) ≤ℤ pos 0
    not_positive x y l = omega (arith, ints)

le_from_sub_back : (x y : ℤ) → (y -ℤ x) ≤ℤ pos 0 → y ≤ℤ x
le_from_sub_back x y h = omega (arith, ints)

pub negatives : (a b : ℤ) → a ≤ℤ pos 0 → b ≤ℤ pos 0 → pos 0 ≤ℤ (a *ℤ b)
negatives a b h k = subst (λ (z : ℤ). pos 0 ≤ℤ z) (same_value (a ∷ b ∷ []) (minus (var 0) ⊗ minus (var 1)) (var 0 ⊗ var 1) refl) (mul_not_negative (neg_not_negative h) (neg_not_negative k))

-- the step from u to v times the gap from u to the point, and times the gap from the point to v
gap_products : (u v n d : ℤ) → pos 0 <ℤ d → lies_between u v n d ≡ true
    → (pos 0 ≤ℤ ((v -ℤ u) *ℤ (n -ℤ d *ℤ u))) × (pos 0 ≤ℤ ((v -ℤ u) *ℤ (d *ℤ v -ℤ n)))
gap_products u v n d positive e = by (in_order u v n d e)
  where
    whole : d *ℤ (v -ℤ u) ≡ (n -ℤ d *ℤ u) +ℤ (d *ℤ v -ℤ n)
    whole = same_value (u ∷ v ∷ n ∷ d ∷ []) (var 3 ⊗ (var 1 ⊖ var 0)) ((var 2 ⊖ var 3 ⊗ var 0) ⊕ (var 3 ⊗ var 1 ⊖ var 2)) refl

    up : (x y : ℤ) → pos 0 ≤ℤ x → pos 0 ≤ℤ y → pos 0 ≤ℤ (x +ℤ y)
    up x y h k = omega (arith, ints)

    down : (x y : ℤ) → x ≤ℤ pos 0 → y ≤ℤ pos 0 → (x +ℤ y) ≤ℤ pos 0
    down x y h k = omega (arith, ints)

    by : ((pos 0 ≤ℤ (n -ℤ d *ℤ u)) × (pos 0 ≤ℤ (d *ℤ v -ℤ n))) ⊎ (((n -ℤ d *ℤ u) ≤ℤ pos 0) × ((d *ℤ v -ℤ n) ≤ℤ pos 0))
        → (pos 0 ≤ℤ ((v -ℤ u) *ℤ (n -ℤ d *ℤ u))) × (pos 0 ≤ℤ ((v -ℤ u) *ℤ (d *ℤ v -ℤ n)))
    by (inl k) =
        let r = not_negative_from_mul d (v -ℤ u) positive (subst (λ (z : ℤ). pos 0 ≤ℤ z) (sym whole) (up _ _ k.0 k.1)) in
        (mul_not_negative r k.0, mul_not_negative r k.1)
    by (inr k) =
        let r = not_positive_from_mul d (v -ℤ u) positive (subst (λ (z : ℤ). z ≤ℤ pos 0) (sym whole) (down _ _ k.0 k.1)) in
        (negatives _ _ r k.0, negatives _ _ r k.1)

-- the parts of the test
pub on_line : (p : Fraction) (u v : Point) → is_on p (record { a = u; b = v }) ≡ true → cross_at u v p ≡ pos 0
on_line p u v h = (Decides-int_eq (cross_at u v p) (pos 0)).0 (and_parts _ _ (and_parts _ (lies_between u.y v.y p.ny p.d) h).0).0

module _ (p : Fraction) (u v : Point) (positive : pos 0 <ℤ p.d) (h : is_on p (record { a = u; b = v }) ≡ true) where
  between_x : lies_between u.x v.x p.nx p.d ≡ true
  between_x = (and_parts _ _ (and_parts _ (lies_between u.y v.y p.ny p.d) h).0).1

  between_y : lies_between u.y v.y p.ny p.d ≡ true
  between_y = (and_parts _ (lies_between u.y v.y p.ny p.d) h).1

  abbrev square : ℤ
  square = (v.x -ℤ u.x) *ℤ (v.x -ℤ u.x) +ℤ (v.y -ℤ u.y) *ℤ (v.y -ℤ u.y)

  abbrev to_far : ℤ
  to_far = (v.x -ℤ u.x) *ℤ (p.nx -ℤ p.d *ℤ u.x) +ℤ (v.y -ℤ u.y) *ℤ (p.ny -ℤ p.d *ℤ u.y)

  abbrev to_near : ℤ
  to_near = (v.x -ℤ u.x) *ℤ (p.d *ℤ v.x -ℤ p.nx) +ℤ (v.y -ℤ u.y) *ℤ (p.d *ℤ v.y -ℤ p.ny)

  up : (x y : ℤ) → pos 0 ≤ℤ x → pos 0 ≤ℤ y → pos 0 ≤ℤ (x +ℤ y)
  up x y i k = omega (arith, ints)

  abbrev square_of : Polynomial
  square_of = x_step 0 1 ⊗ x_step 0 1 ⊕ y_step 0 1 ⊗ y_step 0 1

  abbrev far_of : Polynomial
  far_of = x_step 0 1 ⊗ (var 4 ⊖ var 6 ⊗ x_of 0) ⊕ y_step 0 1 ⊗ (var 5 ⊖ var 6 ⊗ y_of 0)

  abbrev near_of : Polynomial
  near_of = x_step 0 1 ⊗ (var 6 ⊗ x_of 1 ⊖ var 4) ⊕ y_step 0 1 ⊗ (var 6 ⊗ y_of 1 ⊖ var 5)

  -- the weights are the gaps along the segment
  by_gaps : pos 0 <ℤ square → IsBetween p u v
  by_gaps long = record {
    total = square;
    near = to_near;
    far = to_far;
    positive = long;
    near_sign = up _ _ (gap_products u.x v.x p.nx p.d positive between_x).1 (gap_products u.y v.y p.ny p.d positive between_y).1;
    far_sign = up _ _ (gap_products u.x v.x p.nx p.d positive between_x).0 (gap_products u.y v.y p.ny p.d positive between_y).0;
    under = same_value (u.x ∷ u.y ∷ v.x ∷ v.y ∷ p.nx ∷ p.ny ∷ p.d ∷ []) (square_of ⊗ var 6) (near_of ⊕ far_of) refl;
    over_x =
        same_value (u.x ∷ u.y ∷ v.x ∷ v.y ∷ p.nx ∷ p.ny ∷ p.d ∷ []) (square_of ⊗ var 4) ((near_of ⊗ x_of 0 ⊕ far_of ⊗ x_of 1) ⊖ y_step 0 1 ⊗ cross_at_of 0 1 4) refl
        ∙ ap (λ (z : ℤ). (to_near *ℤ u.x +ℤ to_far *ℤ v.x) -ℤ (v.y -ℤ u.y) *ℤ z) (on_line p u v h)
        ∙ same_value ((to_near *ℤ u.x +ℤ to_far *ℤ v.x) ∷ (v.y -ℤ u.y) ∷ []) (var 0 ⊖ var 1 ⊗ number (pos 0)) (var 0) refl;
    over_y =
        same_value (u.x ∷ u.y ∷ v.x ∷ v.y ∷ p.nx ∷ p.ny ∷ p.d ∷ []) (square_of ⊗ var 5) ((near_of ⊗ y_of 0 ⊕ far_of ⊗ y_of 1) ⊕ x_step 0 1 ⊗ cross_at_of 0 1 4) refl
        ∙ ap (λ (z : ℤ). (to_near *ℤ u.y +ℤ to_far *ℤ v.y) +ℤ (v.x -ℤ u.x) *ℤ z) (on_line p u v h)
        ∙ same_value ((to_near *ℤ u.y +ℤ to_far *ℤ v.y) ∷ (v.x -ℤ u.x) ∷ []) (var 0 ⊕ var 1 ⊗ number (pos 0)) (var 0) refl;
  }

  -- a segment whose ends are one point
  at_one_point : (v.x -ℤ u.x ≡ pos 0) → (v.y -ℤ u.y ≡ pos 0) → IsBetween p u v
  at_one_point e f = record {
    total = pos 1;
    near = p.d;
    far = pos 0;
    positive = record { lt = tt };
    near_sign = le_from_lt positive;
    far_sign = le_from_same refl;
    under = same_value (p.d ∷ []) (number (pos 1) ⊗ var 0) (var 0 ⊕ number (pos 0)) refl;
    over_x = lone u.x v.x p.nx between_x e;
    over_y = lone u.y v.y p.ny between_y f;
  }
    where
      pinned : (r n w : ℤ) → r ≡ w → (w ≤ℤ n) × (n ≤ℤ r) ⊎ (r ≤ℤ n) × (n ≤ℤ w) → n ≡ w
      pinned r n w s (inl k) = omega (arith, ints, k.0, k.1)
      pinned r n w s (inr k) = omega (arith, ints, k.0, k.1)

      lone : (a b n : ℤ) → lies_between a b n p.d ≡ true → b -ℤ a ≡ pos 0 → pos 1 *ℤ n ≡ p.d *ℤ a +ℤ pos 0 *ℤ b
      lone a b n k z =
          same_value (n ∷ []) (number (pos 1) ⊗ var 0) (var 0) refl
          ∙ pinned (p.d *ℤ b) n (p.d *ℤ a) (ap (λ (w : ℤ). p.d *ℤ w) (sym (same_from_sub a b z))) (
          elim (or_cases (int_le (p.d *ℤ a) n && int_le n (p.d *ℤ b)) (int_le (p.d *ℤ b) n && int_le n (p.d *ℤ a)) k) [
            | inl f ↦
                let parts = and_parts (int_le (p.d *ℤ a) n) (int_le n (p.d *ℤ b)) f in
                inl ((Decides-int_le (p.d *ℤ a) n).0 parts.0, (Decides-int_le n (p.d *ℤ b)).0 parts.1)
            | inr f ↦
                let parts = and_parts (int_le (p.d *ℤ b) n) (int_le n (p.d *ℤ a)) f in
                inr ((Decides-int_le (p.d *ℤ b) n).0 parts.0, (Decides-int_le n (p.d *ℤ a)).0 parts.1)
          ])
          ∙ same_value (p.d ∷ a ∷ b ∷ []) (var 0 ⊗ var 1) (var 0 ⊗ var 1 ⊕ number (pos 0) ⊗ var 2) refl

  -- a point on a segment is between its ends
  pub is_between : IsBetween p u v
  is_between = by_sign square
      (λ l. clash_ℤ l (up _ _ (square_not_negative (v.x -ℤ u.x)) (square_not_negative (v.y -ℤ u.y))))
      (λ e. at_one_point (zero_from_square (v.x -ℤ u.x) (first_part _ _ (square_not_negative (v.y -ℤ u.y)) e)) (zero_from_square (v.y -ℤ u.y) (second_part _ _ (square_not_negative (v.x -ℤ u.x)) e)))
      by_gaps
    where
      first_part : (x y : ℤ) → pos 0 ≤ℤ y → x +ℤ y ≡ pos 0 → x ≤ℤ pos 0
      first_part x y h e = omega (arith, ints)

      second_part : (x y : ℤ) → pos 0 ≤ℤ x → x +ℤ y ≡ pos 0 → y ≤ℤ pos 0
      second_part x y h e = omega (arith, ints)

-- and a point between two ends is on the segment
module _ (p : Fraction) (u v : Point) (h : IsBetween p u v) where
  -- a coordinate is between those of the ends: the gaps to them, times the total, are the weights times the step from a to b
  mean_between : (n a b : ℤ) → h.total *ℤ n ≡ h.near *ℤ a +ℤ h.far *ℤ b → lies_between a b n p.d ≡ true
  mean_between n a b e = by_lt_z b a
      (λ l. or_right (int_le (p.d *ℤ a) n && int_le n (p.d *ℤ b)) _ (and_from (int_le (p.d *ℤ b) n) (int_le n (p.d *ℤ a))
      ((Decides-int_le _ _).1 (down n (p.d *ℤ b) h.near h.near_sign l to_b))
      ((Decides-int_le _ _).1 (down (p.d *ℤ a) n h.far h.far_sign l from_a))))
      (λ l. or_left _ (int_le (p.d *ℤ b) n && int_le n (p.d *ℤ a)) (and_from (int_le (p.d *ℤ a) n) (int_le n (p.d *ℤ b))
      ((Decides-int_le _ _).1 (along (p.d *ℤ a) n h.far h.far_sign l from_a))
      ((Decides-int_le _ _).1 (along n (p.d *ℤ b) h.near h.near_sign l to_b))))
    where
      from_a : h.total *ℤ (n -ℤ p.d *ℤ a) ≡ h.far *ℤ (b -ℤ a)
      from_a =
          same_value (h.total ∷ n ∷ p.d ∷ a ∷ []) (var 0 ⊗ (var 1 ⊖ var 2 ⊗ var 3)) (var 0 ⊗ var 1 ⊖ (var 0 ⊗ var 2) ⊗ var 3) refl
          ∙ ap (λ (z : ℤ). z -ℤ (h.total *ℤ p.d) *ℤ a) e ∙ ap (λ (z : ℤ). (h.near *ℤ a +ℤ h.far *ℤ b) -ℤ z *ℤ a) h.under
          ∙ same_value (h.near ∷ h.far ∷ a ∷ b ∷ []) ((var 0 ⊗ var 2 ⊕ var 1 ⊗ var 3) ⊖ (var 0 ⊕ var 1) ⊗ var 2) (var 1 ⊗ (var 3 ⊖ var 2)) refl

      to_b : h.total *ℤ (p.d *ℤ b -ℤ n) ≡ h.near *ℤ (b -ℤ a)
      to_b =
          same_value (h.total ∷ n ∷ p.d ∷ b ∷ []) (var 0 ⊗ (var 2 ⊗ var 3 ⊖ var 1)) ((var 0 ⊗ var 2) ⊗ var 3 ⊖ var 0 ⊗ var 1) refl
          ∙ ap (λ (z : ℤ). (h.total *ℤ p.d) *ℤ b -ℤ z) e ∙ ap (λ (z : ℤ). z *ℤ b -ℤ (h.near *ℤ a +ℤ h.far *ℤ b)) h.under
          ∙ same_value (h.near ∷ h.far ∷ a ∷ b ∷ []) ((var 0 ⊕ var 1) ⊗ var 3 ⊖ (var 0 ⊗ var 2 ⊕ var 1 ⊗ var 3)) (var 0 ⊗ (var 3 ⊖ var 2)) refl

      along : (x y w : ℤ) → pos 0 ≤ℤ w → a ≤ℤ b → h.total *ℤ (y -ℤ x) ≡ w *ℤ (b -ℤ a) → x ≤ℤ y
      along x y w k l f = le_from_sub x y (not_negative_from_mul h.total (y -ℤ x) h.positive (subst (λ (z : ℤ). pos 0 ≤ℤ z) (sym f) (mul_not_negative k (sub_not_negative l))))

      down : (x y w : ℤ) → pos 0 ≤ℤ w → b <ℤ a → h.total *ℤ (y -ℤ x) ≡ w *ℤ (b -ℤ a) → y ≤ℤ x
      down x y w k l f = le_from_sub_back x y (not_positive_from_mul h.total (y -ℤ x) h.positive (subst (λ (z : ℤ). z ≤ℤ pos 0) (sym f) (mul_not_positive k (le_from_lt (sub_negative l)))))

  pub is_on_from : is_on p (record { a = u; b = v }) ≡ true
  is_on_from =
      and_from _ _ (and_from _ _ ((Decides-int_eq _ _).1 line) (mean_between p.nx u.x v.x h.over_x)) (mean_between p.ny u.y v.y h.over_y)
    where
      line : cross_at u v p ≡ pos 0
      line = zero_from_mul_left h.total (λ i. apart_from_lt h.positive (sym i)) (
          cross_between p u v h u v
          ∙ same_value (u.x ∷ u.y ∷ v.x ∷ v.y ∷ h.near ∷ h.far ∷ []) (var 4 ⊗ cross 0 1 0 ⊕ var 5 ⊗ cross 0 1 1) (number (pos 0)) refl)
