-- Three points on one line: a point on the segment from the first to the last is on one of the two segments between them.
use Rattle.std.proofs.Common.{◌≡◌, inl, inr, List, [], ◌∷◌, ◌++◌, ℤ, pos, ◌+ℤ◌, ◌-ℤ◌, ◌*ℤ◌, neg_ℤ, ◌<ℤ◌, ◌≤ℤ◌, refl, sym, ap, ◌∙◌, subst, arith}
use Rattle.std.specs.Int.Signed.{clash_ℤ}
use Rattle.std.proofs.lemmas.Int.{ints, by_lt_z}
use Rattle.lemmas.proofs.Polynomials.{Polynomial, same_value, var, number, ◌⊕◌, ◌⊖◌, ◌⊗◌, minus, x_of, y_of, x_step, y_step, cross}
use Rattle.lemmas.proofs.Signs.{by_sign, le_from_lt, le_from_same, mul_positive, mul_not_negative, mul_not_positive, square_not_negative, sub_not_negative, le_le_trans, not_positive_from_mul, same_from_le, same_from_sub, le_by}
use Rattle.lemmas.proofs.Products.{zero_from_square}
use Rattle.tgap_model.specs.declared.geometry.Point.{Point}
use Rattle.tgap_model.specs.declared.geometry.Fraction.{Fraction}
use Rattle.tgap_model.specs.Point.{cross as cross_of}
use Rattle.removal_laws.specs.TriangleLaws.{OneLineCovers}
use Rattle.removal_laws.proofs.Between.{IsBetween, is_between, is_on_from, between_turned}

-- the square of the step from a to c, and the step from a to b along it
abbrev square : Point → Point → ℤ
square a c = (c.x -ℤ a.x) *ℤ (c.x -ℤ a.x) +ℤ (c.y -ℤ a.y) *ℤ (c.y -ℤ a.y)

abbrev along : Point → Point → Point → ℤ
along a b c = (c.x -ℤ a.x) *ℤ (b.x -ℤ a.x) +ℤ (c.y -ℤ a.y) *ℤ (b.y -ℤ a.y)

-- the polynomials of these of points 0, 1 and 2
abbrev square_of : Polynomial
square_of = x_step 0 2 ⊗ x_step 0 2 ⊕ y_step 0 2 ⊗ y_step 0 2

abbrev along_of : Polynomial
along_of = x_step 0 2 ⊗ x_step 0 1 ⊕ y_step 0 2 ⊗ y_step 0 1

-- no product with 0
drop_last : (r m : ℤ) (z : ℤ) → z ≡ pos 0 → r +ℤ m *ℤ z ≡ r
drop_last r m z e = ap (λ (w : ℤ). r +ℤ m *ℤ w) e ∙ same_value (r ∷ m ∷ []) (var 0 ⊕ var 1 ⊗ number (pos 0)) (var 0) refl

module _ (p : Fraction) (a b c : Point) (h : IsBetween p a c) (line : cross_of a b c ≡ pos 0) where
  -- at a
  at_first : h.far ≡ pos 0 → IsBetween p a b
  at_first e = record {
    total = h.total;
    near = h.near;
    far = pos 0;
    positive = h.positive;
    near_sign = h.near_sign;
    far_sign = le_from_same refl;
    under = h.under ∙ ap (λ (z : ℤ). h.near +ℤ z) e;
    over_x = h.over_x ∙ moved a.x c.x b.x;
    over_y = h.over_y ∙ moved a.y c.y b.y;
  }
    where
      moved : (x y z : ℤ) → h.near *ℤ x +ℤ h.far *ℤ y ≡ h.near *ℤ x +ℤ pos 0 *ℤ z
      moved x y z = ap (λ (w : ℤ). h.near *ℤ x +ℤ w *ℤ y) e ∙ same_value (h.near ∷ x ∷ y ∷ z ∷ []) (var 0 ⊗ var 1 ⊕ number (pos 0) ⊗ var 2) (var 0 ⊗ var 1 ⊕ number (pos 0) ⊗ var 3) refl

  -- no farther than b, which is ahead of a
  up_to : pos 0 <ℤ along a b c → (h.far *ℤ square a c) ≤ℤ ((h.near +ℤ h.far) *ℤ along a b c) → IsBetween p a b
  up_to ahead near = record {
    total = h.total *ℤ along a b c;
    near = (h.near +ℤ h.far) *ℤ along a b c -ℤ h.far *ℤ square a c;
    far = h.far *ℤ square a c;
    positive = mul_positive h.positive ahead;
    near_sign = sub_not_negative near;
    far_sign = mul_not_negative h.far_sign (sum _ _ (square_not_negative (c.x -ℤ a.x)) (square_not_negative (c.y -ℤ a.y)));
    under =
        same_value (h.total ∷ along a b c ∷ p.d ∷ []) ((var 0 ⊗ var 1) ⊗ var 2) ((var 0 ⊗ var 2) ⊗ var 1) refl
        ∙ ap (λ (z : ℤ). z *ℤ along a b c) h.under
        ∙ same_value (((h.near +ℤ h.far) *ℤ along a b c) ∷ (h.far *ℤ square a c) ∷ []) (var 0) ((var 0 ⊖ var 1) ⊕ var 1) refl;
    over_x =
        same_value (h.total ∷ along a b c ∷ p.nx ∷ []) ((var 0 ⊗ var 1) ⊗ var 2) ((var 0 ⊗ var 2) ⊗ var 1) refl
        ∙ ap (λ (z : ℤ). z *ℤ along a b c) h.over_x
        ∙ same_value (values ++ h.near ∷ h.far ∷ []) ((var 6 ⊗ x_of 0 ⊕ var 7 ⊗ x_of 2) ⊗ along_of)
        ((((var 6 ⊕ var 7) ⊗ along_of ⊖ var 7 ⊗ square_of) ⊗ x_of 0 ⊕ (var 7 ⊗ square_of) ⊗ x_of 1) ⊕ (minus (var 7) ⊗ y_step 0 2) ⊗ cross 0 1 2) refl
        ∙ drop_last _ _ _ line;
    over_y =
        same_value (h.total ∷ along a b c ∷ p.ny ∷ []) ((var 0 ⊗ var 1) ⊗ var 2) ((var 0 ⊗ var 2) ⊗ var 1) refl
        ∙ ap (λ (z : ℤ). z *ℤ along a b c) h.over_y
        ∙ same_value (values ++ h.near ∷ h.far ∷ []) ((var 6 ⊗ y_of 0 ⊕ var 7 ⊗ y_of 2) ⊗ along_of)
        ((((var 6 ⊕ var 7) ⊗ along_of ⊖ var 7 ⊗ square_of) ⊗ y_of 0 ⊕ (var 7 ⊗ square_of) ⊗ y_of 1) ⊕ (var 7 ⊗ x_step 0 2) ⊗ cross 0 1 2) refl
        ∙ drop_last _ _ _ line;
  }
    where
      values : List ℤ
      values = a.x ∷ a.y ∷ b.x ∷ b.y ∷ c.x ∷ c.y ∷ []

      sum : (x y : ℤ) → pos 0 ≤ℤ x → pos 0 ≤ℤ y → pos 0 ≤ℤ (x +ℤ y)
      sum x y i k = omega (arith, ints)

  sum : (x y : ℤ) → pos 0 ≤ℤ x → pos 0 ≤ℤ y → pos 0 ≤ℤ (x +ℤ y)
  sum x y i k = omega (arith, ints)

  -- the first and the last are one point
  at_one_point : a.x ≡ c.x → a.y ≡ c.y → IsBetween p a b
  at_one_point e f = record {
    total = h.total;
    near = h.near +ℤ h.far;
    far = pos 0;
    positive = h.positive;
    near_sign = sum h.near h.far h.near_sign h.far_sign;
    far_sign = le_from_same refl;
    under = h.under ∙ same_value (h.near ∷ h.far ∷ []) (var 0 ⊕ var 1) ((var 0 ⊕ var 1) ⊕ number (pos 0)) refl;
    over_x = h.over_x ∙ moved a.x c.x b.x e;
    over_y = h.over_y ∙ moved a.y c.y b.y f;
  }
    where
      moved : (x y z : ℤ) → x ≡ y → h.near *ℤ x +ℤ h.far *ℤ y ≡ (h.near +ℤ h.far) *ℤ x +ℤ pos 0 *ℤ z
      moved x y z same = ap (λ (w : ℤ). h.near *ℤ x +ℤ h.far *ℤ w) (sym same)
          ∙ same_value (h.near ∷ h.far ∷ x ∷ z ∷ []) (var 0 ⊗ var 2 ⊕ var 1 ⊗ var 2) ((var 0 ⊕ var 1) ⊗ var 2 ⊕ number (pos 0) ⊗ var 3) refl

  -- no farther than b
  covers_near : (h.far *ℤ square a c) ≤ℤ ((h.near +ℤ h.far) *ℤ along a b c) → IsBetween p a b
  covers_near near = by_sign (square a c)
      (λ l. clash_ℤ l long)
      (λ e. at_one_point
      (same_from_sub a.x c.x (zero_from_square (c.x -ℤ a.x) (first_part _ _ (square_not_negative (c.y -ℤ a.y)) e)))
      (same_from_sub a.y c.y (zero_from_square (c.y -ℤ a.y) (second_part _ _ (square_not_negative (c.x -ℤ a.x)) e))))
      (λ l. by_lt_z (pos 0) (along a b c) (λ ahead. up_to ahead near) (λ k. at_first (no_far l (le_le_trans near (mul_not_positive (sum h.near h.far h.near_sign h.far_sign) k)))))
    where
      long : pos 0 ≤ℤ square a c
      long = sum _ _ (square_not_negative (c.x -ℤ a.x)) (square_not_negative (c.y -ℤ a.y))

      no_far : pos 0 <ℤ square a c → (h.far *ℤ square a c) ≤ℤ pos 0 → h.far ≡ pos 0
      no_far l k = same_from_le (not_positive_from_mul (square a c) h.far l (subst (λ (z : ℤ). z ≤ℤ pos 0) (same_value (h.far ∷ square a c ∷ []) (var 0 ⊗ var 1) (var 1 ⊗ var 0) refl) k)) h.far_sign

      first_part : (x y : ℤ) → pos 0 ≤ℤ y → x +ℤ y ≡ pos 0 → x ≤ℤ pos 0
      first_part x y i e = omega (arith, ints)

      second_part : (x y : ℤ) → pos 0 ≤ℤ x → x +ℤ y ≡ pos 0 → y ≤ℤ pos 0
      second_part x y i e = omega (arith, ints)

pub one_line_covers : OneLineCovers
unfolding between_turned
one_line_covers a b c p line positive on = by_lt_z ((h.near +ℤ h.far) *ℤ along a b c) (h.far *ℤ square a c)
    (λ l. inr (is_on_from p b c (between_turned p c b (covers_near p c b a (between_turned p a c h) back (from_last l)))))
    (λ l. inl (is_on_from p a b (covers_near p a b c h line l)))
  where
    h : IsBetween p a c
    h = is_between p a c positive on

    values : List ℤ
    values = a.x ∷ a.y ∷ b.x ∷ b.y ∷ c.x ∷ c.y ∷ []

    back : cross_of c b a ≡ pos 0
    back = same_value (a.x ∷ a.y ∷ b.x ∷ b.y ∷ c.x ∷ c.y ∷ []) (cross 2 1 0) (minus (cross 0 1 2)) refl ∙ ap neg_ℤ line

    from_last : ((h.near +ℤ h.far) *ℤ along a b c) <ℤ (h.far *ℤ square a c) → (h.near *ℤ square c a) ≤ℤ ((h.far +ℤ h.near) *ℤ along c b a)
    from_last l = le_by (le_from_lt l)
        (same_value (a.x ∷ a.y ∷ b.x ∷ b.y ∷ c.x ∷ c.y ∷ h.near ∷ h.far ∷ [])
        ((var 7 ⊕ var 6) ⊗ (x_step 2 0 ⊗ x_step 2 1 ⊕ y_step 2 0 ⊗ y_step 2 1) ⊖ var 6 ⊗ (x_step 2 0 ⊗ x_step 2 0 ⊕ y_step 2 0 ⊗ y_step 2 0))
        (var 7 ⊗ square_of ⊖ (var 6 ⊕ var 7) ⊗ along_of) refl)
