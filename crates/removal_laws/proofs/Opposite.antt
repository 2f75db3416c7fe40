-- The point opposite to another one, seen from o, and directions on one line: of one half turn they go one way, of two half turns they
-- are opposite.
use Rattle.std.proofs.Common.{◌≡◌, ◌≢◌, inl, inr, ℕ, zero, suc, ◌≤◌, Bool, true, false, cond, ◌&&◌, ◌||◌, ◌==◌, nat_lt, ℤ, pos, ◌+ℤ◌, ◌-ℤ◌, ◌*ℤ◌, neg_ℤ, ◌<ℤ◌, ◌≤ℤ◌, int_lt, [], ◌∷◌, refl, sym, ap, ap₂, ◌∙◌, subst, arith}
use Rattle.std.specs.Ordering.{int_eq}
use Rattle.std.proofs.lemmas.Int.{ints}
use Rattle.lemmas.proofs.Polynomials.{same_value, var, number, minus, ◌⊕◌, ◌⊖◌, ◌⊗◌, x_of, y_of, x_step, y_step, cross, Polynomial}
use Rattle.lemmas.proofs.Signs.{Decides-int_lt, same_from_sub, mul_positive, square_not_negative, not_negative_from_mul, positive_from_mul, apart_from_lt}
use Rattle.tgap_model.specs.declared.geometry.Point.{Point}
use Rattle.tgap_model.specs.Point.{cross as cross_of}
use Rattle.tgap_model.specs.Segment.{half_turn, turns_before}
use Rattle.tgap_model.proofs.Points.{point_same}
use Rattle.grid_geo.proofs.Turns.{IsUpper, HalfCase, half_case}
use Rattle.removal_laws.specs.WedgeLaws.{ComeAlike}

-- ---- half turns

-- a half turn is the first or the second one
half_low : (o p : Point) → half_turn o p ≤ 1
half_low o p = by (int_lt o.y p.y || (int_eq o.y p.y && int_lt o.x p.x))
  where
    by : (b : Bool) → cond {A = ℕ} b 0 1 ≤ 1
    by true = omega arith
    by false = omega arith

-- so of three, where the second differs from the others, these are one
pub other_half : (o p q r : Point) → half_turn o p ≢ half_turn o q → half_turn o r ≢ half_turn o q → half_turn o p ≡ half_turn o r
other_half o p q r m n = by (half_turn o p) (half_turn o q) (half_turn o r) (half_low o p) (half_low o q) (half_low o r) m n
  where
    by : (i j k : ℕ) → i ≤ 1 → j ≤ 1 → k ≤ 1 → i ≢ j → k ≢ j → i ≡ k
    by zero j zero a b c m n = refl
    by zero zero (suc k) a b c m n = absurd (m refl)
    by zero (suc j) (suc k) a b c m n = absurd (n (omega (arith, b, c)))
    by (suc i) zero zero a b c m n = absurd (n refl)
    by (suc i) (suc j) zero a b c m n = absurd (m (omega (arith, a, b)))
    by (suc i) j (suc k) a b c m n = omega (arith, a, c)

module _ (o : Point) where
  abbrev pub opposite : Point → Point
  opposite p = record { x = pos 2 *ℤ o.x -ℤ p.x; y = pos 2 *ℤ o.y -ℤ p.y }

  pub opposite_apart : (p : Point) → o ≢ p → o ≢ opposite p
  opposite_apart p n e = n (point_same o p (same o.x p.x (ap (λ (q : Point). q.x) e)) (same o.y p.y (ap (λ (q : Point). q.y) e)))
    where
      same : (u v : ℤ) → u ≡ pos 2 *ℤ u -ℤ v → u ≡ v
      same u v f = omega (arith, ints)

  -- a direction and the opposite one do not both go up
  not_both_upper : (x y : ℤ) → IsUpper x y → IsUpper (neg_ℤ x) (neg_ℤ y) → ⊥
  not_both_upper x y u w = elim u.cases [
    | inl up ↦ elim w.cases [ inl down ↦ absurd (omega (arith, ints)) | inr level ↦ (let f = level.0 in absurd (omega (arith, ints))) ]
    | inr level ↦ elim w.cases [
      | inl down ↦ (let f = level.0 in absurd (omega (arith, ints)))
      | inr flat ↦ (let f = level.1 in let g = flat.1 in absurd (omega (arith, ints)))
    ]
  ]

  pub opposite_half : (p : Point) → o ≢ p → half_turn o (opposite p) ≢ half_turn o p
  opposite_half p n e = by (half_turn o p) (half_case o p n)
      (subst (HalfCase (neg_ℤ (p.x -ℤ o.x)) (neg_ℤ (p.y -ℤ o.y))) e
      (subst (λ x. HalfCase x (neg_ℤ (p.y -ℤ o.y)) (half_turn o (opposite p))) (turned o.x p.x)
      (subst (λ y. HalfCase ((opposite p).x -ℤ o.x) y (half_turn o (opposite p))) (turned o.y p.y) (half_case o (opposite p) (opposite_apart p n)))))
    where
      turned : (u v : ℤ) → (pos 2 *ℤ u -ℤ v) -ℤ u ≡ neg_ℤ (v -ℤ u)
      turned u v = same_value (u ∷ v ∷ []) ((number (pos 2) ⊗ var 0 ⊖ var 1) ⊖ var 0) (minus (var 1 ⊖ var 0)) refl

      by : (i : ℕ) → HalfCase (p.x -ℤ o.x) (p.y -ℤ o.y) i → HalfCase (neg_ℤ (p.x -ℤ o.x)) (neg_ℤ (p.y -ℤ o.y)) i → ⊥
      by zero u w = not_both_upper (p.x -ℤ o.x) (p.y -ℤ o.y) u w
      by (suc i) u w = not_both_upper (neg_ℤ (p.x -ℤ o.x)) (neg_ℤ (p.y -ℤ o.y)) u w

  -- where p and q are of two half turns, the opposite of p is of that of q
  pub opposite_other : (p q : Point) → o ≢ p → half_turn o p ≢ half_turn o q → half_turn o (opposite p) ≡ half_turn o q
  opposite_other p q n m = other_half o (opposite p) p q (opposite_half p n) (λ e. m (sym e))

  pub cross_opposite_left : (p q : Point) → cross_of o (opposite p) q ≡ neg_ℤ (cross_of o p q)
  cross_opposite_left p q = same_value (o.x ∷ o.y ∷ p.x ∷ p.y ∷ q.x ∷ q.y ∷ [])
      (((number (pos 2) ⊗ x_of 0 ⊖ x_of 1) ⊖ x_of 0) ⊗ y_step 0 2 ⊖ ((number (pos 2) ⊗ y_of 0 ⊖ y_of 1) ⊖ y_of 0) ⊗ x_step 0 2) (minus (cross 0 1 2)) refl

  pub cross_opposite_right : (p q : Point) → cross_of o p (opposite q) ≡ neg_ℤ (cross_of o p q)
  cross_opposite_right p q = same_value (o.x ∷ o.y ∷ p.x ∷ p.y ∷ q.x ∷ q.y ∷ [])
      (x_step 0 1 ⊗ ((number (pos 2) ⊗ y_of 0 ⊖ y_of 2) ⊖ y_of 0) ⊖ y_step 0 1 ⊗ ((number (pos 2) ⊗ x_of 0 ⊖ x_of 2) ⊖ x_of 0)) (minus (cross 0 1 2)) refl

  pub cross_turned : (p q : Point) → cross_of o p q ≡ neg_ℤ (cross_of o q p)
  cross_turned p q = same_value (o.x ∷ o.y ∷ p.x ∷ p.y ∷ q.x ∷ q.y ∷ []) (cross 0 1 2) (minus (cross 0 2 1)) refl

-- ---- directions on one line

-- the inner product of the steps from o to p and to q
abbrev pub dot : Point → Point → Point → ℤ
dot o p q = (p.x -ℤ o.x) *ℤ (q.x -ℤ o.x) +ℤ (p.y -ℤ o.y) *ℤ (q.y -ℤ o.y)

sum_positive : (x y : ℤ) → pos 0 ≤ℤ x → pos 0 <ℤ y → pos 0 <ℤ (x +ℤ y)
sum_positive x y h k = omega (arith, ints)

upper_dot : (a b c d : ℤ) → IsUpper a b → IsUpper c d → a *ℤ d -ℤ b *ℤ c ≡ pos 0 → pos 0 <ℤ (a *ℤ c +ℤ b *ℤ d)
upper_dot a b c d u w e = elim u.cases [
  | inl up ↦ elim w.cases [
    | inl high ↦ sum_positive (a *ℤ c) (b *ℤ d)
        (not_negative_from_mul (b *ℤ d) (a *ℤ c) (mul_positive up high) (subst (λ (z : ℤ). pos 0 ≤ℤ z)
        (ap (λ (z : ℤ). z *ℤ (b *ℤ c)) even ∙ same_value (a ∷ b ∷ c ∷ d ∷ []) ((var 0 ⊗ var 3) ⊗ (var 1 ⊗ var 2)) ((var 1 ⊗ var 3) ⊗ (var 0 ⊗ var 2)) refl)
        (square_not_negative (b *ℤ c))))
        (mul_positive up high)
    | inr flat ↦ absurd (apart_from_lt (mul_positive up flat.1) (sym (even ∙ ap (λ (z : ℤ). a *ℤ z) flat.0 ∙ same_value (a ∷ []) (var 0 ⊗ number (pos 0)) (number (pos 0)) refl)))
  ]
  | inr level ↦ elim w.cases [
    | inl high ↦ absurd (apart_from_lt (mul_positive level.1 high) (sym (sym even ∙ ap (λ (z : ℤ). z *ℤ c) level.0 ∙ same_value (c ∷ []) (number (pos 0) ⊗ var 0) (number (pos 0)) refl)))
    | inr flat ↦ subst (λ (z : ℤ). pos 0 <ℤ z)
        (same_value (a ∷ c ∷ d ∷ []) (var 0 ⊗ var 1) (var 0 ⊗ var 1 ⊕ number (pos 0) ⊗ var 2) refl ∙ ap (λ (z : ℤ). a *ℤ c +ℤ z *ℤ d) (sym level.0))
        (mul_positive level.1 flat.1)
  ]
]
  where
    even : b *ℤ c ≡ a *ℤ d
    even = same_from_sub (b *ℤ c) (a *ℤ d) e

-- of one half turn and on one line they go one way
pub dot_positive : (o p q : Point) → o ≢ p → o ≢ q → half_turn o p ≡ half_turn o q → cross_of o p q ≡ pos 0 → pos 0 <ℤ dot o p q
dot_positive o p q np nq half line =
    by (half_turn o p) (half_case o p np) (subst (HalfCase (q.x -ℤ o.x) (q.y -ℤ o.y)) (sym half) (half_case o q nq))
  where
    by : (n : ℕ) → HalfCase (p.x -ℤ o.x) (p.y -ℤ o.y) n → HalfCase (q.x -ℤ o.x) (q.y -ℤ o.y) n → pos 0 <ℤ dot o p q
    by zero u w = upper_dot (p.x -ℤ o.x) (p.y -ℤ o.y) (q.x -ℤ o.x) (q.y -ℤ o.y) u w line
    by (suc n) u w = subst (λ (z : ℤ). pos 0 <ℤ z)
        (same_value ((p.x -ℤ o.x) ∷ (p.y -ℤ o.y) ∷ (q.x -ℤ o.x) ∷ (q.y -ℤ o.y) ∷ [])
        (minus (var 0) ⊗ minus (var 2) ⊕ minus (var 1) ⊗ minus (var 3)) (var 0 ⊗ var 2 ⊕ var 1 ⊗ var 3) refl)
        (upper_dot (neg_ℤ (p.x -ℤ o.x)) (neg_ℤ (p.y -ℤ o.y)) (neg_ℤ (q.x -ℤ o.x)) (neg_ℤ (q.y -ℤ o.y)) u w
        (same_value ((p.x -ℤ o.x) ∷ (p.y -ℤ o.y) ∷ (q.x -ℤ o.x) ∷ (q.y -ℤ o.y) ∷ [])
        (minus (var 0) ⊗ minus (var 3) ⊖ minus (var 1) ⊗ minus (var 2)) (var 0 ⊗ var 3 ⊖ var 1 ⊗ var 2) refl ∙ line))

-- of two half turns they are opposite
pub dot_negative : (o p q : Point) → o ≢ p → o ≢ q → half_turn o p ≢ half_turn o q → cross_of o p q ≡ pos 0 → pos 0 <ℤ neg_ℤ (dot o p q)
dot_negative o p q np nq half line = subst (λ (z : ℤ). pos 0 <ℤ z)
    (same_value (o.x ∷ o.y ∷ p.x ∷ p.y ∷ q.x ∷ q.y ∷ [])
    (((number (pos 2) ⊗ x_of 0 ⊖ x_of 1) ⊖ x_of 0) ⊗ x_step 0 2 ⊕ ((number (pos 2) ⊗ y_of 0 ⊖ y_of 1) ⊖ y_of 0) ⊗ y_step 0 2)
    (minus (x_step 0 1 ⊗ x_step 0 2 ⊕ y_step 0 1 ⊗ y_step 0 2)) refl)
    (dot_positive o (opposite o p) q (opposite_apart o p np) nq (opposite_other o p q np half) (cross_opposite_left o p q ∙ ap neg_ℤ line))

-- a point is not at itself alone: the square of the step to another one
pub square_step : (o p : Point) → o ≢ p → pos 0 <ℤ dot o p p
square_step o p n = dot_positive o p p n n refl (same_value (o.x ∷ o.y ∷ p.x ∷ p.y ∷ []) (cross 0 1 1) (number (pos 0)) refl)

-- ---- the order of directions does not tell those of one line and one half turn apart

-- two tests for a positive number, of numbers whose positive multiples are one
same_sign : (m k x y : ℤ) → pos 0 <ℤ m → pos 0 <ℤ k → m *ℤ x ≡ k *ℤ y → int_lt (pos 0) x ≡ int_lt (pos 0) y
same_sign m k x y h l e = by (int_lt (pos 0) x) (int_lt (pos 0) y) refl refl
  where
    into : (m k x y : ℤ) → pos 0 <ℤ m → pos 0 <ℤ k → m *ℤ x ≡ k *ℤ y → int_lt (pos 0) x ≡ true → int_lt (pos 0) y ≡ true
    into m k x y h l e f = (Decides-int_lt (pos 0) y).1 (positive_from_mul k y l (subst (λ (z : ℤ). pos 0 <ℤ z) e (mul_positive h ((Decides-int_lt (pos 0) x).0 f))))

    by : (b c : Bool) → int_lt (pos 0) x ≡ b → int_lt (pos 0) y ≡ c → b ≡ c
    by true c f g = sym (into m k x y h l e f) ∙ g
    by false true f g = sym f ∙ into k m y x l h (sym e) g
    by false false f g = refl

module _ (o p q : Point) (np : o ≢ p) (nq : o ≢ q) (half : half_turn o p ≡ half_turn o q) (line : cross_of o p q ≡ pos 0) where
  abbrev inner : ℕ → ℕ → Polynomial
  inner i j = x_step 0 i ⊗ x_step 0 j ⊕ y_step 0 i ⊗ y_step 0 j

  left_scaled : (r : Point) → dot o p p *ℤ cross_of o q r ≡ dot o p q *ℤ cross_of o p r
  left_scaled r =
      same_value (o.x ∷ o.y ∷ p.x ∷ p.y ∷ q.x ∷ q.y ∷ r.x ∷ r.y ∷ []) (inner 1 1 ⊗ cross 0 2 3) (inner 1 2 ⊗ cross 0 1 3 ⊖ cross 0 1 2 ⊗ inner 1 3) refl
      ∙ ap (λ (z : ℤ). dot o p q *ℤ cross_of o p r -ℤ z *ℤ dot o p r) line
      ∙ same_value ((dot o p q *ℤ cross_of o p r) ∷ dot o p r ∷ []) (var 0 ⊖ number (pos 0) ⊗ var 1) (var 0) refl

  right_scaled : (r : Point) → dot o p p *ℤ cross_of o r q ≡ dot o p q *ℤ cross_of o r p
  right_scaled r =
      same_value (o.x ∷ o.y ∷ p.x ∷ p.y ∷ q.x ∷ q.y ∷ r.x ∷ r.y ∷ []) (inner 1 1 ⊗ cross 0 3 2) (inner 1 2 ⊗ cross 0 3 1 ⊕ cross 0 1 2 ⊗ inner 1 3) refl
      ∙ ap (λ (z : ℤ). dot o p q *ℤ cross_of o r p +ℤ z *ℤ dot o p r) line
      ∙ same_value ((dot o p q *ℤ cross_of o r p) ∷ dot o p r ∷ []) (var 0 ⊕ number (pos 0) ⊗ var 1) (var 0) refl

  pub parallel_alike : (r : Point) → ComeAlike o p q r
  unfolding turns_before
  parallel_alike r = (
    ap₂ (λ (n : ℕ) (b : Bool). nat_lt n (half_turn o r) || ((n == half_turn o r) && b)) (sym half)
        (same_sign (dot o p p) (dot o p q) (cross_of o q r) (cross_of o p r) (square_step o p np) (dot_positive o p q np nq half line) (left_scaled r)),
    ap₂ (λ (n : ℕ) (b : Bool). nat_lt (half_turn o r) n || ((half_turn o r == n) && b)) (sym half)
        (same_sign (dot o p p) (dot o p q) (cross_of o r q) (cross_of o r p) (square_step o p np) (dot_positive o p q np nq half line) (right_scaled r)),
  )
