-- Products that are not positive, and numbers in proportion.
use Rattle.std.proofs.Common.{◌≡◌, ◌≢◌, ◌⊎◌, inl, inr, [], ◌∷◌, ℤ, pos, ◌*ℤ◌, ◌≤ℤ◌, refl, sym, ap, ◌∙◌, subst}
use Rattle.std.specs.Int.Signed.{clash_ℤ}
use Rattle.std.proofs.Math.IntN.{*ℤ_comm}
use Rattle.lemmas.proofs.Polynomials.{same_value, var, number, ◌⊗◌}
use Rattle.lemmas.proofs.Signs.{by_sign, le_from_lt, le_from_same, mul_negatives, mul_positive, mul_not_positive, square_not_negative, square_positive, mul_zero_cases, not_positive_from_mul}

-- the signs of two factors whose product is not positive
pub not_positive_cases : (a b : ℤ) → (a *ℤ b) ≤ℤ pos 0 → ((a ≤ℤ pos 0) × (pos 0 ≤ℤ b)) ⊎ ((pos 0 ≤ℤ a) × (b ≤ℤ pos 0))
not_positive_cases a b h = by_sign a
    (λ k. by_sign b (λ l. clash_ℤ (mul_negatives k l) h) (λ e. inl (le_from_lt k, le_from_same (sym e))) (λ l. inl (le_from_lt k, le_from_lt l)))
    (λ e. by_sign b (λ l. inr (le_from_same (sym e), le_from_lt l)) (λ f. inl (le_from_same e, le_from_same (sym f))) (λ l. inl (le_from_same e, le_from_lt l)))
    (λ k. by_sign b (λ l. inr (le_from_lt k, le_from_lt l)) (λ e. inr (le_from_lt k, le_from_same e)) (λ l. clash_ℤ (mul_positive k l) h))

-- a product of a number below 0 and one above
pub mul_not_positive_left : {a b : ℤ} → a ≤ℤ pos 0 → pos 0 ≤ℤ b → (a *ℤ b) ≤ℤ pos 0
mul_not_positive_left {a} {b} h k = subst (λ (z : ℤ). z ≤ℤ pos 0) (*ℤ_comm b a) (mul_not_positive k h)

-- a number whose square is not positive is 0
pub zero_from_square : (a : ℤ) → (a *ℤ a) ≤ℤ pos 0 → a ≡ pos 0
zero_from_square a h = by_sign a (λ k. clash_ℤ (mul_negatives k k) h) (λ e. e) (λ k. clash_ℤ (mul_positive k k) h)

-- a factor of 0 that is not 0 leaves the other one
pub zero_from_mul_left : {a : ℤ} (r : ℤ) → r ≢ pos 0 → r *ℤ a ≡ pos 0 → a ≡ pos 0
zero_from_mul_left {a} r n e = elim (mul_zero_cases r a e) [ inl f ↦ absurd (n f) | inr f ↦ f ]

-- y is q / r times x
module _ (r q : ℤ) (n : r ≢ pos 0) where
  -- 0 stays 0
  pub proportional_zero : (x y : ℤ) → r *ℤ y ≡ q *ℤ x → x ≡ pos 0 → y ≡ pos 0
  proportional_zero x y e z = zero_from_mul_left r n (e ∙ ap (λ (w : ℤ). q *ℤ w) z ∙ same_value (q ∷ []) (var 0 ⊗ number (pos 0)) (number (pos 0)) refl)

  -- two numbers of no common sign give two numbers of no common sign
  pub proportional_between : (x y v w : ℤ) → r *ℤ y ≡ q *ℤ x → r *ℤ w ≡ q *ℤ v → (x *ℤ v) ≤ℤ pos 0 → (y *ℤ w) ≤ℤ pos 0
  proportional_between x y v w e f h =
      not_positive_from_mul (r *ℤ r) (y *ℤ w) (square_positive r n) (subst (λ (z : ℤ). z ≤ℤ pos 0) (sym squares) (mul_not_positive (square_not_negative q) h))
    where
      squares : (r *ℤ r) *ℤ (y *ℤ w) ≡ (q *ℤ q) *ℤ (x *ℤ v)
      squares =
          same_value (r ∷ y ∷ w ∷ []) ((var 0 ⊗ var 0) ⊗ (var 1 ⊗ var 2)) ((var 0 ⊗ var 1) ⊗ (var 0 ⊗ var 2)) refl
          ∙ ap (λ (z : ℤ). z *ℤ (r *ℤ w)) e ∙ ap (λ (z : ℤ). (q *ℤ x) *ℤ z) f
          ∙ same_value (q ∷ x ∷ v ∷ []) ((var 0 ⊗ var 1) ⊗ (var 0 ⊗ var 2)) ((var 0 ⊗ var 0) ⊗ (var 1 ⊗ var 2)) refl
