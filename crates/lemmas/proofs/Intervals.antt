-- Two intervals of the integers, each given by two numbers in any order, and what they have in common.
use Rattle.std.proofs.Common.{◌≡◌, ◌⊎◌, inl, inr, ℤ, pos, ◌-ℤ◌, ◌+ℤ◌, ◌*ℤ◌, ◌<ℤ◌, ◌≤ℤ◌, int_lt, Bool, true, false, cond, refl, ap, ◌∙◌, arith}
use Rattle.std.specs.Int.{int_min, int_max}
use Rattle.std.proofs.lemmas.Int.{ints, clamps}
use Rattle.std.specs.Cmp.{both_ways}
use Rattle.lemmas.proofs.Signs.{by_order, Decides-int_lt, mul_lt_left, lt_from_mul_left, mul_not_positive}
use Rattle.lemmas.proofs.Products.{not_positive_cases, mul_not_positive_left}

-- the first and the last number of both
abbrev pub common_low : ℤ → ℤ → ℤ → ℤ → ℤ
common_low a b c e = int_max (int_min c e) (int_min a b)

abbrev pub common_high : ℤ → ℤ → ℤ → ℤ → ℤ
common_high a b c e = int_min (int_max c e) (int_max a b)

-- a number is from one of two to the other where its differences from them have no common sign
pub from_least : (n u v : ℤ) → ((n -ℤ u) *ℤ (n -ℤ v)) ≤ℤ pos 0 → int_min u v ≤ℤ n
from_least n u v h = by (not_positive_cases (n -ℤ u) (n -ℤ v) h)
  where
    by : (((n -ℤ u) ≤ℤ pos 0) × (pos 0 ≤ℤ (n -ℤ v))) ⊎ ((pos 0 ≤ℤ (n -ℤ u)) × ((n -ℤ v) ≤ℤ pos 0)) → int_min u v ≤ℤ n
    by (inl k) = omega (arith, ints, clamps, k.0, k.1)
    by (inr k) = omega (arith, ints, clamps, k.0, k.1)

pub to_greatest : (n u v : ℤ) → ((n -ℤ u) *ℤ (n -ℤ v)) ≤ℤ pos 0 → n ≤ℤ int_max u v
to_greatest n u v h = by (not_positive_cases (n -ℤ u) (n -ℤ v) h)
  where
    by : (((n -ℤ u) ≤ℤ pos 0) × (pos 0 ≤ℤ (n -ℤ v))) ⊎ ((pos 0 ≤ℤ (n -ℤ u)) × ((n -ℤ v) ≤ℤ pos 0)) → n ≤ℤ int_max u v
    by (inl k) = omega (arith, ints, clamps, k.0, k.1)
    by (inr k) = omega (arith, ints, clamps, k.0, k.1)

-- and the differences have no common sign where it is between
pub no_common_sign : (n u v : ℤ) → int_min u v ≤ℤ n → n ≤ℤ int_max u v → ((n -ℤ u) *ℤ (n -ℤ v)) ≤ℤ pos 0
no_common_sign n u v h k = by_order u v
    (λ l. mul_not_positive (low l) (high l))
    (λ e. mul_not_positive (same_low e) (same_high e))
    (λ l. mul_not_positive_left (back_high l) (back_low l))
  where
    low : u <ℤ v → pos 0 ≤ℤ (n -ℤ u)
    low l = omega (arith, ints, clamps)

    high : u <ℤ v → (n -ℤ v) ≤ℤ pos 0
    high l = omega (arith, ints, clamps)

    same_low : u ≡ v → pos 0 ≤ℤ (n -ℤ u)
    same_low e = omega (arith, ints, clamps)

    same_high : u ≡ v → (n -ℤ v) ≤ℤ pos 0
    same_high e = omega (arith, ints, clamps)

    back_high : v <ℤ u → (n -ℤ u) ≤ℤ pos 0
    back_high l = omega (arith, ints, clamps)

    back_low : v <ℤ u → pos 0 ≤ℤ (n -ℤ v)
    back_low l = omega (arith, ints, clamps)

-- a number in both is in the common part
pub in_common_low : (n a b c e : ℤ) → int_min a b ≤ℤ n → int_min c e ≤ℤ n → common_low a b c e ≤ℤ n
in_common_low n a b c e h k = omega (arith, ints, clamps)

pub in_common_high : (n a b c e : ℤ) → n ≤ℤ int_max a b → n ≤ℤ int_max c e → n ≤ℤ common_high a b c e
in_common_high n a b c e h k = omega (arith, ints, clamps)

-- the middle of the common part, over 2, is in the first and in the second
module _ (a b c e : ℤ) (h : common_low a b c e ≤ℤ common_high a b c e) where
  pub middle_in_first : ((common_low a b c e +ℤ common_high a b c e -ℤ pos 2 *ℤ a) *ℤ (common_low a b c e +ℤ common_high a b c e -ℤ pos 2 *ℤ b)) ≤ℤ pos 0
  middle_in_first = no_common_sign (common_low a b c e +ℤ common_high a b c e) (pos 2 *ℤ a) (pos 2 *ℤ b) (omega (arith, ints, clamps)) (omega (arith, ints, clamps))

  pub middle_in_second : ((common_low a b c e +ℤ common_high a b c e -ℤ pos 2 *ℤ c) *ℤ (common_low a b c e +ℤ common_high a b c e -ℤ pos 2 *ℤ e)) ≤ℤ pos 0
  middle_in_second = no_common_sign (common_low a b c e +ℤ common_high a b c e) (pos 2 *ℤ c) (pos 2 *ℤ e) (omega (arith, ints, clamps)) (omega (arith, ints, clamps))

  -- where the middle is an end of the first, the common part is that end alone: its first end, or its second
  pub lone_first : common_low a b c e +ℤ common_high a b c e ≡ pos 2 *ℤ a → (common_low a b c e ≡ a) × (common_high a b c e ≡ a)
  lone_first m = (omega (arith, ints, clamps), omega (arith, ints, clamps))

  pub lone_second : common_low a b c e +ℤ common_high a b c e ≡ pos 2 *ℤ b → (common_low a b c e ≡ b) × (common_high a b c e ≡ b)
  lone_second m = (omega (arith, ints, clamps), omega (arith, ints, clamps))

-- ---- a positive factor keeps the common part

module _ (d : ℤ) (positive : pos 0 <ℤ d) where
  -- a positive factor keeps the test
  scaled_test : (u v : ℤ) → int_lt u v ≡ int_lt (d *ℤ u) (d *ℤ v)
  scaled_test u v = both_ways (int_lt u v) (int_lt (d *ℤ u) (d *ℤ v))
      (λ e. (Decides-int_lt (d *ℤ u) (d *ℤ v)).1 (mul_lt_left positive ((Decides-int_lt u v).0 e)))
      (λ e. (Decides-int_lt u v).1 (lt_from_mul_left d positive ((Decides-int_lt (d *ℤ u) (d *ℤ v)).0 e)))

  -- and goes to both values of a choice
  scaled_choice : (b : Bool) (u v : ℤ) → d *ℤ cond b u v ≡ cond b (d *ℤ u) (d *ℤ v)
  scaled_choice true u v = refl
  scaled_choice false u v = refl

  -- so to a least and to a greatest number
  scaled_min : (u v : ℤ) → d *ℤ int_min u v ≡ int_min (d *ℤ u) (d *ℤ v)
  scaled_min u v = scaled_choice (int_lt v u) v u ∙ ap (λ (b : Bool). cond b (d *ℤ v) (d *ℤ u)) (scaled_test v u)

  scaled_max : (u v : ℤ) → d *ℤ int_max u v ≡ int_max (d *ℤ u) (d *ℤ v)
  scaled_max u v = scaled_choice (int_lt v u) u v ∙ ap (λ (b : Bool). cond b (d *ℤ u) (d *ℤ v)) (scaled_test v u)

  -- and to the first and the last number of both
  pub scaled_low : (a b c e : ℤ) → d *ℤ common_low a b c e ≡ common_low (d *ℤ a) (d *ℤ b) (d *ℤ c) (d *ℤ e)
  scaled_low a b c e = scaled_max (int_min c e) (int_min a b) ∙ ap (λ (z : ℤ). int_max z (d *ℤ int_min a b)) (scaled_min c e) ∙ ap (λ (z : ℤ). int_max (int_min (d *ℤ c) (d *ℤ e)) z) (scaled_min a b)

  pub scaled_high : (a b c e : ℤ) → d *ℤ common_high a b c e ≡ common_high (d *ℤ a) (d *ℤ b) (d *ℤ c) (d *ℤ e)
  scaled_high a b c e = scaled_min (int_max c e) (int_max a b) ∙ ap (λ (z : ℤ). int_min z (d *ℤ int_max a b)) (scaled_max c e) ∙ ap (λ (z : ℤ). int_min (int_max (d *ℤ c) (d *ℤ e)) z) (scaled_max a b)
