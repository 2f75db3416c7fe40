-- The least corner of a row of points decides whether it has a small one.
use Rattle.std.proofs.Common.{◌≡◌, ◌⊎◌, inl, inr, ℕ, ◌*◌, ◌≤◌, ◌<◌, ◌==◌, ◌||◌, ◌&&◌, not, if◌then◌else◌, ℤ, pos, ◌≤ℤ◌, int_le, min, Bool, true, false, Option, None, Some, List, [], ◌∷◌, refl, sym, ap, ◌∙◌, true≢false, arith}
use Rattle.std.proofs.Math.Bool.{or-false}
use Rattle.std.proofs.Math.Nat.{mul-le-mul_left}
use Rattle.std.proofs.lemmas.Int.{ints}
use Rattle.std.proofs.lemmas.Bool.{or_left, or_right, or_cases, eq-eqb, eqb-true, cases_lt}
use Rattle.lemmas.proofs.Signs.{Decides-int_le, le_le_trans}
use Rattle.tgap_model.specs.declared.geometry.Point.{Point}
use Rattle.tgap_model.specs.Point.{area2}
use Rattle.point_rope.specs.Corners.{less_of, least_area}
use Rattle.vertex_drop.specs.Corners.{small_area, any_small_corner, has_small_corner, is_triangle, least_corner}

-- ---- the rule

module _ (ratio : ℕ) (area : ℤ) where
  -- what is less than a small area is small
  pub small_below : (m n : ℕ) → small_area ratio area n ≡ true → m ≤ n → small_area ratio area m ≡ true
  small_below m n h le = elim (or_cases (n == 0) (int_le (pos (ratio * n)) area) h) [
    | inl e ↦ or_left (m == 0) (int_le (pos (ratio * m)) area) (none (eqb-true n 0 e))
    | inr e ↦ or_right (m == 0) (int_le (pos (ratio * m)) area)
        ((Decides-int_le (pos (ratio * m)) area).1 (le_le_trans (less (mul-le-mul_left ratio le)) ((Decides-int_le (pos (ratio * n)) area).0 e)))
  ]
    where
      none : n ≡ 0 → (m == 0) ≡ true
      none e = eq-eqb m 0 (omega (arith, le, e))

      less : {k l : ℕ} → k ≤ l → pos k ≤ℤ pos l
      less {k} {l} g = omega (arith, ints, g)

  -- the lesser of two areas is small where one of them is
  one_is_small : (m n : ℕ) → small_area ratio area (min m n) ≡ (small_area ratio area m || small_area ratio area n)
  one_is_small m n = by (cases_lt m n)
    where
      first : m ≤ n → (b c : Bool) → small_area ratio area m ≡ b → small_area ratio area n ≡ c → b ≡ (b || c)
      first le true c e f = refl
      first le false true e f = absurd (true≢false (sym (small_below m n f le) ∙ e))
      first le false false e f = refl

      second : n ≤ m → (b c : Bool) → small_area ratio area m ≡ b → small_area ratio area n ≡ c → c ≡ (b || c)
      second le true true e f = refl
      second le true false e f = absurd (true≢false (sym (small_below n m e le) ∙ f))
      second le false c e f = refl

      by : (m < n) ⊎ (n ≤ m) → small_area ratio area (min m n) ≡ (small_area ratio area m || small_area ratio area n)
      by (inl lt) = let e : min m n ≡ m = omega (arith, lt) in ap (small_area ratio area) e ∙ first (omega (arith, lt)) (small_area ratio area m) (small_area ratio area n) refl refl
      by (inr le) = let e : min m n ≡ n = omega (arith, le) in ap (small_area ratio area) e ∙ second le (small_area ratio area m) (small_area ratio area n) refl refl

  -- there is such an area, and it is small
  abbrev pub is_small_least : Option ℕ → Bool
  is_small_least None = false
  is_small_least (Some n) = small_area ratio area n

  less_is_small : (n : ℕ) (o : Option ℕ) → small_area ratio area (less_of n o) ≡ (small_area ratio area n || is_small_least o)
  less_is_small n None = sym (or-false (small_area ratio area n))
  less_is_small n (Some m) = one_is_small n m

  -- ---- a row of points

  -- three points in a row have a small triangle exactly where the least one is small
  pub area_decides : (points : List Point) → any_small_corner ratio area points ≡ is_small_least (least_area points)
  area_decides [] = refl
  area_decides (a ∷ []) = refl
  area_decides (a ∷ b ∷ []) = refl
  area_decides (a ∷ b ∷ c ∷ points) =
      ap (λ (t : Bool). small_area ratio area (area2 a b c) || t) (area_decides (b ∷ c ∷ points))
      ∙ sym (less_is_small (area2 a b c) (least_area (b ∷ c ∷ points)))

  -- a row has a small corner exactly where its least one is small
  pub least_decides : (points : List Point) → has_small_corner ratio area points ≡ is_small_least (least_corner points)
  unfolding has_small_corner least_corner
  least_decides points = by (is_triangle points)
    where
      by : (t : Bool) → (not t && any_small_corner ratio area points) ≡ is_small_least (if t then None else least_area points)
      by true = refl
      by false = area_decides points

  pub small_from_least : (points : List Point) (n : ℕ) → least_corner points ≡ Some n → small_area ratio area n ≡ true → has_small_corner ratio area points ≡ true
  small_from_least points n e h = least_decides points ∙ ap is_small_least e ∙ h

  pub least_from_small : (points : List Point) → has_small_corner ratio area points ≡ true → (n : ℕ) × (least_corner points ≡ Some n) × (small_area ratio area n ≡ true)
  least_from_small points h = by (least_corner points) refl (sym (least_decides points) ∙ h)
    where
      by : (o : Option ℕ) → least_corner points ≡ o → is_small_least o ≡ true → (n : ℕ) × (least_corner points ≡ Some n) × (small_area ratio area n ≡ true)
      by None e f = absurd (true≢false (sym f))
      by (Some n) e f = (n, e, f)
