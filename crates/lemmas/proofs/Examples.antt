-- Identities of cross products, each proved by its normal form, and small sortings.
use Rattle.std.proofs.Common.{◌≡◌, ℕ, nat_lt, nat_le, false, [], ◌∷◌, ℤ, pos, ◌+ℤ◌, ◌-ℤ◌, ◌*ℤ◌, neg_ℤ, ◌<ℤ◌, refl}
use Rattle.lemmas.proofs.Polynomials.{same_value, var, number, ◌⊕◌, ◌⊖◌, ◌⊗◌, minus, cross, shoelace}
use Rattle.lemmas.specs.Sorting.{sort_by, is_sorted_by}
use Rattle.lemmas.proofs.Signs.{positive_by}

-- the cross product of three points, by their coordinates
abbrev turn : ℤ → ℤ → ℤ → ℤ → ℤ → ℤ → ℤ
turn x0 y0 x1 y1 x2 y2 = (x1 -ℤ x0) *ℤ (y2 -ℤ y0) -ℤ (y1 -ℤ y0) *ℤ (x2 -ℤ x0)

-- the same three points from the second one on, and the other way round
from_second : (x0 y0 x1 y1 x2 y2 : ℤ) → turn x0 y0 x1 y1 x2 y2 ≡ turn x1 y1 x2 y2 x0 y0
from_second x0 y0 x1 y1 x2 y2 = same_value (x0 ∷ y0 ∷ x1 ∷ y1 ∷ x2 ∷ y2 ∷ []) (cross 0 1 2) (cross 1 2 0) refl

turned_round : (x0 y0 x1 y1 x2 y2 : ℤ) → turn x0 y0 x2 y2 x1 y1 ≡ neg_ℤ (turn x0 y0 x1 y1 x2 y2)
turned_round x0 y0 x1 y1 x2 y2 = same_value (x0 ∷ y0 ∷ x1 ∷ y1 ∷ x2 ∷ y2 ∷ []) (cross 0 2 1) (minus (cross 0 1 2)) refl

-- a quadrangle is two triangles, by either diagonal
two_triangles : (x0 y0 x1 y1 x2 y2 x3 y3 : ℤ) → turn x0 y0 x1 y1 x2 y2 +ℤ turn x0 y0 x2 y2 x3 y3 ≡ turn x0 y0 x1 y1 x3 y3 +ℤ turn x1 y1 x2 y2 x3 y3
two_triangles x0 y0 x1 y1 x2 y2 x3 y3 = same_value (x0 ∷ y0 ∷ x1 ∷ y1 ∷ x2 ∷ y2 ∷ x3 ∷ y3 ∷ []) (cross 0 1 2 ⊕ cross 0 2 3) (cross 0 1 3 ⊕ cross 1 2 3) refl

-- the three sides of a triangle, each by the shoelace formula, have twice its area
by_shoelace : (x0 y0 x1 y1 x2 y2 : ℤ) → (x0 *ℤ y1 -ℤ x1 *ℤ y0) +ℤ (x1 *ℤ y2 -ℤ x2 *ℤ y1) +ℤ (x2 *ℤ y0 -ℤ x0 *ℤ y2) ≡ turn x0 y0 x1 y1 x2 y2
by_shoelace x0 y0 x1 y1 x2 y2 = same_value (x0 ∷ y0 ∷ x1 ∷ y1 ∷ x2 ∷ y2 ∷ []) (shoelace 0 1 ⊕ shoelace 1 2 ⊕ shoelace 2 0) (cross 0 1 2) refl

-- degree 4: the relation of the cross products of five points
five_points : (x0 y0 x1 y1 x2 y2 x3 y3 x4 y4 : ℤ)
    → turn x0 y0 x1 y1 x2 y2 *ℤ turn x0 y0 x3 y3 x4 y4 -ℤ turn x0 y0 x1 y1 x3 y3 *ℤ turn x0 y0 x2 y2 x4 y4 +ℤ turn x0 y0 x1 y1 x4 y4 *ℤ turn x0 y0 x2 y2 x3 y3 ≡ pos 0
five_points x0 y0 x1 y1 x2 y2 x3 y3 x4 y4 = same_value (x0 ∷ y0 ∷ x1 ∷ y1 ∷ x2 ∷ y2 ∷ x3 ∷ y3 ∷ x4 ∷ y4 ∷ [])
    (cross 0 1 2 ⊗ cross 0 3 4 ⊖ cross 0 1 3 ⊗ cross 0 2 4 ⊕ cross 0 1 4 ⊗ cross 0 2 3) (number (pos 0)) refl

-- the point with the weights u and v between points 2 and 3 is left of the line from point 0 to point 1, where both are
left_between : (x0 y0 x1 y1 x2 y2 x3 y3 u v : ℤ) → pos 0 <ℤ u → pos 0 <ℤ v → pos 0 <ℤ turn x0 y0 x1 y1 x2 y2 → pos 0 <ℤ turn x0 y0 x1 y1 x3 y3
    → pos 0 <ℤ ((x1 -ℤ x0) *ℤ ((u *ℤ y2 +ℤ v *ℤ y3) -ℤ y0 *ℤ (u +ℤ v)) -ℤ (y1 -ℤ y0) *ℤ ((u *ℤ x2 +ℤ v *ℤ x3) -ℤ x0 *ℤ (u +ℤ v)))
left_between x0 y0 x1 y1 x2 y2 x3 y3 u v p q h k = positive_by p q one h k
    (same_value (x0 ∷ y0 ∷ x1 ∷ y1 ∷ x2 ∷ y2 ∷ x3 ∷ y3 ∷ u ∷ v ∷ []) (var 8 ⊗ cross 0 1 2 ⊕ var 9 ⊗ cross 0 1 3)
    (number (pos 1) ⊗ ((var 2 ⊖ var 0) ⊗ ((var 8 ⊗ var 5 ⊕ var 9 ⊗ var 7) ⊖ var 1 ⊗ (var 8 ⊕ var 9)) ⊖ (var 3 ⊖ var 1) ⊗ ((var 8 ⊗ var 4 ⊕ var 9 ⊗ var 6) ⊖ var 0 ⊗ (var 8 ⊕ var 9)))) refl)
  where
    one : pos 0 <ℤ pos 1
    one = record { lt = tt }

-- each number before the next greater one; equal members stay in the order in which they were
three_sorted : sort_by nat_lt (3 ∷ 1 ∷ 2 ∷ []) ≡ 1 ∷ 2 ∷ 3 ∷ []
three_sorted = refl

pairs_sorted : sort_by (λ (a b : ℕ × ℕ). nat_le a.0 b.0) ((2, 1) ∷ (1, 5) ∷ (2, 0) ∷ (1, 7) ∷ []) ≡ (1, 5) ∷ (1, 7) ∷ (2, 1) ∷ (2, 0) ∷ []
pairs_sorted = refl

not_sorted : is_sorted_by nat_lt (1 ∷ 2 ∷ 2 ∷ []) ≡ false
not_sorted = refl
