-- The area of a triangle within the limits fits.
use Rattle.std.proofs.Common.{◌≡◌, ◌≤◌, ◌*◌, ℕ, true, ℤ, ◌-ℤ◌, ◌*ℤ◌, unsigned_abs, Option, None, Some, List, [], ◌∷◌, All, arith}
use Rattle.std.proofs.lemmas.Int.{ints}
use Rattle.tgap_model.specs.declared.geometry.Point.{Point}
use Rattle.tgap_model.specs.Base.{in_limits}
use Rattle.tgap_model.specs.Bounds.{max_coordinate, max_difference, max_cross}
use Rattle.tgap_model.specs.Point.{area2}
use Rattle.tgap_model.proofs.Points.{near_point}
use Rattle.grid_geo.proofs.Sizes.{unsigned_abs-mul_le}
use Rattle.point_rope.specs.Corners.{less_of, least_area}
use Rattle.point_rope.specs.Held.{IsNearPoint}

-- the difference of two coordinates
difference_small : (a b : ℤ) → unsigned_abs a ≤ max_coordinate → unsigned_abs b ≤ max_coordinate → unsigned_abs (b -ℤ a) ≤ max_difference
difference_small a b h k = omega (arith, ints)

-- the difference of two numbers
apart : (p q : ℤ) (n : ℕ) → unsigned_abs p ≤ n → unsigned_abs q ≤ n → unsigned_abs (p -ℤ q) ≤ 2 * n
apart p q n h k = omega (arith, ints)

pub area_small : (a b c : Point) → in_limits a ≡ true → in_limits b ≡ true → in_limits c ≡ true → area2 a b c ≤ max_cross
area_small a b c ha hb hc =
    let na = near_point a ha in
    let nb = near_point b hb in
    let nc = near_point c hc in
    apart ((b.x -ℤ a.x) *ℤ (c.y -ℤ a.y)) ((b.y -ℤ a.y) *ℤ (c.x -ℤ a.x)) (max_difference * max_difference)
    (unsigned_abs-mul_le (b.x -ℤ a.x) (c.y -ℤ a.y) max_difference max_difference (difference_small a.x b.x na.x nb.x) (difference_small a.y c.y na.y nc.y))
    (unsigned_abs-mul_le (b.y -ℤ a.y) (c.x -ℤ a.x) max_difference max_difference (difference_small a.y b.y na.y nb.y) (difference_small a.x c.x na.x nc.x))

pub less_is_less : (n : ℕ) (o : Option ℕ) → less_of n o ≤ n
less_is_less n None = omega arith
less_is_less n (Some m) = omega arith

pub some_same : {x y : ℕ} → Some x ≡ Some y → x ≡ y
some_same e = cc

-- so does that of the least one of a row
pub least_small : (points : List Point) (n : ℕ) → All IsNearPoint points → least_area points ≡ Some n → n ≤ max_cross
least_small [] n near e = let clash : None ≡ Some n = e in absurd cc
least_small (a ∷ []) n near e = let clash : None ≡ Some n = e in absurd cc
least_small (a ∷ b ∷ []) n near e = let clash : None ≡ Some n = e in absurd cc
least_small (a ∷ b ∷ c ∷ points) n near e =
    let small = area_small a b c (near 0 a (omega arith)) (near 1 a (omega arith)) (near 2 a (omega arith)) in
    let is : less_of (area2 a b c) (least_area (b ∷ c ∷ points)) ≡ n = some_same e in
    omega (arith, small, is, less_is_less (area2 a b c) (least_area (b ∷ c ∷ points)))
