-- The least corner decides, and fits.
use Rattle.std.proofs.Common.{◌≡◌, ◌≤◌, ℕ, ℤ, pos, unsigned_abs, Bool, true, false, None, Some, List, All, if◌then◌else◌, FitsSigned, refl, sym, ap, ◌∙◌, subst, arith}
use Rattle.std.specs.Int.{w128}
use Rattle.std.proofs.lemmas.Int.{ints, to_z-of_z}
use Rattle.tgap_model.specs.declared.geometry.Point.{Point}
use Rattle.tgap_model.specs.Bounds.{max_cross}
use Rattle.point_rope.specs.Corners.{least_area}
use Rattle.point_rope.specs.Held.{IsNearPoint}
use Rattle.point_rope.proofs.SmallAreas.{least_small}
use Rattle.vertex_drop.specs.Corners.{small_area, is_triangle, least_corner}
use Rattle.vertex_drop.proofs.Least.{is_small_least, least_decides}
use Rattle.vertex_drop.proofs.Small.{wide_area}
use Rattle.vertex_drop_tests.proofs.keys.has_small_corner.Goals as goal

-- the least corner is that of the least area
corner_is_area : (points : List Point) (n : ℕ) → Some n ≡ least_corner points → least_area points ≡ Some n
unfolding least_corner
corner_is_area points n e = by (is_triangle points) e
  where
    by : (t : Bool) → Some n ≡ (if t then None else least_area points) → least_area points ≡ Some n
    by true h = absurd cc
    by false h = sym h

corner_small : (points : List Point) (n : ℕ) → All IsNearPoint points → Some n ≡ least_corner points → n ≤ max_cross
corner_small points n near e = least_small points n near (corner_is_area points n e)

area_fits : (n : ℕ) → n ≤ max_cross → FitsSigned w128 (pos n)
area_fits n le = omega (arith, ints)

pub overflow_cast-area : goal.overflow_cast-area
overflow_cast-area c = area_fits c.in-Some.area (corner_small c.args.row.now c.in-Some.area c.requires c.in-Some.ensures)

pub is_small_area-requires : goal.is_small_area-requires
is_small_area-requires c =
    let n = c.in-Some.area in
    let small = corner_small c.args.row.now n c.requires c.in-Some.ensures in
    subst (λ (z : ℤ). unsigned_abs z ≤ max_cross) (sym (wide_area (pos n) n refl small)) small

pub returns-in-Some : goal.returns-in-Some
returns-in-Some c =
    let ratio = c.args.ratio in
    let area = c.args.loser_area in
    let points = c.args.row.now in
    let n = c.in-Some.area in
    let small = corner_small points n c.requires c.in-Some.ensures in
    c.is_small_area.ensures n (wide_area (pos n) n refl small)
    ∙ ap (λ (z : ℤ). small_area ratio z n) (to_z-of_z w128 area c.ranges.loser_area)
    ∙ sym (least_decides ratio area points ∙ ap (is_small_least ratio area) (sym c.in-Some.ensures))

pub returns-in-None : goal.returns-in-None
returns-in-None c =
    let ratio = c.args.ratio in
    let area = c.args.loser_area in
    let points = c.args.row.now in
    sym (least_decides ratio area points ∙ ap (is_small_least ratio area) (sym c.in-None.ensures))
