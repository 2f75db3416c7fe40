use Rattle.std.proofs.Common.{ℤ, pos, refl, sym, ap, ◌∙◌}
use Rattle.std.specs.Int.{w128}
use Rattle.std.proofs.lemmas.Int.{to_z-of_z}
use Rattle.vertex_drop.specs.Corners.{small_area}
use Rattle.vertex_drop.proofs.Least.{is_small_least, least_decides}
use Rattle.vertex_drop.proofs.Small.{wide_area}
use Rattle.vertex_drop.proofs.corners.has_small_corner.Goals as goal

pub returns-in-Some : goal.returns-in-Some
returns-in-Some c =
    let ratio = c.args.ratio in
    let area = c.args.loser_area in
    let points = c.args.points.now in
    let n = c.in-Some.area in
    let least = sym c.in-Some.ensures.exact in
    c.is_small_area.ensures n (wide_area (pos n) n refl (c.in-Some.ensures.small n least))
    ∙ ap (λ (z : ℤ). small_area ratio z n) (to_z-of_z w128 area c.ranges.loser_area)
    ∙ sym (least_decides ratio area points ∙ ap (is_small_least ratio area) least)

pub returns-in-None : goal.returns-in-None
returns-in-None c =
    let ratio = c.args.ratio in
    let area = c.args.loser_area in
    let points = c.args.points.now in
    sym (least_decides ratio area points ∙ ap (is_small_least ratio area) (sym c.in-None.ensures.exact))
