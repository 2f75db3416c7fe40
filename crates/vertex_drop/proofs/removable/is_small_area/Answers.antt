use Rattle.std.proofs.Common.{ℤ, ap, ◌∙◌}
use Rattle.std.specs.Int.{w128}
use Rattle.std.proofs.lemmas.Int.{to_z-of_z}
use Rattle.vertex_drop.specs.Corners.{small_area}
use Rattle.vertex_drop.proofs.removable.is_small_area.Goals as goal

pub returns : goal.returns
returns c n e =
    c.may_go.ensures n (to_z-of_z w128 c.args.area c.ranges.area ∙ e)
    ∙ ap (λ (z : ℤ). small_area c.args.ratio z n) (to_z-of_z w128 c.args.loser_area c.ranges.loser_area)
