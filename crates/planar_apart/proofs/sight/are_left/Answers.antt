use Rattle.std.proofs.Common.{◌∙◌, ◌&&◌, Bool, true, ap, sym}
use Rattle.planar_apart.specs.Crossing.{is_left_at}
use Rattle.planar_apart.proofs.sight.are_left.Goals as goal

pub returns-then-is_left_at : goal.returns-then-is_left_at
returns-then-is_left_at c =
    c.is_left_at-then-is_left_at.ensures ∙ ap (λ (first : Bool). first && is_left_at c.args.a c.args.b c.args.area.now true) (sym c.if-is_left_at.true ∙ c.is_left_at.ensures)
