use Rattle.std.proofs.Common.{◌∙◌, ◌&&◌, Bool, true, ap, pos, sym}
use Rattle.std.specs.Ordering.{int_eq}
use Rattle.tgap_model.specs.declared.geometry.Point.{Point}
use Rattle.tgap_model.specs.Point.{side}
use Rattle.planar_apart.specs.Crossing.{corner}
use Rattle.planar_apart.proofs.sight.is_left_at.Goals as goal

pub returns-then-is_left : goal.returns-then-is_left
returns-then-is_left c =
    let is = λ (p : Point). int_eq (side c.args.a c.args.b p) (pos 1) in
    c.is_left-then-is_left.ensures ∙ ap is c.corner-then-is_left.ensures.point
    ∙ ap (λ (first : Bool). first && is (corner c.args.area.now true c.args.top)) (sym c.if-is_left.true ∙ c.is_left.ensures ∙ ap is c.corner.ensures.point)
