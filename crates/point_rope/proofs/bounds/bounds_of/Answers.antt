use Rattle.std.proofs.Common.{All, subst, List}
use Rattle.std.proofs.lemmas.List.{take_all}
use Rattle.std.proofs.lemmas.List.Elements.{All-more}
use Rattle.tgap_model.specs.declared.geometry.Point.{Point}
use Rattle.point_rope.specs.Held.{IsHeld}
use Rattle.point_rope.proofs.bounds.bounds_of.Goals as goal

pub loop-point-preserved : goal.loop-point-preserved
loop-point-preserved c =
    All-more (IsHeld c.extended-bounds.result) c.args.points.now c.loop-point.point-index _ c.loop-point-test.true
    (λ k d h. c.extended-bounds.ensures.others _ (c.loop-point.invariant k d h)) c.extended-bounds.ensures.point

pub returns : goal.returns
returns c =
    subst (λ (points : List Point). All (IsHeld c.loop-point.bounds) points)
    (take_all c.loop-point.point-index c.args.points.now c.loop-point-test.false) c.loop-point.invariant
