use Rattle.std.proofs.Common.{◌≤◌, pos, length, refl, ap, ◌∙◌, arith, Option, ℕ}
use Rattle.tgap_model.specs.declared.geometry.Point.{Point}
use Rattle.point_rope.specs.Corners.{lesser}
use Rattle.point_rope.proofs.LeastAreas.{corners_known}
use Rattle.point_rope.proofs.corners.with_known.Goals as goal

pub returns-clause-corners : goal.returns-clause-corners
returns-clause-corners c before h =
    let points = c.args.points.now in
    let o : Point = record { x = pos 0; y = pos 0 } in
    let long : 2 ≤ length points = omega (arith, c.if-count-lt2.false) in
    corners_known before points c.with-begun.result _ o long c.requires.points (c.with-begun.ensures.corners _ (c.with.ensures.corners before h))
    (c.lesser.ensures ∙ ap (λ (m : Option ℕ). lesser c.with-begun.result.least m) c.requires.least) refl refl
