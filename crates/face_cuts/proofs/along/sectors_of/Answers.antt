use Rattle.std.proofs.Common.{sym, subst}
use Rattle.tgap_model.specs.declared.geometry.Point.{Point}
use Rattle.face_cuts.specs.Spokes.{IsDirection}
use Rattle.face_cuts.proofs.NewLines.{last_direction}
use Rattle.face_cuts.proofs.along.sectors_of.Goals as goal

pub sector_of_face-requires-2-clause-direction : goal.sector_of_face-requires-2-clause-direction
sector_of_face-requires-2-clause-direction g c =
    subst (λ (p : Point). IsDirection p c.point_at-before.result) (sym c.last_point-last.ensures)
    (subst (IsDirection _) (sym c.point_at-before.ensures) (last_direction c.args.points.now c.requires.line))
