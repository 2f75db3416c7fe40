use Rattle.std.proofs.Common.{◌∙◌, sym}
use Rattle.face_cuts.specs.PointSets.{has}
use Rattle.face_cuts.proofs.FreePoints.{free_is}
use Rattle.face_cuts.proofs.free.are_free.Goals as goal

pub returns : goal.returns
returns c =
    free_is c.args.arcs.now c.args.points.now c.inner_points.result.now (has c.in_ok-inner.inner) c.is_passed.result
    (sym c.in_ok-are_different.ensures ∙ c.if-not-branch.false) c.inner_points.ensures c.in_ok-inner.ensures c.is_passed.ensures
