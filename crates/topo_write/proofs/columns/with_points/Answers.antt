use Rattle.std.proofs.Common.{get_or, All, subst, arith}
use Rattle.std.proofs.lemmas.List.{get_or_default, take_all}
use Rattle.std.proofs.lemmas.List.Elements.{All-nil}
use Rattle.ring_walk.specs.Sides.{origin}
use Rattle.topo_write.specs.Building.{HoldsPoint}
use Rattle.topo_write.proofs.Abscissas.{points_more, wider_on, wider_same}
use Rattle.topo_write.proofs.columns.with_points.Goals as goal

pub loop-point-init : goal.loop-point-init
loop-point-init c = record { wider = wider_same c.args.columns; points = All-nil (HoldsPoint c.args.columns) }

pub loop-point-preserved : goal.loop-point-preserved
loop-point-preserved c = record {
  wider = wider_on c.with_point-wider.result c.loop-point.wider c.args.columns c.with_point-wider.ensures.wider c.loop-point.invariant.wider;
  points = points_more c.with_point-wider.result c.loop-point.wider c.args.points.now c.loop-point.point-index (get_or c.args.points.now c.loop-point.point-index origin) c.loop-point-test.true
      (get_or_default c.args.points.now c.loop-point.point-index origin (get_or c.args.points.now c.loop-point.point-index origin) c.loop-point-test.true) c.with_point-wider.ensures.wider c.with_point-wider.ensures.point c.loop-point.invariant.points;
}

pub returns-clause-points : goal.returns-clause-points
returns-clause-points c = subst (All (HoldsPoint c.loop-point.wider)) (take_all c.loop-point.point-index c.args.points.now (omega arith)) c.loop-point.invariant.points
