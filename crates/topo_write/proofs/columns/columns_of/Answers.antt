use Rattle.std.proofs.Common.{List, get_or, All, ◌∙◌, subst, arith}
use Rattle.std.proofs.lemmas.List.{get_or_default, take_all}
use Rattle.ring_walk.specs.declared.side.Side.{Side}
use Rattle.ring_walk.specs.declared.side.Way.TheVariants.{Along}
use Rattle.topo_write.specs.Polygons.{lines_of}
use Rattle.topo_write.specs.Building.{HoldsPoint, HoldsRing}
use Rattle.topo_write.proofs.Abscissas.{sides_more}
use Rattle.topo_write.proofs.columns.columns_of.Goals as goal

abbrev none : Side
none = record { span = 0; way = Along }

pub loop-side-preserved : goal.loop-side-preserved
loop-side-preserved c =
    let lines = lines_of c.args.edges.now in
    let box = c.with_points-columns.result in
    let held = c.with_points-columns.ensures in
    let s = get_or c.args.ring.now c.loop-side.side-index none in
    record {
      points = sides_more box c.loop-side.columns lines c.args.ring.now c.loop-side.side-index s c.loop-side-test.true (get_or_default c.args.ring.now c.loop-side.side-index none s c.loop-side-test.true) held.wider
          (subst (All (HoldsPoint box)) c.points_at.ensures.value held.points) c.loop-side.invariant.points;
      low = held.wider.low ∙ c.loop-side.invariant.low;
      high = held.wider.high ∙ c.loop-side.invariant.high;
    }

pub returns : goal.returns
returns c = subst (λ (r : List Side). HoldsRing (lines_of c.args.edges.now) r c.loop-side.columns) (take_all c.loop-side.side-index c.args.ring.now (omega arith)) c.loop-side.invariant
