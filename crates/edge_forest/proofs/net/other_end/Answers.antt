use Rattle.edge_forest.proofs.Nets.{besides_more, besides_all}
use Rattle.edge_forest.proofs.net.other_end.Goals as goal

pub loop-place-preserved : goal.loop-place-preserved
loop-place-preserved c =
    besides_more c.args.ends.now c.args.places.now c.args.besides c.loop-place.place-index _ c.loop-place-test.true c.loop-place.invariant
    (c.another.ensures.none c.in_default.is)

pub returns : goal.returns
returns c = besides_all c.args.ends.now c.args.places.now c.args.besides c.loop-place.place-index c.loop-place-test.false c.loop-place.invariant
