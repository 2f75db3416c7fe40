use Rattle.std.proofs.Common.{◌≡◌, to_z, of_z, arith}
use Rattle.std.specs.Int.{w128}
use Rattle.std.proofs.lemmas.Int.{ints}
use Rattle.ring_sides.proofs.RawArcs.{near_points, sums_more}
use Rattle.ring_sides.proofs.measure.shoelace_sums.Goals as goal

pub shoelace-requires-clause-near : goal.shoelace-requires-clause-near
shoelace-requires-clause-near c =
    near_points c.args.arcs.now c.loop-arc.arc-index c.arc-item.result c.as_slice.result.now c.requires c.loop-arc-test.true c.arc-item.is c.as_slice.ensures

pub loop-arc-preserved : goal.loop-arc-preserved
loop-arc-preserved c =
    let z = c.shoelace.result in
    let same : to_z w128 (of_z w128 z) ≡ z = omega (arith, ints) in
    let more = sums_more c.args.arcs.now c.loop-arc.arc-index c.arc-item.result c.as_slice.result.now c.loop-arc.sums.items z _
    c.loop-arc-test.true c.arc-item.is c.as_slice.ensures c.loop-arc.invariant c.shoelace.ensures same in
    rw c.in_ok-push.ensures.items more
