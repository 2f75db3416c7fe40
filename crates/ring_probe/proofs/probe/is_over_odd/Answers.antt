use Rattle.std.proofs.Common.{◌<◌, ◌∙◌, length, arith}
use Rattle.ring_walk.specs.Areas.{is_over, points_by, segments_of}
use Rattle.ring_probe.proofs.Probes.{all_taken, length-segments, near_ends, odd_more}
use Rattle.ring_probe.proofs.probe.is_over_odd.Goals as goal

pub is_over-over-requires-clause-near : goal.is_over-over-requires-clause-near
is_over-over-requires-clause-near c = near_ends c.args.way c.args.points.now c.loop-place.place c.segment_at.result c.requires.line.near c.loop-place-test.true (c.segment_at.ensures c.segment_at.result)

pub loop-place-preserved : goal.loop-place-preserved
loop-place-preserved c =
    let segments = segments_of (points_by c.args.way c.args.points.now) in
    let inside : c.loop-place.place < length segments = omega (arith, c.loop-place-test.true, length-segments c.args.way c.args.points.now) in
    c.either_alone-odd.ensures
    ∙ odd_more (is_over c.args.probe) segments c.loop-place.place c.segment_at.result c.is_over-over.result c.loop-place.odd inside (c.segment_at.ensures c.segment_at.result) c.is_over-over.ensures c.loop-place.invariant

pub returns : goal.returns
returns c = c.loop-place.invariant ∙ all_taken c.args.probe c.args.way c.args.points.now c.loop-place.place c.loop-place-test.false
