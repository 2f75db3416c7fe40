use Rattle.std.proofs.Common.{◌≡◌, ◌<◌, ◌∙◌, length, to_z, of_z, sym, ap, arith}
use Rattle.std.specs.Int.{w64}
use Rattle.std.proofs.lemmas.Int.{ints}
use Rattle.ring_walk.specs.Areas.{points_by, segments_of}
use Rattle.ring_probe.proofs.Probes.{leaning_here, leaning_later, leaning_none, length-segments, near_ends}
use Rattle.ring_probe.proofs.probe.leaning_of.Goals as goal

pub returns-then-segment-clause-value : goal.returns-then-segment-clause-value
returns-then-segment-clause-value c =
    let segments = segments_of (points_by c.args.way c.args.points.now) in
    let s = c.segment_at-segment.result in
    let inside : c.loop-place.place < length segments = omega (arith, c.loop-place-test.true, length-segments c.args.way c.args.points.now) in
    sym (leaning_here segments c.loop-place.place s inside (c.segment_at-segment.ensures s) (λ e. c.if-segment.true (ap (of_z w64) e))) ∙ c.loop-place.invariant

pub returns-then-segment-clause-leaning : goal.returns-then-segment-clause-leaning
returns-then-segment-clause-leaning c = record {
  near = near_ends c.args.way c.args.points.now c.loop-place.place c.segment_at-segment.result c.requires.near c.loop-place-test.true (c.segment_at-segment.ensures c.segment_at-segment.result);
  leaning = λ e. c.if-segment.true (ap (of_z w64) e);
}

pub loop-place-preserved : goal.loop-place-preserved
loop-place-preserved c =
    let segments = segments_of (points_by c.args.way c.args.points.now) in
    let s = c.segment_at-segment.result in
    let inside : c.loop-place.place < length segments = omega (arith, c.loop-place-test.true, length-segments c.args.way c.args.points.now) in
    let near = near_ends c.args.way c.args.points.now c.loop-place.place s c.requires.near c.loop-place-test.true (c.segment_at-segment.ensures s) in
    let ea : to_z w64 (of_z w64 s.a.x) ≡ s.a.x = omega (arith, ints, near.a.x) in
    let eb : to_z w64 (of_z w64 s.b.x) ≡ s.b.x = omega (arith, ints, near.b.x) in
    leaning_later segments c.loop-place.place s inside (c.segment_at-segment.ensures s) (sym ea ∙ ap (to_z w64) c.if-segment.false ∙ eb) ∙ c.loop-place.invariant

pub returns-clause-value : goal.returns-clause-value
returns-clause-value c =
    let segments = segments_of (points_by c.args.way c.args.points.now) in
    sym (leaning_none segments c.loop-place.place (omega (arith, c.loop-place-test.false, length-segments c.args.way c.args.points.now))) ∙ c.loop-place.invariant
