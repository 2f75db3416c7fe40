-- Where the arc of a place ends is compared with where the next one starts.
use Rattle.std.proofs.Common.{◌≡◌, to_z, of_z, arith, slice_index_or, pos}
use Rattle.std.specs.Int.{w64}
use Rattle.std.proofs.lemmas.Int.{ints}
use Rattle.ring_sides.proofs.RawArcs.{ring_few}
use Rattle.ring_sides.proofs.RingLoops.{after_names, turn_from, open_stop, open_next}
use Rattle.ring_sides.proofs.arcs.Arcs.open_place.Goals as goal

pub start-requires : goal.start-requires
start-requires c =
    let j = c.index_after.result in
    let same : to_z w64 (of_z w64 j) ≡ j = omega (arith, ints) in
    rw (same, c.index_after.ensures) (after_names _ c.args.ring.now c.loop-place.place c.requires c.loop-place-test.true)

pub returns-then-ne : goal.returns-then-ne
returns-then-ne c =
    let arcs = c.args.self.now in
    let ring = c.args.ring.now in
    let k = c.loop-place.place in
    let here : to_z w64 (of_z w64 (slice_index_or ring k (pos 0))) ≡ slice_index_or ring k (pos 0) = omega (arith, ints) in
    let there : to_z w64 (of_z w64 c.index_after.result) ≡ c.index_after.result = omega (arith, ints) in
    let turn = turn_from arcs ring k _ _ c.index_after.result c.end.result c.start.result c.ne.result c.loop-place-test.true (ring_few _ ring c.requires)
    c.end.ensures here c.start.ensures there c.index_after.ensures c.ne.ensures in
    open_stop arcs ring k c.ne.result _ turn c.loop-place.invariant c.if-ne.true

pub loop-place-preserved : goal.loop-place-preserved
loop-place-preserved c =
    let arcs = c.args.self.now in
    let ring = c.args.ring.now in
    let k = c.loop-place.place in
    let here : to_z w64 (of_z w64 (slice_index_or ring k (pos 0))) ≡ slice_index_or ring k (pos 0) = omega (arith, ints) in
    let there : to_z w64 (of_z w64 c.index_after.result) ≡ c.index_after.result = omega (arith, ints) in
    let turn = turn_from arcs ring k _ _ c.index_after.result c.end.result c.start.result c.ne.result c.loop-place-test.true (ring_few _ ring c.requires)
    c.end.ensures here c.start.ensures there c.index_after.ensures c.ne.ensures in
    open_next arcs ring k c.ne.result _ turn c.loop-place.invariant c.if-ne.false
