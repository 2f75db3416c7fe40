-- Each index takes a side of its arc, and the first one that cannot is the fault of the ring.
use Rattle.std.proofs.Common.{◌≡◌, ◌∙◌, sym, ap, to_z, of_z, arith, rules, slice_index_or, pos}
use Rattle.std.specs.Int.{w64}
use Rattle.std.proofs.lemmas.Int.{ints}
use Rattle.std.proofs.lemmas.Result.{err_from_is_err_and}
use Rattle.topology_forms.specs.Rings.{index_taken}
use Rattle.ring_sides.specs.Taking.{is_exterior, is_left}
use Rattle.ring_sides.proofs.RawArcs.{ring_names}
use Rattle.ring_sides.proofs.Steps.{fold_next, fold_stop, fold_done, ring_from}
use Rattle.ring_sides.proofs.taken.Taken.take_ring.Goals as goal

pub take_index-requires-clause-named : goal.take_index-requires-clause-named
take_index-requires-clause-named c =
    let i = slice_index_or c.args.ring.now c.loop-index.index-index (pos 0) in
    let same : to_z w64 (of_z w64 i) ≡ i = omega (arith, ints) in
    rw same (ring_names _ c.args.ring.now c.loop-index.index-index (pos 0) c.requires.ring c.loop-index-test.true)

pub returns-in_err-take_index-clause-value : goal.returns-in_err-take_index-clause-value
returns-in_err-take_index-clause-value c =
    let p = err_from_is_err_and c.from_residual-in_err-take_index.result c.from_residual-in_err-take_index.ensures.1 in
    let k = c.loop-index.index-index in
    let i = slice_index_or c.args.ring.now k (pos 0) in
    let same : to_z w64 (of_z w64 i) ≡ i = omega (arith, ints) in
    let take = index_taken c.args.arcs.now (is_left c.in_ok-side.side) c.args.face in
    let one = sym (ap (take c.loop-index.self) same) ∙ c.in_err-take_index.ensures.value in
    rw (p.1, p.2)
    (ring_from c.args.arcs.now (is_exterior c.args.kind) c.args.face c.args.number c.args.ring.now c.args.self.now _ c.in_ok-side.ensures
    ∙ fold_stop take c.args.ring.now k (pos 0) c.loop-index.self _ c.in_err-take_index.field-0.0 c.loop-index-test.true c.loop-index.invariant.taken one)

pub loop-index-preserved : goal.loop-index-preserved
loop-index-preserved c =
    let i = slice_index_or c.args.ring.now c.loop-index.index-index (pos 0) in
    let same : to_z w64 (of_z w64 i) ≡ i = omega (arith, ints) in
    let take = index_taken c.args.arcs.now (is_left c.in_ok-side.side) c.args.face in
    let one = sym (ap (take c.loop-index.self) same) ∙ c.in_ok-take_index.ensures.value in
    record {
      taken = fold_next take c.args.ring.now c.loop-index.index-index (pos 0) c.loop-index.self _ c.take_index.new.self c.loop-index-test.true c.loop-index.invariant.taken one;
      form = search rules;
    }

pub returns-clause-value : goal.returns-clause-value
returns-clause-value c =
    let take = index_taken c.args.arcs.now (is_left c.in_ok-side.side) c.args.face in
    ring_from c.args.arcs.now (is_exterior c.args.kind) c.args.face c.args.number c.args.ring.now c.args.self.now _ c.in_ok-side.ensures
    ∙ fold_done take c.args.ring.now c.loop-index.index-index (pos 0) c.loop-index.self _ c.loop-index-test.false c.loop-index.invariant.taken
