use Rattle.std.proofs.Common.{◌<◌, length, ap, ◌∙◌, subst, arith}
use Rattle.std.proofs.Math.ListN.{length-set}
use Rattle.ring_walk.specs.declared.side.Side.{Side}
use Rattle.ring_walk.specs.Sides.{side_number}
use Rattle.ring_walk.specs.Spans.{IsInFront}
use Rattle.ring_walk.proofs.Tables.{told_more, told_all}
use Rattle.ring_walk.proofs.next.next_sides.Goals as goal

pub loop-place-preserved : goal.loop-place-preserved
loop-place-preserved c =
    let spokes = c.in_ok-spokes.spokes.items in
    let e = c.in_ok-spokes.ensures in
    let table = c.loop-place.table.items in
    let m = c.number.result in
    let p = c.index.result.now in
    let q = c.index-in-loop-place.result.now in
    let j = c.place_in_front.result in
    let front : IsInFront spokes c.loop-place.place j = subst (λ ps. IsInFront ps c.loop-place.place j) c.deref.ensures.value c.place_in_front.ensures.front in
    let within : j < length spokes = subst (λ ps. j < length ps) c.deref.ensures.value c.place_in_front.ensures.within in
    record {
      long = length-set {A = Side} table m q.side ∙ c.loop-place.invariant.long;
      told = told_more c.args.spans.now spokes e.each e.same e.ordered table c.loop-place.place j m p q (omega arith) within c.index.ensures c.index-in-loop-place.ensures front
          (c.number.ensures ∙ ap side_number c.turned-arriving.ensures) c.loop-place.invariant.long c.loop-place.invariant.told;
    }

pub returns : goal.returns
returns c =
    let e = c.in_ok-spokes.ensures in
    told_all c.args.spans.now c.in_ok-spokes.spokes.items e.each e.same e.ordered c.loop-place.table.items c.loop-place.invariant.long
    (λ k d l. c.loop-place.invariant.told k d (omega (arith, l)))
