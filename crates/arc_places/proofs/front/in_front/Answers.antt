use Rattle.std.proofs.Common.{◌∙◌, ◌<◌, Option, length, take, refl, ap, arith}
use Rattle.std.specs.Prelude.{unwrap_or}
use Rattle.std.proofs.lemmas.List.{get_or_default}
use Rattle.ring_walk.specs.declared.side.Side.{Side}
use Rattle.ring_walk.specs.Sides.{start_of}
use Rattle.face_cuts.proofs.SpansOfArcs.{of_span}
use Rattle.arc_places.specs.Places.{is_among}
use Rattle.arc_places.specs.Slots.{arcs_in, slot_of}
use Rattle.arc_places.specs.SlotTables.{spans_in}
use Rattle.arc_places.proofs.LastOf.{front_is}
use Rattle.arc_places.proofs.SeenSlots.{all_seen, slots_more}
use Rattle.arc_places.proofs.front.in_front.Goals as goal

pub loop-at-preserved : goal.loop-at-preserved
loop-at-preserved c =
    let slots = c.args.table.now in
    let numbers = c.args.listed in
    let i = c.loop-at.at in
    let short : i < length numbers = omega (arith, c.count-at-end.ensures, c.loop-at-test.true) in
    record {
      spokes = c.with_slot-front.ensures.spokes;
      seen = slots_more slots c.requires.spans (start_of (spans_in slots) c.args.x) c.args.x c.with_slot-front.result numbers i c.slot.result short
          (c.slot.ensures ∙ get_or_default numbers i 0 c.slot.result short)
          (c.with_slot-front.ensures.seen (λ s. is_among (slot_of slots s.span) (take i numbers)) c.loop-at.invariant.seen);
    }

pub returns : goal.returns
returns c =
    let slots = c.args.table.now in
    let numbers = c.args.listed in
    let i = c.loop-at.at in
    let v = start_of (spans_in slots) c.args.x in
    c.unwrap_or.ensures ∙ ap (λ (o : Option Side). unwrap_or o c.args.x) c.or.ensures
    ∙ front_is (spans_in slots) c.requires.spans v c.args.x (λ s. is_among (slot_of slots s.span) (take i numbers)) c.loop-at.front (record { side = of_span (arcs_in slots) c.args.x c.requires.x; node = refl })
    (all_seen slots c.requires.spans v numbers i (omega (arith, c.count-at-end.ensures, c.loop-at-test.false)) c.requires.listed) c.loop-at.invariant.seen
