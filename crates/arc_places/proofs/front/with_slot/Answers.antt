use Rattle.std.proofs.Common.{◌||◌, ℕ, eqb, subst}
use Rattle.ring_walk.specs.Sides.{start_of}
use Rattle.arc_places.specs.Slots.{slot_of}
use Rattle.arc_places.specs.SlotTables.{AreLast, spans_in}
use Rattle.arc_places.proofs.SeenSlots.{slot_unseen}
use Rattle.arc_places.proofs.front.with_slot.Goals as goal

pub returns-in-Some-clause-seen : goal.returns-in-Some-clause-seen
returns-in-Some-clause-seen c = λ seen l.
    let slots = c.args.table.now in
    subst (λ (m : ℕ). AreLast (spans_in slots) (start_of (spans_in slots) c.args.x) c.args.x (λ s. seen s || eqb m (slot_of slots s.span)) c.with_arc.result) c.in-Some.ensures.found
    (c.with_arc.ensures.seen seen l)

pub returns-in-None-clause-seen : goal.returns-in-None-clause-seen
returns-in-None-clause-seen c = λ seen l.
    let slots = c.args.table.now in
    slot_unseen slots c.requires.spans (start_of (spans_in slots) c.args.x) c.args.x seen c.args.front c.args.slot c.in-None.ensures.none l
