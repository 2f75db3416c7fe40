use Rattle.std.proofs.Common.{◌||◌, refl, subst}
use Rattle.ring_walk.specs.declared.side.Side.{Side}
use Rattle.ring_walk.specs.declared.side.Way.TheVariants.{Along}
use Rattle.ring_walk.specs.Sides.{same_side, start_of}
use Rattle.arc_places.specs.Slots.{slot_of}
use Rattle.arc_places.specs.SlotTables.{AreLast, spans_in}
use Rattle.arc_places.proofs.SeenSlots.{slot_seen}
use Rattle.arc_places.proofs.front.with_arc.Goals as goal

pub returns-clause-seen : goal.returns-clause-seen
returns-clause-seen c = λ seen l.
    let slots = c.args.table.now in
    let v = start_of (spans_in slots) c.args.x in
    let along : Side = record { span = c.args.arc; way = Along } in
    slot_seen slots c.requires.spans v c.args.x seen c.with_side.result (slot_of slots c.args.arc) c.args.arc c.requires.arc refl
    (subst (λ (s : Side). AreLast (spans_in slots) v c.args.x (λ u. (seen u || same_side u along) || same_side u s) c.with_side.result) c.turned.ensures
    (c.with_side.ensures.seen (λ u. seen u || same_side u along) (c.with_side-first.ensures.seen seen l)))
