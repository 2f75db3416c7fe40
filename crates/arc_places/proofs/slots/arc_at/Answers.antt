use Rattle.std.proofs.Common.{◌∙◌, [], ap}
use Rattle.std.proofs.lemmas.List.{get_or_default}
use Rattle.tgap_model.specs.Chains.{arc_number}
use Rattle.arc_places.proofs.SlotNumbers.{arc_in_slot}
use Rattle.arc_places.proofs.slots.arc_at.Goals as goal

pub returns : goal.returns
returns c =
    let slots = c.args.slots.now in
    c.index-slots-slot_at.is ∙ get_or_default slots c.slot_at.result c.index-slots-slot_at.result (record { left = 0; right = 0; points = [] }) c.slot_at.ensures.within
    ∙ ap (arc_number slots) c.slot_at.ensures.slot ∙ arc_in_slot slots c.args.arc c.requires.arc
