use Rattle.std.proofs.Common.{◌≡◌, ◌∙◌, ℕ, List, length, ap, arith}
use Rattle.std.proofs.lemmas.Grind.{common_steps}
use Rattle.tgap_model.specs.declared.base.BaseArc.{BaseArc}
use Rattle.arc_places.specs.Slots.{arcs_in}
use Rattle.arc_places.proofs.SlotNumbers.{length-slots_from}
use Rattle.arc_places.proofs.slot_table.SlotTableArcTable.count.Goals as goal

pub returns : goal.returns
returns c =
    let long : length c.self.inside.there.items ≡ length (arcs_in c.args.self.now) =
    ap (λ (xs : List ℕ). length xs) c.self.invariant.slots_are ∙ length-slots_from c.self.inside.slots.now 0 ∙ ap (λ (s : List BaseArc). length (arcs_in s)) c.self.view_is in
    grind (arith, common_steps, long)
