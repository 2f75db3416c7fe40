use Rattle.std.proofs.Common.{List, ◌+◌, take, None, sym, ◌∙◌, subst}
use Rattle.std.proofs.lemmas.List.{get_or_default}
use Rattle.tgap_model.specs.declared.geometry.Window.{Window}
use Rattle.grid_index.specs.Slots.{IsBounded}
use Rattle.grid_index.proofs.Holding.{IsBounded-more}
use Rattle.grid_index.proofs.slots.row_of.Goals as goal

pub loop-slot-preserved : goal.loop-slot-preserved
loop-slot-preserved c =
    let slots = c.args.slots.now in
    let i = c.loop-slot.slot-index in
    subst (λ (row : List Window). IsBounded (take (i + 1) slots) row) (sym c.in_ok-push.ensures)
    (IsBounded-more slots i c.loop-slot.row c.slot-item.result c.slot_bounds.result c.loop-slot-test.true (c.slot-item.is ∙ get_or_default slots i c.slot-item.result None c.loop-slot-test.true) c.loop-slot.invariant
    c.slot_bounds.ensures)
