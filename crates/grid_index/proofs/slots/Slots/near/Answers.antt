use Rattle.std.proofs.Common.{List, map, ap, ◌∙◌}
use Rattle.std.specs.List.{flat_map}
use Rattle.std.proofs.lemmas.List.{take_all}
use Rattle.grid_index.specs.declared.slots.Holder.{Holder}
use Rattle.grid_index.specs.Slots.{taken, entry_near}
use Rattle.grid_index.proofs.Finding.{near_is}
use Rattle.grid_index.proofs.slots.Slots.near.Goals as goal

pub returns : goal.returns
returns c = λ es moved ascend.
    let slots = c.args.self.now in
    let area = c.args.area.now in
    let holders = c.in_ok-holders.holders.items in
    let slots_of = λ (hs : List Holder). taken slots (map (λ h. h.slot) hs) in
    c.loop-holder.invariant
    ∙ ap (λ (hs : List Holder). flat_map (entry_near area) (slots_of hs)) (take_all c.loop-holder.holder-index c.deref-holder-items.result.now c.loop-holder-test.false ∙ c.deref-holder-items.ensures.value)
    ∙ near_is area slots (slots_of holders) es c.in_ok-holders.ensures.near c.in_ok-holders.ensures.ascending moved ascend
