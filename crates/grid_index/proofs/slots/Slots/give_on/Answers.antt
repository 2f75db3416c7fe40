use Rattle.std.proofs.Common.{◌≡◌, ◌<◌, ◌++◌, List, None, Option, length, IsPermutation, sym, ap, ◌∙◌, subst, arith}
use Rattle.std.proofs.lemmas.List.{get_or_default}
use Rattle.grid_index.specs.declared.segments.Entry.{Entry}
use Rattle.grid_index.specs.Slots.{held, slot_at}
use Rattle.grid_index.proofs.Holding.{none_from_test}
use Rattle.grid_index.proofs.Emptied.{given, popped}
use Rattle.grid_index.proofs.slots.Slots.give_on.Goals as goal

pub returns-then-is_none-clause-moved : goal.returns-then-is_none-clause-moved
returns-then-is_none-clause-moved c =
    let old = c.args.self.now in
    let i = c.args.place in
    let come = c.args.come.now.items in
    let slots = c.self.inside.slots.items in
    let inside : i < length slots = omega (arith, c.requires, ap length c.self.view_is) in
    let slot : c.index.result.now ≡ slot_at old i = c.index.ensures ∙ get_or_default slots i c.index.result.now None inside ∙ ap (λ (xs : List (Option Entry)). slot_at xs i) c.self.view_is in
    let empty = sym slot ∙ none_from_test c.index.result.now c.is_none.result c.is_none.ensures c.if-is_none.true in
    let left = c.pop_entry-entry.new.come.items in
    let next = c.pop_entry-entry.result in
    subst (λ (xs : List (Option Entry)). IsPermutation (held old ++ held come) (held xs ++ held left)) (sym c.put.ensures)
    (given old come left i next c.requires empty (popped come left next c.pop_entry-entry.ensures.moved))
