use Rattle.std.proofs.Common.{None, length, ◌<◌, Option, ◌++◌, IsPermutation, sym, ◌∙◌, subst₂, arith}
use Rattle.std.specs.Prelude.{option_to_list, slice_set}
use Rattle.std.proofs.lemmas.List.{get_or_default}
use Rattle.grid_index.specs.declared.segments.Entry.{Entry}
use Rattle.grid_index.specs.Slots.{held}
use Rattle.grid_index.proofs.Holding.{held_set}
use Rattle.grid_index.proofs.slots.take_by_key.Goals as goal

pub returns-in-Ok-clause-moved : goal.returns-in-Ok-clause-moved
returns-in-Ok-clause-moved c =
    let come = c.args.come.now.items in
    let place = c.in-Ok.place in
    let within : place < length come = omega (arith, c.in-Ok.ensures.bound, c.requires) in
    let taken = c.take.ensures.value ∙ c.index_mut.ensures.value ∙ get_or_default come place c.index_mut.result.now None within in
    subst₂ (λ (x y : Option Entry). IsPermutation (held come) (option_to_list x ++ held (slice_set come place y))) (sym taken) (sym c.take.ensures.after) (held_set come place None within)
