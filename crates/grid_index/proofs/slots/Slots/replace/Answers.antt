use Rattle.std.proofs.Common.{◌++◌, List, length, IsPermutation, ap, subst, arith}
use Rattle.std.proofs.lemmas.List.{length-append}
use Rattle.std.proofs.lemmas.List.Sorted.{IsPermutation-trans, length_permutation}
use Rattle.grid_index.specs.declared.segments.Entry.{Entry}
use Rattle.grid_index.specs.Slots.{held}
use Rattle.grid_index.proofs.slots.Slots.replace.Goals as goal

pub fill-requires : goal.fill-requires
fill-requires c =
    let come = held c.args.come.items in
    let one = held c.take_all_out.new.self in
    let two = held c.give_all_back.new.self in
    let left = held c.give_all_back.new.come.items in
    let three = held c.give_all_on.new.self in
    let rest = held c.give_all_on.new.come.items in
    let first = length_permutation (one ++ come) (two ++ left) c.give_all_back.ensures.moved in
    let then = length_permutation (two ++ left) (three ++ rest) c.give_all_on.ensures.moved in
    omega (
      arith,
      first,
      then,
      length-append one come,
      length-append two left,
      length-append three rest,
      ap (λ (es : List Entry). length es) c.take_all_out.ensures.held,
      c.requires.room,
      c.take_all_out.ensures.len,
      c.give_all_back.ensures.len,
      c.give_all_on.ensures.len,
    )

pub returns-clause-ok : goal.returns-clause-ok
returns-clause-ok c =
    let come = held c.args.come.items in
    let one = held c.take_all_out.new.self in
    let two = held c.give_all_back.new.self ++ held c.give_all_back.new.come.items in
    let three = held c.give_all_on.new.self ++ held c.give_all_on.new.come.items in
    let end = held c.fill.new.self in
    subst (λ (es : List Entry). IsPermutation (es ++ come) end) c.take_all_out.ensures.held
    (IsPermutation-trans (one ++ come) two end c.give_all_back.ensures.moved (IsPermutation-trans two three end c.give_all_on.ensures.moved c.fill.ensures))
