-- What meets the area in the slots is what meets it, in another order.
use Rattle.std.proofs.Common.{ℕ, List, map, get_or, IsPermutation, ap, ap₂, ◌∙◌, subst}
use Rattle.std.proofs.lemmas.List.Sorted.{IsPermutation-trans, IsNonDecreasingBy-from_sort}
use Rattle.grid_index.specs.Near.{near_boxes}
use Rattle.grid_index.specs.Picked.{boxes_by_key}
use Rattle.grid_index.proofs.Sorted.{near_boxes-is_sorted, sorted_numbers}
use Rattle.grid_index.proofs.Inverses.{slots_near, keys_near}
use Rattle.grid_index.proofs.boxes.EdgeBoxes.near.Goals as goal

pub keys_in-requires : goal.keys_in-requires
keys_in-requires c =
    slots_near c.self.inside.keys.items c.self.inside.slots.items c.self.inside.tree c.self.invariant c.args.area c.deref.result.now c.deref-2.result.now
    c.deref.ensures.value (c.deref-2.ensures.value ∙ c.in_ok-slots.ensures)

pub returns : goal.returns
returns c =
    let area = c.args.area in
    let keys = c.self.inside.keys.items in
    let slots = c.self.inside.slots.items in
    let row = c.self.inside.tree in
    let boxes = boxes_by_key slots row in
    let sorted = c.sort_unstable.new.self.items in
    let found = c.in_ok-keys.ensures ∙ ap₂ (λ (ks is : List ℕ). map (λ i. get_or ks i 0) is) c.deref.ensures.value (c.deref-2.ensures.value ∙ c.in_ok-slots.ensures) in
    let moved = subst (λ (xs : List ℕ). IsPermutation xs sorted) found c.sort_unstable.ensures.permutation in
    c.from.ensures
    ∙ sorted_numbers (near_boxes area boxes) sorted (near_boxes-is_sorted area boxes)
    (IsPermutation-trans (near_boxes area boxes) (map (λ i. get_or keys i 0) (near_boxes area row)) sorted (keys_near keys slots row c.self.invariant area) moved)
    (IsNonDecreasingBy-from_sort (λ n. n) sorted c.sort_unstable.ensures.sorted)
    ∙ ap (near_boxes area) c.self.view_is
