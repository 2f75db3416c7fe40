-- What meets the area in the slots is what meets it, in another order.
use Rattle.std.proofs.Common.{◌≡◌, ℕ, ◌<◌, List, Vec, Global, Option, Some, length, map, get_or, IfSome, IfNone, IsPermutation, sym, ap₂, ◌∙◌, subst, subst₂, arith}
use Rattle.std.proofs.lemmas.List.{length-map}
use Rattle.std.proofs.lemmas.List.Sorted.{length_permutation}
use Rattle.tgap_model.specs.declared.geometry.Window.{Window}
use Rattle.grid_index.specs.Near.{near_boxes}
use Rattle.grid_index.specs.Picked.{boxes_by_key}
use Rattle.grid_index.proofs.Inverses.{slots_near, keys_near}
use Rattle.grid_index.proofs.boxes.EdgeBoxes.meeting.Goals as goal

-- the slots that were found
found_in : (found : Option (Vec ℕ Global)) (slots : Vec ℕ Global) (near : List ℕ) → IfSome found (λ (v : Vec ℕ Global). v.items ≡ near) → found ≡ Some slots → slots.items ≡ near
found_in found slots near h is = subst (λ (o : Option (Vec ℕ Global)). IfSome o (λ (v : Vec ℕ Global). v.items ≡ near)) is h

pub keys_in-requires : goal.keys_in-requires
keys_in-requires c =
    let found = found_in c.in_ok-found.found c.in-Some.slots (near_boxes c.args.area c.self.inside.tree) c.in_ok-found.ensures.few c.in-Some.is in
    slots_near c.self.inside.keys.items c.self.inside.slots.items c.self.inside.tree c.self.invariant c.args.area c.deref.result.now c.deref-in-Some.result.now
    c.deref.ensures.value (c.deref-in-Some.ensures.value ∙ found)

pub returns-in_ok-keys_in-in-Some-clause-few : goal.returns-in_ok-keys_in-in-Some-clause-few
returns-in_ok-keys_in-in-Some-clause-few c =
    let area = c.args.area in
    let keys = c.self.inside.keys.items in
    let slots = c.self.inside.slots.items in
    let row = c.self.inside.tree in
    let found = found_in c.in_ok-found.found c.in-Some.slots (near_boxes area row) c.in_ok-found.ensures.few c.in-Some.is in
    let told = c.from.ensures ∙ c.in_ok-keys_in-in-Some.ensures ∙ ap₂ (λ (ks is : List ℕ). map (λ i. get_or ks i 0) is) c.deref.ensures.value (c.deref-in-Some.ensures.value ∙ found) in
    subst₂ (λ (bs : List Window) (xs : List ℕ). IsPermutation (near_boxes area bs) xs) c.self.view_is (sym told) (keys_near keys slots row c.self.invariant area)

pub returns-in-None-clause-many : goal.returns-in-None-clause-many
returns-in-None-clause-many c =
    let area = c.args.area in
    let keys = c.self.inside.keys.items in
    let slots = c.self.inside.slots.items in
    let row = c.self.inside.tree in
    let many : c.args.most < length (near_boxes area row) =
    subst (λ (o : Option (Vec ℕ Global)). IfNone o (c.args.most < length (near_boxes area row))) c.in-None.is c.in_ok-found.ensures.many in
    let same = length_permutation (near_boxes area (boxes_by_key slots row)) (map (λ i. get_or keys i 0) (near_boxes area row)) (keys_near keys slots row c.self.invariant area) in
    subst (λ (bs : List Window). c.args.most < length (near_boxes area bs)) c.self.view_is
    (omega (arith, many, same, length-map (near_boxes area row) (λ i. get_or keys i 0)))
