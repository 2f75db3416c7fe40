-- The box at a place is that of the slot of its key.
use Rattle.std.proofs.Common.{◌<◌, ℕ, List, length, sym, ap, ap₂, ◌∙◌, subst₂, arith}
use Rattle.std.proofs.lemmas.List.{length-map}
use Rattle.tgap_model.specs.declared.geometry.Window.{Window}
use Rattle.grid_index.specs.Boxes.{meets}
use Rattle.grid_index.specs.Picked.{box_at, boxes_by_key}
use Rattle.grid_index.proofs.Inverses.{box_of_key, slot_of, slot_within}
use Rattle.grid_index.proofs.boxes.EdgeBoxes.is_near.Goals as goal

pub bounds-as_slice-slot : goal.bounds-as_slice-slot
bounds-as_slice-slot c =
    let keys = c.self.inside.keys.items in
    let slots = c.self.inside.slots.items in
    let row = c.self.inside.tree in
    let k = c.args.place in
    let within : k < length (boxes_by_key slots row) = omega (arith, c.requires, ap length c.self.view_is) in
    subst₂ (λ (i n : ℕ). i < n) (sym (c.index.ensures ∙ slot_of keys slots row c.self.invariant k c.index.result.now within)) (sym (ap length (c.as_slice.ensures ∙ c.boxes.ensures)))
    (slot_within keys slots row c.self.invariant k within)

pub returns : goal.returns
returns c =
    let slots = c.self.inside.slots.items in
    let row = c.self.inside.tree in
    let k = c.args.place in
    let within : k < length (boxes_by_key slots row) = omega (arith, c.requires, ap length c.self.view_is) in
    let slot = c.index.ensures ∙ slot_of c.self.inside.keys.items slots row c.self.invariant k c.index.result.now within in
    c.meets.ensures
    ∙ ap (meets c.args.area.now)
    (ap₂ (λ (bs : List Window) (i : ℕ). box_at bs i) (c.as_slice.ensures ∙ c.boxes.ensures) slot
    ∙ sym (box_of_key slots row k (omega (arith, within, length-map slots (box_at row))))
    ∙ ap (λ (bs : List Window). box_at bs k) c.self.view_is)
