-- The box of a key is that of its slot, and no other key has that slot.
use Rattle.std.proofs.Common.{◌<◌, ℕ, List, length, slice_set, sym, ap, ◌∙◌, subst, arith}
use Rattle.std.proofs.lemmas.List.{get_or_default}
use Rattle.tgap_model.specs.declared.geometry.Window.{Window}
use Rattle.grid_index.specs.Picked.{boxes_by_key}
use Rattle.grid_index.proofs.Inverses.{there, count, box_set}
use Rattle.grid_index.proofs.boxes.EdgeBoxes.set.Goals as goal

pub set-requires : goal.set-requires
set-requires c =
    let keys = c.self.inside.keys.items in
    let slots = c.self.inside.slots.items in
    let row = c.self.inside.tree in
    let within : c.args.key < length row = omega (arith, c.requires, ap length c.self.view_is, count keys slots row c.self.invariant) in
    let slot = c.index.ensures ∙ get_or_default slots c.args.key c.index.result.now 0 (omega (arith, within, c.self.invariant.inverse.long)) in
    subst (λ (i : ℕ). i < length row) (sym slot) (there (length row) keys slots c.self.invariant.inverse c.args.key within).0

pub returns : goal.returns
returns c =
    let keys = c.self.inside.keys.items in
    let slots = c.self.inside.slots.items in
    let row = c.self.inside.tree in
    let within : c.args.key < length row = omega (arith, c.requires, ap length c.self.view_is, count keys slots row c.self.invariant) in
    let slot = c.index.ensures ∙ get_or_default slots c.args.key c.index.result.now 0 (omega (arith, within, c.self.invariant.inverse.long)) in
    ap (boxes_by_key slots) (c.set.ensures ∙ ap (λ (i : ℕ). slice_set row i c.args.area) slot)
    ∙ box_set keys slots row c.self.invariant c.args.key c.args.area within
    ∙ ap (λ (bs : List Window). slice_set bs c.args.key c.args.area) c.self.view_is
