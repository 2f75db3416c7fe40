-- The order has each key once, so the boxes in it are there by their keys.
use Rattle.std.proofs.Common.{◌≡◌, ℕ, ◌<◌, List, length, map, All, IsPermutation, sym, ap, ap₂, ◌∙◌, subst, subst₂, arith}
use Rattle.std.specs.List.{range_with_len}
use Rattle.std.proofs.lemmas.List.{length-map}
use Rattle.tgap_model.specs.declared.geometry.Window.{Window}
use Rattle.grid_index.specs.Picked.{box_at, AreInverse, boxes_by_key}
use Rattle.grid_index.proofs.Ordering.{order_below, order_length}
use Rattle.grid_index.proofs.Inverses.{boxes_back}
use Rattle.grid_index.proofs.boxes.EdgeBoxes.of.Goals as goal

pub slots_of-requires-clause-order : goal.slots_of-requires-clause-order
slots_of-requires-clause-order c =
    let n = length c.as_slice.result.now in
    let all = subst (IsPermutation (range_with_len 0 n)) (sym c.deref.ensures.value) c.in_ok-keys.ensures in
    subst (λ (m : ℕ). IsPermutation (range_with_len 0 m) c.deref.result.now) (sym (order_length n c.deref.result.now all)) all

pub slots_of-requires-clause-few : goal.slots_of-requires-clause-few
slots_of-requires-clause-few c =
    let n = length c.as_slice.result.now in
    omega (arith, c.requires.few, ap length c.as_slice.ensures, ap length c.deref.ensures.value, order_length n c.in_ok-keys.keys.items c.in_ok-keys.ensures)

pub picked-requires : goal.picked-requires
picked-requires c =
    let n = length c.as_slice.result.now in
    subst₂ (λ (m : ℕ) (keys : List ℕ). All (λ i. i < m) keys) (ap length (c.as_slice.ensures ∙ sym c.as_slice-2.ensures)) (sym c.deref-2.ensures.value)
    (order_below n c.in_ok-keys.keys.items c.in_ok-keys.ensures)

-- the keys and their slots are inverse
pub invariant_of-result : goal.invariant_of-result
invariant_of-result c =
    let keys = c.in_ok-keys.keys.items in
    let slots = c.in_ok-slots.slots.items in
    let tree : c.in_ok-tree.tree ≡ map (box_at c.as_slice-2.result.now) c.deref-2.result.now = c.in_ok-tree.ensures ∙ c.in_ok-row.ensures in
    let long = ap length tree ∙ length-map c.deref-2.result.now (box_at c.as_slice-2.result.now) ∙ ap length c.deref-2.ensures.value in
    record {
      inverse = subst₂ (λ (m : ℕ) (ks : List ℕ). AreInverse m ks slots) (ap length c.deref.ensures.value ∙ sym long) c.deref.ensures.value c.in_ok-slots.ensures;
      few = omega (arith, c.requires.few, ap length c.as_slice.ensures, order_length (length c.as_slice.result.now) keys c.in_ok-keys.ensures, long);
    }

pub returns : goal.returns
returns c =
    let boxes = c.as_slice.result.now in
    let n = length boxes in
    let keys = c.in_ok-keys.keys.items in
    let slots = c.in_ok-slots.slots.items in
    let tree : c.in_ok-tree.tree ≡ map (box_at boxes) keys =
    c.in_ok-tree.ensures ∙ c.in_ok-row.ensures ∙ ap₂ (λ (bs : List Window) (ks : List ℕ). map (box_at bs) ks) (c.as_slice-2.ensures ∙ sym c.as_slice.ensures) c.deref-2.ensures.value in
    let inverse : AreInverse n keys slots =
    subst₂ (λ (m : ℕ) (ks : List ℕ). AreInverse m ks slots) (ap length c.deref.ensures.value ∙ order_length n keys c.in_ok-keys.ensures) c.deref.ensures.value c.in_ok-slots.ensures in
    ap (boxes_by_key slots) tree ∙ boxes_back boxes keys slots inverse ∙ c.as_slice.ensures
