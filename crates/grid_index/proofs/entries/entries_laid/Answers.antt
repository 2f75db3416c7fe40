use Rattle.std.proofs.Common.{◌≡◌, ℕ, ◌<◌, List, length, All, IsPermutation, map, sym, ap, ◌∙◌, subst}
use Rattle.std.specs.List.{range_with_len}
use Rattle.std.proofs.lemmas.Result.{IfOk-weaker}
use Rattle.grid_index.specs.declared.segments.Entry.{Entry}
use Rattle.grid_index.specs.Slots.{held, entry_of, edge_at}
use Rattle.grid_index.proofs.Ordering.{order_below}
use Rattle.grid_index.proofs.Living.{laid}
use Rattle.grid_index.proofs.entries.entries_laid.Goals as goal

pub entries_at-requires-clause-places : goal.entries_at-requires-clause-places
entries_at-requires-clause-places c =
    let edges = c.args.edges.now in
    let order = c.in_ok-order.order.items in
    let moved = subst (λ (n : ℕ). IsPermutation (range_with_len 0 n) order) (ap length c.as_slice.ensures ∙ c.in_ok-boxes.ensures) c.in_ok-order.ensures in
    subst (λ (l : List ℕ). All (λ i. i < length edges) l) (sym c.deref.ensures.value) (order_below (length edges) order moved)

pub returns : goal.returns
returns c =
    let edges = c.args.edges.now in
    let order = c.in_ok-order.order.items in
    let f = λ (i : ℕ). entry_of (edge_at edges i) in
    let moved = subst (λ (n : ℕ). IsPermutation (range_with_len 0 n) order) (ap length c.as_slice.ensures ∙ c.in_ok-boxes.ensures) c.in_ok-order.ensures in
    IfOk-weaker c.entries_at.result (λ entries. held entries.items ≡ map f c.deref.result.now) (λ entries. IsPermutation (map entry_of edges) (held entries.items))
    (λ entries h. subst (λ (l : List Entry). IsPermutation (map entry_of edges) l) (sym (h ∙ ap (map f) c.deref.ensures.value)) (laid edges order moved)) c.entries_at.ensures
