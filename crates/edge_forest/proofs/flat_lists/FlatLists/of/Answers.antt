-- One more list stands behind the others, and at last all do.
use Rattle.std.proofs.Common.{◌≡◌, ◌+◌, ◌∷◌, ◌++◌, ℕ, List, [], length, sym, ap, ◌∙◌, subst, arith}
use Rattle.std.proofs.lemmas.List.{get_or_read}
use Rattle.edge_forest.proofs.FlatRows.{IsFlat, flat_more, flat_ends}
use Rattle.edge_forest.proofs.flat_lists.FlatLists.of.Goals as goal

pub loop-list-preserved : goal.loop-list-preserved
loop-list-preserved c =
    let lists = c.args.lists.now in
    let n = c.loop-list.list-index in
    let starts = c.loop-list.starts.items in
    let ids = c.loop-list.ids.items in
    let new = c.as_slice.result.now in
    let longer = c.in_ok-extend_from_slice.ensures.items in
    let size : c.len.result ≡ length (ids ++ new) = omega (arith, c.len.ensures, c.extend_from_slice.new.self.ok.0, ap length longer) in
    subst (λ (is : List ℕ). IsFlat lists (n + 1) c.push-in-loop-list.new.self.items is) (sym longer)
    (subst (λ (ss : List ℕ). IsFlat lists (n + 1) ss (ids ++ new)) (sym (c.in_ok-push-2.ensures.items ∙ ap (λ (m : ℕ). starts ++ m ∷ []) size))
    (flat_more lists n starts ids new (c.as_slice.ensures ∙ get_or_read lists n c.list-item.result c.loop-list-test.true c.list-item.is []) c.loop-list.invariant))

pub returns : goal.returns
returns c =
    flat_ends c.args.lists.now c.loop-list.list-index c.loop-list.starts.items c.loop-list.ids.items
    (omega (arith, c.loop-list-test.false, c.loop-list.auto.list-index-end)) c.loop-list.invariant
