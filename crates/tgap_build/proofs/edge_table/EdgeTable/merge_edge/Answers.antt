-- An edge without the label of the loser is put back as it was, and one that stays with the winner's.
use Rattle.std.proofs.Common.{◌≡◌, ◌&&◌, Bool, false, cond, None, Some, set, sym, ap, ap₂, ◌∙◌}
use Rattle.tgap_model.specs.declared.slice.Edge.{Edge}
use Rattle.tgap_build.specs.Table.{moved_label, moved_edge, has_both, place_after}
use Rattle.tgap_build.proofs.TableChanges.{same_edge, place_read, set_again}
use Rattle.tgap_build.proofs.Visits.{without_first}
use Rattle.tgap_build.proofs.edge_table.EdgeTable.merge_edge.Goals as goal

pub returns-then-not-has_side-clause-places : goal.returns-then-not-has_side-clause-places
returns-then-not-has_side-clause-places c =
    let places = c.args.self.now.places.items in
    let k = c.args.key in
    let at = place_read places k c.requires.key c.index_mut.result.now c.take.result (Some c.in-Some.edge) c.index_mut.ensures.value c.take.ensures.value c.in-Some.is in
    set_again places k c.take.new.self (Some c.in-Some.edge)
    ∙ ap (set places k)
    (sym (ap (place_after c.args.loser c.args.winner) at ∙ without_first c.args.loser c.args.winner c.in-Some.edge (sym c.has_side.ensures ∙ c.if-not-has_side.true)))

pub returns-in_ok-push-3-clause-places : goal.returns-in_ok-push-3-clause-places
returns-in_ok-push-3-clause-places c =
    let places = c.args.self.now.places.items in
    let k = c.args.key in
    let e = c.in-Some.edge in
    let at = place_read places k c.requires.key c.index_mut.result.now c.take.result (Some c.in-Some.edge) c.index_mut.ensures.value c.take.ensures.value c.in-Some.is in
    let alone : has_both c.args.loser c.args.winner e ≡ false
    = ap₂ (λ (a b : Bool). a && b) (sym c.has_side.ensures ∙ c.if-not-has_side.false) (sym c.has_side-else-not-has_side.ensures ∙ c.if-has_side.false) in
    let left = c.moved_label-left.ensures ∙ ap (moved_label c.args.loser c.args.winner) c.left.ensures in
    let right = c.moved_label-right.ensures ∙ ap (moved_label c.args.loser c.args.winner) c.right.ensures in
    let moved = c.new-edge.ensures ∙ same_edge c.key.ensures left right c.into_row.ensures in
    set_again places k c.take.new.self (Some c.new-edge.result)
    ∙ ap (set places k)
    (ap (λ (f : Edge). Some f) moved
    ∙ sym (ap (place_after c.args.loser c.args.winner) at ∙ ap (λ (b : Bool). cond b None (Some (moved_edge c.args.loser c.args.winner e))) alone))
