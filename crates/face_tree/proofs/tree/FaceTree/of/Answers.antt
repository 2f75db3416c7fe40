-- What is built is the tree of the history.
use Rattle.std.proofs.Common.{arith, ◌≡◌, ◌+◌, ◌∙◌, refl, ap, sym, subst, ℕ, List, Option, None, length, slice_index_or}
use Rattle.tgap_model.specs.declared.merge.MergeStep.{MergeStep}
use Rattle.face_tree.specs.Tree.{FaceHistory, AreJumpsBy, face_history, parent_by, without_parent}
use Rattle.face_tree.proofs.Merged.{history_facts, handed_over, parents_ascend, tree_is}
use Rattle.face_tree.proofs.tree.FaceTree.of.Goals as goal

pub overflow_cast-faces : goal.overflow_cast-faces
overflow_cast-faces c =
    let classes = c.as_slice-classes.ensures ∙ c.classes.ensures.value in
    let h = handed_over c.args.base.now c.args.steps.now _ _ c.classes.ensures.base c.requires classes c.as_slice-steps.ensures in
    omega (arith, h.1)

pub parents_of-requires-clause-numbered : goal.parents_of-requires-clause-numbered
parents_of-requires-clause-numbered c =
    let classes = c.as_slice-classes.ensures ∙ c.classes.ensures.value in
    (handed_over c.args.base.now c.args.steps.now _ _ c.classes.ensures.base c.requires classes c.as_slice-steps.ensures).0

pub parents_of-requires-clause-small : goal.parents_of-requires-clause-small
parents_of-requires-clause-small c =
    let classes = c.as_slice-classes.ensures ∙ c.classes.ensures.value in
    (handed_over c.args.base.now c.args.steps.now _ _ c.classes.ensures.base c.requires classes c.as_slice-steps.ensures).1

pub classes_of-requires-clause-numbered : goal.classes_of-requires-clause-numbered
classes_of-requires-clause-numbered c =
    let classes = c.as_slice-classes.ensures ∙ c.classes.ensures.value in
    (handed_over c.args.base.now c.args.steps.now _ _ c.classes.ensures.base c.requires classes c.as_slice-steps.ensures).0

pub classes_of-requires-clause-small : goal.classes_of-requires-clause-small
classes_of-requires-clause-small c =
    let classes = c.as_slice-classes.ensures ∙ c.classes.ensures.value in
    (handed_over c.args.base.now c.args.steps.now _ _ c.classes.ensures.base c.requires classes c.as_slice-steps.ensures).1

pub jumps_of-requires-clause-ascending : goal.jumps_of-requires-clause-ascending
jumps_of-requires-clause-ascending c =
    let classes = c.as_slice-classes.ensures ∙ c.classes.ensures.value in
    let h = handed_over c.args.base.now c.args.steps.now _ _ c.classes.ensures.base c.requires classes c.as_slice-steps.ensures in
    rw c.as_slice.ensures.value
    (parents_ascend (length c.as_slice-classes.result.now) c.as_slice-steps.result.now c.in_ok-parents.parents.items h.0 c.in_ok-parents.ensures.count c.in_ok-parents.ensures.value)

pub jumps_of-requires-clause-small : goal.jumps_of-requires-clause-small
jumps_of-requires-clause-small c =
    let classes = c.as_slice-classes.ensures ∙ c.classes.ensures.value in
    let h = handed_over c.args.base.now c.args.steps.now _ _ c.classes.ensures.base c.requires classes c.as_slice-steps.ensures in
    omega (arith, h.1, ap length c.as_slice.ensures.value, c.in_ok-parents.ensures.count)

pub roots_of-requires-clause-some : goal.roots_of-requires-clause-some
roots_of-requires-clause-some c = omega (arith, ap length c.as_slice-2.ensures.value, c.in_ok-parents.ensures.count)

pub roots_of-requires-clause-small : goal.roots_of-requires-clause-small
roots_of-requires-clause-small c =
    let classes = c.as_slice-classes.ensures ∙ c.classes.ensures.value in
    let h = handed_over c.args.base.now c.args.steps.now _ _ c.classes.ensures.base c.requires classes c.as_slice-steps.ensures in
    omega (arith, h.1, ap length c.as_slice-2.ensures.value, c.in_ok-parents.ensures.count)

pub invariant_of-result : goal.invariant_of-result
invariant_of-result c =
    let m = c.args.base.now in
    let steps = c.args.steps.now in
    let t : FaceHistory = record { faces = length c.as_slice-classes.result.now; classes = c.in_ok-classes_of.field-0.items; steps = c.in_ok-from_slice.field-0.items } in
    let parents = c.in_ok-parents.parents.items in
    let facts = history_facts m steps c.classes.ensures.base c.requires in
    let base_classes = c.as_slice-classes.ensures ∙ c.classes.ensures.value in
    let copied = c.in_ok-from_slice.ensures.items ∙ c.as_slice-steps.ensures in
    let same : t ≡ face_history (record { base = m; steps = steps }) = rw (c.in_ok-classes_of.ensures, base_classes, copied, c.as_slice-steps.ensures) refl in
    let back = sym c.in_ok-from_slice.ensures.items in
    let count = subst (λ (ss : List MergeStep). length parents ≡ t.faces + length ss + 1) back c.in_ok-parents.ensures.count in
    let value = subst (λ (ss : List MergeStep). (f : ℕ) → slice_index_or parents f None ≡ parent_by ss f) back c.in_ok-parents.ensures.value in
    let jumps = subst (λ (ps : List (Option ℕ)). AreJumpsBy ps c.in_ok-jumps.jumps.items) c.as_slice.ensures.value c.in_ok-jumps.ensures in
    let tops = c.in_ok-roots.ensures ∙ ap without_parent c.as_slice-2.ensures.value in
    tree_is m steps t parents c.in_ok-jumps.jumps.items c.in_ok-roots.roots.items facts same count value jumps tops
