-- The faces that are left, in order, are the live ones.
use Rattle.std.proofs.Common.{◌≡◌, ◌-◌, ◌+◌, ◌≤◌, ◌∙◌, ◌++◌, ℕ, List, filter, drop, take, length, nat_le, IsPermutation, ap, ap₂, sym, subst, rules, arith}
use Rattle.std.proofs.lemmas.Fn.{filter_same}
use Rattle.std.proofs.lemmas.List.{length-drop}
use Rattle.std.proofs.lemmas.List.Sorted.{IsNonDecreasingBy-from_sort}
use Rattle.tgap_model.specs.declared.merge.MergeStep.{MergeStep}
use Rattle.face_tree.specs.Tree.{FaceHistory, IsTree, children, root_faces}
use Rattle.face_tree.proofs.LiveList.{live_listed, rest_of}
use Rattle.face_tree.proofs.tree.FaceTree.live_at.Goals as goal

pub returns : goal.returns
returns c =
    let t = c.args.self.now in
    let k = c.args.k in
    let inside = c.self.inside in
    let h = subst (λ (u : FaceHistory). IsTree u inside.parents.items inside.jumps.items inside.roots.items) c.self.view_is c.self.invariant in
    let xs = c.sort_unstable.new.self.items in
    let all = c.extend_from_slice.new.self.items in
    let steps : c.deref.result.now ≡ t.steps = c.deref.ensures.value ∙ ap (λ (u : FaceHistory). u.steps) c.self.view_is in
    let merged : c.in_ok-faces.faces.items ≡ children (drop k t.steps) =
    c.in_ok-faces.ensures ∙ ap (λ (ss : List MergeStep). children (take (length ss - k) (drop k ss))) steps ∙ ap children (rest_of t.steps k) in
    let listed : all ≡ children (drop k t.steps) ++ root_faces t =
    c.in_ok-extend_from_slice.ensures.items ∙ ap₂ (λ (zs ys : List ℕ). zs ++ ys) merged (c.deref-2.ensures.value ∙ h.are_roots) in
    let last : inside.faces + k ≡ t.faces + k = ap (λ (u : FaceHistory). u.faces + k) c.self.view_is in
    let left : c.retain.new.self.items ≡ filter (λ g. nat_le g (t.faces + k)) (children (drop k t.steps) ++ root_faces t) =
    filter_same _ (λ g. nat_le g (inside.faces + k)) _ (λ x b f' r. search rules) _ _ c.retain.ensures.filtered
    ∙ ap₂ (λ (n : ℕ) (zs : List ℕ). filter (λ g. nat_le g n) zs) last listed in
    live_listed t h.numbered h.live k c.requires xs (subst (λ (zs : List ℕ). IsPermutation zs xs) left c.sort_unstable.ensures.permutation)
    (IsNonDecreasingBy-from_sort (λ x. x) xs c.sort_unstable.ensures.sorted)
