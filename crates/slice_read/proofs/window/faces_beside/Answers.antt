-- The sides are sorted, stand there once, and those that are no outside have their rows.
use Rattle.std.proofs.Common.{rules, ◌≡◌, map, List, ◌==◌, nat_eq, not, All, IsPermutation, ℕ, sym, subst}
use Rattle.std.proofs.lemmas.List.Filters.{dedup_is}
use Rattle.std.proofs.lemmas.Fn.{filter_same}
use Rattle.std.proofs.lemmas.Result.{IfOk-weaker}
use Rattle.face_tree.specs.Tree.{IsFace}
use Rattle.slice_read.specs.Windows.{AreBeside, row_of}
use Rattle.slice_read.proofs.WindowFaces.{beside_faces, beside_once}
use Rattle.slice_read.proofs.window.faces_beside.Goals as goal

pub rows_of-requires : goal.rows_of-requires
rows_of-requires c =
    subst (λ (xs : List ℕ). All (IsFace c.args.tree.now) xs) (sym c.deref.ensures.value)
    (beside_faces c.args.tree.now c.args.edges.now c.sort_unstable.new.self.items c.dedup.new.self.items c.retain.new.self.items
    (subst (λ (xs : List ℕ). IsPermutation xs c.sort_unstable.new.self.items) c.in_ok-faces.ensures c.sort_unstable.ensures.permutation)
    (dedup_is nat_eq c.sort_unstable.new.self.items c.dedup.new.self.items c.dedup.ensures.filtered)
    (filter_same _ (λ n. not (n == 0)) _ (λ x b f' k. search rules) _ _ c.retain.ensures.filtered)
    c.requires)

pub returns : goal.returns
returns c =
    IfOk-weaker c.rows_of.result _ (AreBeside c.args.tree.now c.args.edges.now) (λ rows e.
    beside_once c.args.tree.now c.args.edges.now c.sort_unstable.new.self.items c.dedup.new.self.items c.retain.new.self.items rows
    (subst (λ (xs : List ℕ). IsPermutation xs c.sort_unstable.new.self.items) c.in_ok-faces.ensures c.sort_unstable.ensures.permutation)
    c.sort_unstable.ensures.sorted
    (dedup_is nat_eq c.sort_unstable.new.self.items c.dedup.new.self.items c.dedup.ensures.filtered)
    (filter_same _ (λ n. not (n == 0)) _ (λ x b f' k. search rules) _ _ c.retain.ensures.filtered)
    (subst (λ (xs : List ℕ). rows ≡ map (row_of c.args.tree.now) xs) c.deref.ensures.value e))
    c.rows_of.ensures
