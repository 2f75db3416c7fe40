use Rattle.std.proofs.Common.{◌≡◌, ◌<◌, ℕ, List, Contains, MatchOption, get_or, length, sym, ◌∙◌, subst}
use Rattle.std.specs.Prelude.{Option}
use Rattle.std.specs.List.Sorted.{IsStrictlySortedBy}
use Rattle.tgap_model.specs.declared.geometry.Point.{Point}
use Rattle.edge_forest.specs.Removed.{point_cmp}
use Rattle.edge_forest.proofs.RemovedPoints.{found_row}
use Rattle.tgap_build.proofs.point_set.PointSet.place_of.Goals as goal

pub returns : goal.returns
returns c =
    let p = c.args.point.now in
    let ps = c.deref.result.now in
    let same = c.deref.ensures.value ∙ c.self.view_is in
    let ascend = subst (IsStrictlySortedBy point_cmp) (sym c.deref.ensures.value) c.self.invariant in
    subst (λ (ps : List Point). MatchOption c.ok.result (Contains ps p → ⊥) (λ place. (place < length ps) × (get_or ps place p ≡ p))) same
    (subst (λ (o : Option ℕ). MatchOption o (Contains ps p → ⊥) (λ place. (place < length ps) × (get_or ps place p ≡ p))) (sym c.ok.ensures.value)
    (found_row ps ascend p c.binary_search.result c.binary_search.ensures.bound c.binary_search.ensures.position))
