use Rattle.std.proofs.Common.{◌≡◌, ◌<◌, ℕ, List, Less, length, get_or, sym, ap, ◌∙◌, subst}
use Rattle.std.specs.List.Sorted.{IsStrictlySortedBy}
use Rattle.tgap_model.specs.declared.geometry.Point.{Point}
use Rattle.edge_forest.specs.Removed.{point_cmp}
use Rattle.tgap_build.proofs.PointsInBoxes.{place_in, come_before}
use Rattle.tgap_build.proofs.point_set.PointSet.place_behind.Goals as goal

pub returns-in-Ok : goal.returns-in-Ok
returns-in-Ok c =
    let q = c.args.point.now in
    subst (λ (ps : List Point). (k : ℕ) (d : Point) → k < c.in-Ok.place → k < length ps → point_cmp (get_or ps k d) q ≡ Less) (c.deref.ensures.value ∙ c.self.view_is)
    (come_before c.deref.result.now (subst (IsStrictlySortedBy point_cmp) (sym c.deref.ensures.value) c.self.invariant) q
    c.binary_search.result c.binary_search.ensures.bound c.binary_search.ensures.position c.in-Ok.place (ap place_in c.in-Ok.is))

pub returns-in-Err : goal.returns-in-Err
returns-in-Err c =
    let q = c.args.point.now in
    subst (λ (ps : List Point). (k : ℕ) (d : Point) → k < c.in-Err.place → k < length ps → point_cmp (get_or ps k d) q ≡ Less) (c.deref.ensures.value ∙ c.self.view_is)
    (come_before c.deref.result.now (subst (IsStrictlySortedBy point_cmp) (sym c.deref.ensures.value) c.self.invariant) q
    c.binary_search.result c.binary_search.ensures.bound c.binary_search.ensures.position c.in-Err.place (ap place_in c.in-Err.is))
