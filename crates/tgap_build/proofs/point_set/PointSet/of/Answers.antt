-- Sorted, and without repeats, the points are those of the removals.
use Rattle.std.proofs.Common.{List, sym, ap, ◌∙◌, subst}
use Rattle.std.specs.List.Sorted.{IsStrictlySortedBy}
use Rattle.std.proofs.lemmas.List.Filters.{dedup_is}
use Rattle.tgap_model.specs.declared.geometry.Point.{Point}
use Rattle.tgap_model.specs.Base.{same_point}
use Rattle.edge_forest.specs.Removed.{point_cmp}
use Rattle.edge_forest.proofs.RemovedPoints.{points_ascend}
use Rattle.tgap_build.specs.Running.{has_point}
use Rattle.tgap_build.proofs.PointSets.{set_is, points_removed}
use Rattle.tgap_build.proofs.point_set.PointSet.of.Goals as goal

pub invariant_of-result : goal.invariant_of-result
invariant_of-result c =
    let left = dedup_is same_point c.sort_unstable.new.self.items c.dedup.new.self.items c.dedup.ensures.filtered in
    subst (IsStrictlySortedBy point_cmp) (sym left) (points_ascend c.sort_unstable.new.self.items c.sort_unstable.ensures.sorted)

pub returns : goal.returns
returns c = λ p.
    let left = dedup_is same_point c.sort_unstable.new.self.items c.dedup.new.self.items c.dedup.ensures.filtered in
    ap (λ (ps : List Point). has_point ps p) left
    ∙ set_is c.in_ok-points.points.items c.sort_unstable.new.self.items c.sort_unstable.ensures.permutation p
    ∙ ap (λ (ps : List Point). has_point ps p) c.in_ok-points.ensures
    ∙ points_removed c.args.removals.now p
