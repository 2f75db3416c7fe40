-- Sorted, and without repeats, the points are those of all arcs.
use Rattle.std.proofs.Common.{List, Contains, sym, ap, ◌∙◌, subst}
use Rattle.std.proofs.lemmas.List.{take_all}
use Rattle.std.proofs.lemmas.List.Filters.{dedup_is}
use Rattle.std.specs.List.Sorted.{IsStrictlySortedBy}
use Rattle.tgap_model.specs.declared.geometry.Point.{Point}
use Rattle.tgap_model.specs.Base.{same_point}
use Rattle.edge_forest.specs.Removed.{point_cmp, arc_points}
use Rattle.edge_forest.proofs.RemovedPoints.{points_ascend, points_kept}
use Rattle.edge_forest.proofs.removed.points_in_order.Goals as goal

pub returns-clause-ascend : goal.returns-clause-ascend
returns-clause-ascend c =
    let left = c.shrink_to_fit.ensures.items ∙ dedup_is same_point c.sort_unstable.new.self.items c.dedup.new.self.items c.dedup.ensures.filtered in
    subst (IsStrictlySortedBy point_cmp) (sym left) (points_ascend c.sort_unstable.new.self.items c.sort_unstable.ensures.sorted)

pub returns-clause-all : goal.returns-clause-all
returns-clause-all c = λ p among.
    let sorted = c.sort_unstable.new.self.items in
    let left = c.shrink_to_fit.ensures.items ∙ dedup_is same_point sorted c.dedup.new.self.items c.dedup.ensures.filtered in
    let all = c.loop-arc.invariant ∙ ap arc_points (take_all c.loop-arc.arc-index c.args.arcs.now c.loop-arc-test.false) in
    subst (λ (ps : List Point). Contains ps p) (sym left)
    (points_kept c.loop-arc.points.items sorted c.sort_unstable.ensures.permutation p (subst (λ (ps : List Point). Contains ps p) (sym all) among))
