-- At the start no point is removed.
use Rattle.std.proofs.Common.{List, Contains, true≢false, sym, subst, arith}
use Rattle.tgap_model.specs.declared.base.BaseArc.{BaseArc}
use Rattle.edge_forest.specs.Removed.{arc_points}
use Rattle.edge_forest.proofs.Forests.{rest_is_kept}
use Rattle.edge_forest.proofs.forest.Forest.of_checked.Goals as goal

pub invariant_of-result : goal.invariant_of-result
invariant_of-result c =
    let growth = c.in_ok-growth.growth in
    let removed = c.in_ok-removed in
    record {
      kept = rest_is_kept 0 growth removed.removed c.in_ok-growth.ensures.rest c.in_ok-growth.ensures.few
          (λ p among. removed.ensures.all p (subst (λ (arcs : List BaseArc). Contains (arc_points arcs) p) (sym c.arcs_of.ensures) among))
          (λ p. omega (arith, removed.ensures.none p));
      indexed = λ e. absurd (true≢false (sym e));
      told = λ e. absurd (true≢false (sym e));
    }
