use Rattle.std.proofs.Common.{◌≡◌, ℕ, List, sym, subst}
use Rattle.edge_forest.specs.Removed.{step_beside}
use Rattle.edge_forest.proofs.RemovedPoints.{step_of_new}
use Rattle.edge_forest.proofs.removed.Removed.of.Goals as goal

pub returns-clause-none : goal.returns-clause-none
returns-clause-none c = λ p.
    subst (λ (ss : List ℕ). step_beside c.in_ok-points.points.items ss p ≡ 0)
    (sym (c.in_ok-steps.ensures.items_if_clones_equal (λ y same. same))) (step_of_new c.in_ok-points.points.items c.len.result p)
