-- The row of the point has the new step.
use Rattle.std.proofs.Common.{◌≡◌, ◌<◌, List, cond, length, get_or, sym, ap, ◌∙◌, subst}
use Rattle.tgap_model.specs.declared.geometry.Point.{Point}
use Rattle.tgap_model.specs.Base.{same_point}
use Rattle.edge_forest.specs.Removed.{PointSteps, step_of, step_beside}
use Rattle.edge_forest.proofs.RemovedPoints.{step_of_set}
use Rattle.edge_forest.proofs.removed.Removed.note.Goals as goal

pub returns-in-Some-clause-steps : goal.returns-in-Some-clause-steps
returns-in-Some-clause-steps c = λ p.
    let ps = c.self.inside.points.items in
    let ss = c.self.inside.steps.items in
    let q = c.args.removal.now.point in
    let v = c.args.removal.now.step in
    let row = c.in-Some.row in
    let points = ap (λ (t : PointSteps). t.points) c.self.view_is in
    let found = subst (λ (ps : List Point). (row < length ps) × (get_or ps row q ≡ q)) (sym points) c.in-Some.ensures in
    step_of_set ps ss c.self.invariant.ascend c.self.invariant.count row q v p found.0
    ∙ ap (λ (x : Point). cond (same_point x p) v (step_beside ps ss p)) found.1
    ∙ ap (λ (t : PointSteps). cond (same_point q p) v (step_of t p)) c.self.view_is
