-- The step of the row, or of no row.
use Rattle.std.proofs.Common.{◌<◌, get_or, length, sym, ap, ◌∙◌, subst, arith}
use Rattle.std.proofs.lemmas.List.{get_or_read}
use Rattle.edge_forest.specs.Removed.{PointSteps, IsTable, step_of}
use Rattle.edge_forest.proofs.RemovedPoints.{step_of_row, step_of_none}
use Rattle.edge_forest.proofs.removed.Removed.step_of.Goals as goal

pub returns-in-Some : goal.returns-in-Some
returns-in-Some c =
    let t = c.args.self.now in
    let table = subst (λ (t : PointSteps). IsTable t.points t.steps) c.self.view_is c.self.invariant in
    let found = c.in-Some.ensures in
    let short : c.in-Some.row < length c.self.inside.steps.items =
    omega (arith, found.0, c.self.invariant.count, ap (λ (t : PointSteps). length t.points) c.self.view_is) in
    get_or_read c.self.inside.steps.items c.in-Some.row c.index.result.now short c.index.ensures 0
    ∙ ap (λ (t : PointSteps). get_or t.steps c.in-Some.row 0) c.self.view_is
    ∙ sym (step_of_row t.points t.steps table.ascend table.count c.in-Some.row c.args.point.now found.0)
    ∙ ap (step_of t) found.1

pub returns-in-None : goal.returns-in-None
returns-in-None c = sym (step_of_none c.args.self.now.points c.args.self.now.steps c.args.point.now c.in-None.ensures)
