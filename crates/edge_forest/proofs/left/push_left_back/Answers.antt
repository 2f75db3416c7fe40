-- One more point is left or not.
use Rattle.std.proofs.Common.{◌<◌, ◌-◌, length, pos, arith}
use Rattle.tgap_model.specs.declared.geometry.Point.{Point}
use Rattle.edge_forest.proofs.LaidSteps.{step_at, pushed_back}
use Rattle.edge_forest.proofs.left.push_left_back.Goals as goal

abbrev no_point : Point
no_point = record { x = pos 0; y = pos 0 }

pub loop-done-preserved : goal.loop-done-preserved
loop-done-preserved c = λ t same.
    let along = c.args.along.now in
    let done = c.loop-done.done in
    let less : done < length along = omega (arith, c.loop-done-test.true, c.loop-done.auto.done-end) in
    pushed_back t c.args.k along done no_point less c.args.points.now.items c.loop-done.points.items c.push_left.new.points.items
    (c.loop-done.invariant t same)
    (c.in_ok-push_left.ensures.points t (step_at t c.args.steps.now along same (length along - 1 - done) no_point (omega (arith, less))))
