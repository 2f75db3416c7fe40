-- One more point is left or not.
use Rattle.std.proofs.Common.{◌<◌, length, pos, arith}
use Rattle.tgap_model.specs.declared.geometry.Point.{Point}
use Rattle.edge_forest.proofs.LaidSteps.{step_at, pushed_on}
use Rattle.edge_forest.proofs.left.push_left_along.Goals as goal

abbrev no_point : Point
no_point = record { x = pos 0; y = pos 0 }

pub loop-i-preserved : goal.loop-i-preserved
loop-i-preserved c = λ t same.
    let along = c.args.along.now in
    let i = c.loop-i.i in
    let within : i < length along = omega (arith, c.loop-i-test.true, c.loop-i.auto.i-end) in
    pushed_on t c.args.k along i no_point within c.args.points.now.items c.loop-i.points.items c.push_left.new.points.items
    (c.loop-i.invariant t same)
    (c.in_ok-push_left.ensures.points t (step_at t c.args.steps.now along same i no_point within))
