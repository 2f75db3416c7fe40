-- The ends of one more arc.
use Rattle.std.proofs.Common.{pos, ◌≤◌, length, sym, subst}
use Rattle.std.proofs.lemmas.List.Elements.{All-get_or}
use Rattle.tgap_model.specs.declared.geometry.Point.{Point}
use Rattle.tgap_model.specs.declared.base.BaseArc.{BaseArc}
use Rattle.edge_forest.proofs.StartLists.{points_more}
use Rattle.edge_forest.proofs.start.end_points.Goals as goal

pub loop-arc-preserved : goal.loop-arc-preserved
loop-arc-preserved c =
    let a = c.arc-item.result in
    let some : 2 ≤ length a.points =
    subst (λ (a : BaseArc). 2 ≤ length a.points) (sym c.arc-item.is)
    (All-get_or (λ (a : BaseArc). 2 ≤ length a.points) c.args.arcs.now c.loop-arc.arc-index a c.loop-arc-test.true c.requires.points) in
    let origin : Point = record { x = pos 0; y = pos 0 } in
    points_more c.args.arcs.now c.loop-arc.arc-index a origin c.as_slice-along.result.now c.loop-arc.points.items c.push.new.self.items c.push-in-loop-arc.new.self.items
    c.loop-arc-test.true c.arc-item.is c.as_slice-along.ensures some c.loop-arc.invariant c.in_ok-push.ensures.items c.in_ok-push-2.ensures.items
