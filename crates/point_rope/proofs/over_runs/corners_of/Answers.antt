use Rattle.std.proofs.Common.{◌++◌, List, take, sym, ap, ◌∙◌, subst}
use Rattle.tgap_model.specs.declared.geometry.Point.{Point}
use Rattle.point_rope.specs.Ends.{AreCorners}
use Rattle.point_rope.specs.Runs.{joined}
use Rattle.point_rope.proofs.Joined.{joined_more}
use Rattle.point_rope.proofs.over_runs.corners_of.Goals as goal

pub loop-run-preserved : goal.loop-run-preserved
loop-run-preserved c =
    let runs = c.args.runs.now in
    let i = c.loop-run.run-index in
    let before = joined (take i runs) in
    let more = ap (λ (ps : List Point). before ++ ps) (c.points.ensures.points ∙ c.run-item.is) ∙ sym (joined_more runs i c.run-item.result c.loop-run-test.true) in
    record {
      corners = subst (λ (ps : List Point). AreCorners ps c.with_known-corners.result) more (c.with_known-corners.ensures.corners before c.loop-run.invariant.corners);
      near = c.with_known-corners.ensures.near;
    }
