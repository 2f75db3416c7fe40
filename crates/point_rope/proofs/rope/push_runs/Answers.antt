use Rattle.std.proofs.Common.{◌++◌, List, take, sym, ap, ◌∙◌, append_assoc}
use Rattle.tgap_model.specs.declared.geometry.Point.{Point}
use Rattle.point_rope.specs.Runs.{joined}
use Rattle.point_rope.proofs.Joined.{joined_more}
use Rattle.point_rope.proofs.rope.push_runs.Goals as goal

pub loop-run-preserved : goal.loop-run-preserved
loop-run-preserved c =
    let runs = c.args.runs.now in
    let i = c.loop-run.run-index in
    let before = joined (take i runs) in
    c.in_ok-extend_from_slice.ensures.items ∙ ap (λ (ps : List Point). ps ++ c.points.result.now) c.loop-run.invariant
    ∙ append_assoc c.args.list.now.items before c.points.result.now
    ∙ ap (λ (ps : List Point). c.args.list.now.items ++ ps)
    (ap (λ (ps : List Point). before ++ ps) (c.points.ensures.points ∙ c.run-item.is) ∙ sym (joined_more runs i c.run-item.result c.loop-run-test.true))
