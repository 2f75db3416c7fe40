use Rattle.std.proofs.Common.{◌++◌, List, sym, ap, ◌∙◌, append_assoc}
use Rattle.tgap_model.specs.declared.geometry.Point.{Point}
use Rattle.point_rope.specs.Runs.{joined}
use Rattle.point_rope.proofs.Joined.{joined_push}
use Rattle.point_rope.proofs.joining.put_runs.Goals as goal

pub loop-run-preserved : goal.loop-run-preserved
loop-run-preserved c =
    let row = joined c.args.full.now ++ c.args.last.now.items in
    let yielded = c.loop-run.yielded in
    let run = c.in-Some.run' in
    record {
      row =
          c.in_ok-put_run.ensures.row ∙ ap (λ (ps : List Point). ps ++ run) c.loop-run.invariant.row ∙ append_assoc row (joined yielded) run
          ∙ ap (λ (ps : List Point). row ++ ps) (sym (joined_push yielded run));
      near = c.in_ok-put_run.ensures.near;
    }
