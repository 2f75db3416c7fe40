use Rattle.std.proofs.Common.{◌++◌, List, ap, ◌∙◌}
use Rattle.std.proofs.lemmas.Result.{on_ok_weaker}
use Rattle.tgap_model.specs.declared.geometry.Point.{Point}
use Rattle.point_rope.specs.Runs.{joined}
use Rattle.point_rope.proofs.Joined.{pushed_if, put_behind}
use Rattle.point_rope.proofs.joining.put_run.Goals as goal

pub returns-clause-row : goal.returns-clause-row
returns-clause-row c =
    let full = joined c.args.full.now in
    let last = c.args.last.now.items in
    let run = c.args.run in
    on_ok_weaker c.push.result
    (λ h. put_behind (joined c.push.new.self) full last run c.close.new.last.items c.in_ok-close.ensures.last (h ∙ ap (λ (ps : List Point). ps ++ run) c.in_ok-close.ensures.row))
    (pushed_if c.push.result c.push.new.self c.close.new.full run c.push.ensures)
