use Rattle.commands.proofs.Says.{check_failed}
use Rattle.commands.proofs.check.check_of.Goals as goal

pub returns-in_err-checked : goal.returns-in_err-checked
returns-in_err-checked g c =
    let h = c.in_err-checked.ensures in
    check_failed c.args.base c.in_err-checked.field-0.0 c.from_residual.result c.from_residual.ensures.1 (h.fault, h.shown, h.refused)
