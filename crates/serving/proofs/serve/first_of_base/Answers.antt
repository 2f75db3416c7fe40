use Rattle.serving.proofs.Refusals.{refused_here}
use Rattle.serving.proofs.serve.first_of_base.Goals as goal

pub returns-in_err-checked-clause-refused : goal.returns-in_err-checked-clause-refused
returns-in_err-checked-clause-refused g c =
    let h = c.in_err-checked.ensures in
    refused_here c.args.base c.in_err-checked.field-0.0 c.from_residual.result c.from_residual.ensures.1 (h.fault, h.shown, h.refused)
