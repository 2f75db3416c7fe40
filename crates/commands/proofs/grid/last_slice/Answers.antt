-- The last step is not above the last step.
use Rattle.std.proofs.Common.{Err, ap, arith}
use Rattle.slice_read.specs.declared.fail.ReadFail.{ReadFail}
use Rattle.commands.proofs.grid.last_slice.Goals as goal

pub unreachable-requires : goal.unreachable-requires
unreachable-requires g c =
    let refused = c.in-Err-StepTooHigh in
    let above = (refused.ensures.high refused.field-0-0).0 (ap (λ (f : ReadFail). Err f) refused.field-0-is) in
    omega (arith, above.0, c.steps.ensures)
