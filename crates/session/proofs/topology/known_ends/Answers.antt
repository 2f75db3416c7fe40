-- The step is one of the history.
use Rattle.std.proofs.Common.{Err, ap, ◌∙◌, arith}
use Rattle.session.proofs.topology.known_ends.Goals as goal

pub unreachable-requires : goal.unreachable-requires
unreachable-requires c =
    let above = (c.ends_at.ensures.high c.in-Err-StepTooHigh.field-0-0).0 (c.in-Err-StepTooHigh.is ∙ ap Err c.in-Err-StepTooHigh.field-0-is) in
    omega (arith, above.0, c.requires)
