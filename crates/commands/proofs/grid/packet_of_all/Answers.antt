-- Step 0 is not above the last step, and this one is not above itself.
use Rattle.std.proofs.Common.{Err, ap, arith}
use Rattle.refine_packets.specs.declared.fail.PacketFail.{PacketFail}
use Rattle.commands.proofs.grid.packet_of_all.Goals as goal

pub unreachable-requires : goal.unreachable-requires
unreachable-requires c =
    let refused = c.in-Err-NotCoarser in
    let less = refused.ensures.coarser.0 (ap (λ (f : PacketFail). Err f) refused.field-0-is) in
    omega (arith, less)

pub unreachable-requires-in-Err-StepTooHigh : goal.unreachable-requires-in-Err-StepTooHigh
unreachable-requires-in-Err-StepTooHigh c =
    let refused = c.in-Err-StepTooHigh in
    let above = (refused.ensures.high refused.field-0-0).0 (ap (λ (f : PacketFail). Err f) refused.field-0-is) in
    omega (arith, above.1, c.steps.ensures)
