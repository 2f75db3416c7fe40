use Rattle.std.proofs.Common.{inr, arith}
use Rattle.commands.proofs.Says.{borders_done}
use Rattle.commands.proofs.borders.borders_of.Goals as goal

pub returns : goal.returns
returns c =
    inr (borders_done c.args.base.now c.args.step c.in_ok-steps.steps c.in_ok-borders_text.field-0 c.in_ok-steps.ensures.steps c.in_ok-steps.ensures.exact
    (omega (arith, c.len.ensures, c.if-step-len.false)) (rw c.in_ok-rows.ensures at c.in_ok-borders_text.ensures))
