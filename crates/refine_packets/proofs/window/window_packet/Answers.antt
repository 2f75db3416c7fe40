-- What is made is the packet.
use Rattle.std.proofs.Common.{arith}
use Rattle.tgap_model.specs.Merged.{merged}
use Rattle.refine_packets.proofs.WindowDown.{exact_in, fits_in, leads_in}
use Rattle.refine_packets.proofs.window.window_packet.Goals as goal

pub returns-clause-exact : goal.returns-clause-exact
returns-clause-exact c = exact_in (merged c.args.built.now) c.args.area c.args.from c.args.to c.in_ok-window_steps_down.field-0 c.in_ok-window_steps_down.ensures

pub returns-clause-fits : goal.returns-clause-fits
returns-clause-fits c =
    fits_in c.args.built.now c.base.ensures.base c.base.ensures.partition c.args.area c.args.from c.args.to (omega (arith, c.if-from-to.false))
    (omega (arith, c.steps-steps.ensures, c.if-from-steps.false)) c.in_ok-window_steps_down.field-0 c.in_ok-window_steps_down.ensures

pub returns-clause-leads : goal.returns-clause-leads
returns-clause-leads c =
    leads_in c.args.built.now c.base.ensures.base c.base.ensures.partition c.args.area c.args.from c.args.to (omega (arith, c.if-from-to.false))
    (omega (arith, c.steps-steps.ensures, c.if-from-steps.false)) c.in_ok-window_steps_down.field-0 c.in_ok-window_steps_down.ensures
