-- What is copied is the packet.
use Rattle.std.proofs.Common.{arith}
use Rattle.tgap_model.specs.Merged.{merged}
use Rattle.refine_packets.proofs.Packets.{exact, fits, leads, joins}
use Rattle.refine_packets.proofs.packet.Goals as goal

pub returns-clause-exact : goal.returns-clause-exact
returns-clause-exact c = exact (merged c.args.built.now) c.args.from c.args.to c.in_ok-records_down.field-0 c.in_ok-records_down.ensures

pub returns-clause-fits : goal.returns-clause-fits
returns-clause-fits c =
    fits c.args.built.now c.base.ensures.base c.base.ensures.partition c.args.from c.args.to (omega (arith, c.if-from-to.false))
    (omega (arith, c.steps-steps.ensures, c.if-from-steps.false)) c.in_ok-records_down.field-0 c.in_ok-records_down.ensures

pub returns-clause-leads : goal.returns-clause-leads
returns-clause-leads c =
    leads c.args.built.now c.base.ensures.base c.base.ensures.partition c.args.from c.args.to (omega (arith, c.if-from-to.false))
    (omega (arith, c.steps-steps.ensures, c.if-from-steps.false)) c.in_ok-records_down.field-0 c.in_ok-records_down.ensures

pub returns-clause-joins : goal.returns-clause-joins
returns-clause-joins c = joins (merged c.args.built.now) c.args.from c.args.to c.in_ok-records_down.field-0 c.in_ok-records_down.ensures
