use Rattle.commands.proofs.Loads.{not_listed}
use Rattle.commands.proofs.load.read_base.Goals as goal

pub returns-in_err-read_listing : goal.returns-in_err-read_listing
returns-in_err-read_listing c =
    not_listed c.args.bytes.now c.in_err-read_listing.field-0.0 c.from_residual.result c.from_residual.ensures.1
    c.in_err-read_listing.ensures.exact c.in_err-read_listing.ensures.fault
