use Rattle.commands.specs.Command.{Listing}
use Rattle.commands.specs.Answers.{Failed}
use Rattle.commands.proofs.Loads.{passed_on, of_bytes}
use Rattle.commands.proofs.load.load_listing.Goals as goal

pub returns-in_err-text-clause-read : goal.returns-in_err-text-clause-read
returns-in_err-text-clause-read g c =
    passed_on (Listing c.args.name.now) (g.F.Files.told c.args.files.now)
    (Failed (g.F.Files.faults c.args.files.now) (g.F.Files.faults c.load.new.files))
    c.in_err-text.field-0.0 c.from_residual.result c.from_residual.ensures.1 c.in_err-text.ensures.fetched

pub returns-clause-read : goal.returns-clause-read
returns-clause-read g c =
    of_bytes c.args.name.now (g.F.Files.told c.args.files.now)
    (Failed (g.F.Files.faults c.args.files.now) (g.F.Files.faults c.load.new.files))
    c.in_ok-text.text c.read_base.result c.in_ok-text.ensures.fetched (rw c.as_slice.ensures at c.read_base.ensures)
