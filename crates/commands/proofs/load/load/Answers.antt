use Rattle.commands.proofs.Loads.{load_failed}
use Rattle.commands.proofs.load.load.Goals as goal

pub returns-in-Err-Failed-clause-counts : goal.returns-in-Err-Failed-clause-counts
returns-in-Err-Failed-clause-counts g c =
    load_failed (record { which = c.args.which; name = c.args.name.now; max = c.args.max }) (g.F.Files.faults c.args.files.now) (g.F.Files.faults c.load.new.self)
    c.load.ensures.others
