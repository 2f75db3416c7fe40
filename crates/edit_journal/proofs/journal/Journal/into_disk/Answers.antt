-- What a crash leaves of the disk is what it leaves of the journal.
use Rattle.edit_journal.proofs.JournalSteps.{left_starts}
use Rattle.edit_journal.proofs.journal.Journal.into_disk.Goals as goal

pub returns-clause-left : goal.returns-clause-left
returns-clause-left g c = λ told image left. left_starts 67108864 c.args.self.entries c.args.self.doubt image (c.args.self.left told image left)
