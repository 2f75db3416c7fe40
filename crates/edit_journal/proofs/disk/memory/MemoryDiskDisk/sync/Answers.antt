use Rattle.edit_journal.specs.DiskLogs.{calls_in}
use Rattle.edit_journal.proofs.LogSteps.{stays_sure}
use Rattle.edit_journal.proofs.disk.memory.MemoryDiskDisk.sync.Goals as goal

pub returns-clause-crash : goal.returns-clause-crash
returns-clause-crash c = λ told image left. stays_sure c.args.self.now.first (calls_in c.args.self.now.log) (calls_in c.sure.new.self) c.args.self.now.within c.sure.ensures image left
