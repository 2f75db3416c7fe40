use Rattle.std.proofs.Common.{length}
use Rattle.edit_journal.proofs.ReadSteps.{ReadSoFar}
use Rattle.edit_journal.proofs.reading.read_entries.Given as goal

abbrev pub invariant-loop-entries : goal.invariant-loop-entries
invariant-loop-entries l = ReadSoFar l.bytes l.entries l.rest

abbrev pub decreases-loop-entries : goal.decreases-loop-entries
decreases-loop-entries l = length l.rest
