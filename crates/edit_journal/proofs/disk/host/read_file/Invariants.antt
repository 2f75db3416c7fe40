use Rattle.std.proofs.Common.{◌≤◌, length}
use Rattle.edit_journal.proofs.disk.host.read_file.Given as goal

abbrev pub invariant-loop : goal.invariant-loop
invariant-loop l = length l.text ≤ l.max
