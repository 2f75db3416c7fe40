use Rattle.std.proofs.Common.{◌≤◌, length}
use Rattle.plain_io.proofs.files.host.read_file.Given as goal

abbrev pub invariant-loop : goal.invariant-loop
invariant-loop g l = length l.text ≤ l.max
