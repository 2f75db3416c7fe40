use Rattle.std.proofs.Common.{◌≡◌, drop}
use Rattle.edit_journal.specs.NamedBytes.{bytes_of}
use Rattle.edit_journal.proofs.disks.memory.find.Given as goal

-- what is found among the files that are left is what is found among all
abbrev pub invariant-loop-file : goal.invariant-loop-file
invariant-loop-file l = bytes_of (drop l.file-index l.files) l.name ≡ bytes_of l.files l.name
