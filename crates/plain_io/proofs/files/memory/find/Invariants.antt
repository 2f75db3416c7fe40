use Rattle.std.proofs.Common.{◌≡◌, drop}
use Rattle.plain_io.specs.Held.{file_of}
use Rattle.plain_io.proofs.files.memory.find.Given as goal

-- what is found among the files that are left is what is found among all
abbrev pub invariant-loop-file : goal.invariant-loop-file
invariant-loop-file l = file_of (drop l.file-index l.files) l.name ≡ file_of l.files l.name
