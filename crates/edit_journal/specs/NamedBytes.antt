-- The bytes of named files, of which a name that none has has none.
use Rattle.std.specs.Prelude.{ℕ, List, [], ◌∷◌, bytes_eq, if◌then◌else◌}
use Rattle.plain_io.specs.declared.files.memory.MemoryFile.{MemoryFile}

-- those of the first file of that name
abbrev pub bytes_of : List MemoryFile → List ℕ → List ℕ
bytes_of [] name = []
bytes_of (file ∷ files) name = if bytes_eq file.name name then file.bytes else bytes_of files name
