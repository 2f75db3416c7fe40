-- What the objects in memory hold.
use Rattle.std.specs.Prelude.{ℕ, List, [], ◌∷◌, bytes_eq, if◌then◌else◌}
use Rattle.plain_io.specs.declared.files.Which.{Which}
use Rattle.plain_io.specs.declared.files.Which.TheVariants.{Map, Rules, Slice, Packet}
use Rattle.plain_io.specs.declared.files.FaultCounts.{FaultCounts}
use Rattle.plain_io.specs.declared.files.memory.MemoryFile.{MemoryFile}
use Rattle.plain_io.specs.declared.files.memory.MemoryFiles.{MemoryFiles}
use Rattle.plain_io.specs.declared.files.sure.FileTexts.{FileTexts}
use Rattle.plain_io.specs.declared.sink.memory.MemorySink.{MemorySink}
use Rattle.plain_io.specs.declared.calls.Calls.{Calls}
use Rattle.plain_io.specs.Loads.{Told, Missing, Holds}

-- the count of one kind of file
abbrev pub count_of : FaultCounts → Which → ℕ
count_of counts Map = counts.map
count_of counts Rules = counts.rules
count_of counts Slice = counts.slice
count_of counts Packet = counts.packet

-- the first file of that name
abbrev pub file_of : List MemoryFile → List ℕ → Told
file_of [] name = Missing
file_of (file ∷ files) name = if bytes_eq file.name name then Holds file.bytes else file_of files name

-- what files in memory tell of a name
abbrev pub told_of : MemoryFiles → List ℕ → Told
told_of files name = file_of files.files name

-- how often a load of one kind has failed
abbrev pub load_faults : MemoryFiles → Which → ℕ
load_faults files which = count_of files.faults which

-- the text of one kind of file
abbrev pub text_of : FileTexts → Which → List ℕ
text_of texts Map = texts.map
text_of texts Rules = texts.rules
text_of texts Slice = texts.slice
text_of texts Packet = texts.packet

-- the loads that were asked for, and those that fail
abbrev pub loads_of : MemoryFiles → Calls
loads_of files = files.calls

-- the puts that were asked for, and those that fail
abbrev pub puts_of : MemorySink → Calls
puts_of sink = sink.calls

-- how many bytes may be put in all
abbrev pub room_of : MemorySink → ℕ
room_of sink = sink.room

-- the bytes that were put
abbrev pub bytes_of : MemorySink → List ℕ
bytes_of sink = sink.bytes.items

-- how often a put has failed
abbrev pub put_faults : MemorySink → ℕ
put_faults sink = sink.faults
