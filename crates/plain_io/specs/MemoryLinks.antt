-- What a link in memory holds.
use Rattle.std.specs.Prelude.{ℕ, Bool, List}
use Rattle.plain_io.specs.declared.link.memory.MemoryLink.{MemoryLink}
use Rattle.plain_io.specs.declared.calls.Calls.{Calls}
use Rattle.plain_io.specs.Inputs.{given_of, rest_of, ended_of}
use Rattle.plain_io.specs.Held.{bytes_of, put_faults}
use Rattle.plain_io.specs.Held as Held

-- the bytes that were taken
abbrev pub taken_of : MemoryLink → List ℕ
taken_of link = given_of link.input

-- the bytes that are left to be taken
abbrev pub left_of : MemoryLink → List ℕ
left_of link = rest_of link.input

-- whether a take answered 0
abbrev pub is_ended : MemoryLink → Bool
is_ended link = ended_of link.input

-- how many bytes a take gives at most
abbrev pub step_of : MemoryLink → ℕ
step_of link = link.step

-- the takes that were asked for, and those that fail
abbrev pub takes_of : MemoryLink → Calls
takes_of link = link.takes

-- how often a take has failed
abbrev pub take_faults_of : MemoryLink → ℕ
take_faults_of link = link.take_faults

-- the bytes that were put
abbrev pub told_of : MemoryLink → List ℕ
told_of link = bytes_of link.output

-- the puts that were asked for, and those that fail
abbrev pub puts_of : MemoryLink → Calls
puts_of link = Held.puts_of link.output

-- how often a put has failed
abbrev pub put_faults_of : MemoryLink → ℕ
put_faults_of link = put_faults link.output

-- how many bytes may be put in all
abbrev pub room_of : MemoryLink → ℕ
room_of link = Held.room_of link.output
