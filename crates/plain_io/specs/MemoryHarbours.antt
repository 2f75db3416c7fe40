-- What a harbour in memory holds.
use Rattle.std.specs.Prelude.{ℕ, List}
use Rattle.plain_io.specs.declared.calls.Calls.{Calls}
use Rattle.plain_io.specs.declared.door.memory.MemoryDoor.{MemoryDoor}
use Rattle.plain_io.specs.declared.harbour.memory.MemoryHarbour.{MemoryHarbour}
use Rattle.plain_io.specs.DoorStores.{ready_of, doors_of}
use Rattle.plain_io.specs.Harbours.{Doors}

-- the doors that are ready to be given
abbrev pub left_of : {L : Type 0} {l : _} → MemoryHarbour L l → List (MemoryDoor L l)
left_of harbour = ready_of harbour.store

-- how many doors were given
abbrev pub given_of : {L : Type 0} {l : _} → MemoryHarbour L l → ℕ
given_of harbour = (doors_of harbour.store).given

-- the doors that were given and those that are back
abbrev pub told_of : {L : Type 0} {l : _} → MemoryHarbour L l → Doors (MemoryDoor L l)
told_of harbour = doors_of harbour.store

-- the calls for doors, and those that fail
abbrev pub calls_of : {L : Type 0} {l : _} → MemoryHarbour L l → Calls
calls_of harbour = harbour.calls

-- how often no doors could be given, and how many doors with a fault came back
abbrev pub faults_of : {L : Type 0} {l : _} → MemoryHarbour L l → ℕ
faults_of harbour = harbour.faults
