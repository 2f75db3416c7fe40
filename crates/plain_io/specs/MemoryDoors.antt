-- What a door in memory holds.
use Rattle.std.specs.Prelude.{◌≡◌, ℕ, Bool, List}
use Rattle.plain_io.specs.declared.calls.Calls.{Calls}
use Rattle.plain_io.specs.declared.door.memory.MemoryDoor.{MemoryDoor}
use Rattle.plain_io.specs.Doors.{Connections}
use Rattle.plain_io.specs.SureDoors as Sure

-- the links that are left to come
abbrev pub left_of : {L : Type 0} {l : _} → MemoryDoor L l → List L
left_of door = Sure.left_of door.door

-- how many links came
abbrev pub came_of : {L : Type 0} {l : _} → MemoryDoor L l → ℕ
came_of door = Sure.came_of door.door

-- the links that came and those that are back
abbrev pub connections_of : {L : Type 0} {l : _} → MemoryDoor L l → Connections L
connections_of door = Sure.connections_of door.door

-- whether a call has answered that no more will come
abbrev pub closed_of : {L : Type 0} {l : _} → MemoryDoor L l → Bool
closed_of door = Sure.closed_of door.door

-- the calls for the next link, and those that fail
abbrev pub calls_of : {L : Type 0} {l : _} → MemoryDoor L l → Calls
calls_of door = door.calls

-- how often a call has failed
abbrev pub faults_of : {L : Type 0} {l : _} → MemoryDoor L l → ℕ
faults_of door = door.faults

-- a door of which no link came, to which none is back, and that has not failed and is not closed
abbrev pub IsUnused : {L : Type 0} {l : _} → MemoryDoor L l → Type 0
IsUnused door = Sure.IsUnused door.door × (faults_of door ≡ 0)
