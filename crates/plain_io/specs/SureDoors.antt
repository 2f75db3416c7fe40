-- What a door that never fails holds.
use Rattle.std.specs.Prelude.{◌≡◌, ℕ, Bool, false, List, [], length}
use Rattle.plain_io.specs.declared.door.sure.SureDoor.{SureDoor}
use Rattle.plain_io.specs.Doors.{Connections}

-- the links that are left to come
abbrev pub left_of : {L : Type 0} {l : _} → SureDoor L l → List L
left_of door = door.links.items

-- how many links came
abbrev pub came_of : {L : Type 0} {l : _} → SureDoor L l → ℕ
came_of door = door.came

-- the links that came and those that are back
abbrev pub connections_of : {L : Type 0} {l : _} → SureDoor L l → Connections L
connections_of door = record { came = door.came; back = door.back.items }

-- whether a call has answered that no more will come
abbrev pub closed_of : {L : Type 0} {l : _} → SureDoor L l → Bool
closed_of door = door.closed

-- how often a call has failed: never
abbrev pub faults_of : {L : Type 0} {l : _} → SureDoor L l → ℕ
faults_of door = 0

-- a door of which no link came, to which none is back, and that is not closed
abbrev pub IsUnused : {L : Type 0} {l : _} → SureDoor L l → Type 0
IsUnused door = (came_of door ≡ 0) × (length door.back.items ≡ 0) × (closed_of door ≡ false)

-- a door that no link is left to come of
abbrev pub IsEmpty : {L : Type 0} {l : _} → SureDoor L l → Type 0
IsEmpty door = left_of door ≡ []
