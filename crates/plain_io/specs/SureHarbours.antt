-- What a harbour that never fails holds.
use Rattle.std.specs.Prelude.{ℕ, List}
use Rattle.plain_io.specs.declared.door.sure.SureDoor.{SureDoor}
use Rattle.plain_io.specs.declared.harbour.sure.SureHarbour.{SureHarbour}
use Rattle.plain_io.specs.DoorStores.{ready_of, doors_of}
use Rattle.plain_io.specs.Harbours.{Doors}

-- the doors that are ready to be given
abbrev pub left_of : {L : Type 0} {l : _} → SureHarbour L l → List (SureDoor L l)
left_of harbour = ready_of harbour.store

-- how many doors were given
abbrev pub given_of : {L : Type 0} {l : _} → SureHarbour L l → ℕ
given_of harbour = (doors_of harbour.store).given

-- the doors that were given and those that are back
abbrev pub told_of : {L : Type 0} {l : _} → SureHarbour L l → Doors (SureDoor L l)
told_of harbour = doors_of harbour.store

-- how often no doors could be given, and how many doors with a fault came back: never and none
abbrev pub faults_of : {L : Type 0} {l : _} → SureHarbour L l → ℕ
faults_of harbour = 0
