-- The doors of a harbour in memory.
use Rattle.std.specs.Prelude.{List}
use Rattle.plain_io.specs.declared.harbour.store.DoorStore.{DoorStore}
use Rattle.plain_io.specs.Harbours.{Doors}

-- the doors that are ready to be given
abbrev pub ready_of : {D : Type 0} → DoorStore D → List D
ready_of store = store.doors.items

-- the doors that were given and those that are back
abbrev pub doors_of : {D : Type 0} → DoorStore D → Doors D
doors_of store = record { given = store.given; back = store.back.items }
