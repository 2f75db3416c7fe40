use Rattle.std.proofs.Common.{◌≡◌, [], All, length}
use Rattle.plain_io.specs.SureDoors.{IsUnused, IsEmpty}
use Rattle.plain_io.specs.Harbours.{GivesFirst}
use Rattle.plain_io.specs.DoorStores.{ready_of, doors_of}
use Rattle.plain_io.proofs.harbour.sure.fill.Given as goal

-- the doors so far are unused, and those that were made are empty
abbrev pub invariant-loop : goal.invariant-loop
invariant-loop g l = record {
  unused : All IsUnused (ready_of l.store);
  more : GivesFirst IsEmpty [] (ready_of l.fn.store) (ready_of l.store);
  told : doors_of l.store ≡ doors_of l.fn.store;
  count : length (ready_of l.store) ≡ l.counter;
}
