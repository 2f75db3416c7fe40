-- The seats that were told and those that are left are all seats. Who was told has seen all, and who was not has published nothing.
use Rattle.std.proofs.Common.{◌≡◌, ◌≤◌, ◌+◌, [], ◌∷◌, ◌++◌, length, All, vec_capacity}
use Rattle.version_store.specs.Publishers.{numbers_of}
use Rattle.version_store.specs.Store.{press_versions, press_publishers, seat_number, seat_numbers, AreSeatsFrom}
use Rattle.map_workers.specs.Seats.{SeesAll}
use Rattle.serving.proofs.later.with_later.Given as goal

abbrev pub invariant-loop-seat : goal.invariant-loop-seat
invariant-loop-seat g l = record {
  room : length l.told.items + length l.seat-iterator.rest.items ≤ vec_capacity l.told;
  some : 1 ≤ length l.told.items;
  many : length l.told.items + length l.seat-iterator.rest.items ≡ length l.fn.seats.items;
  sees : All (SeesAll l.press) l.told.items;
  numbers : AreSeatsFrom 1 (l.told.items ++ l.seat-iterator.rest.items);
  others : All (λ seat. seat_numbers seat ≡ numbers_of (seat_number seat) (0 ∷ [])) l.seat-iterator.rest.items;
  versions : press_versions l.press ≡ press_versions l.initial.press;
  publishers : press_publishers l.press ≡ press_publishers l.initial.press;
}
