-- What a clause says of a store, of its press and of its seats.
use Rattle.std.specs.Prelude.{◌≡◌, ◌+◌, ◌-◌, ◌^◌, ℕ, suc, List, [], ◌∷◌, length, min, replicate, Some, slice_get, slice_index, slice_set, ⊤}
use Rattle.std.specs.Arc.{arc_value}
use Rattle.atomic_table.specs.Seated.{TableId}
use Rattle.tgap_model.specs.declared.holds.Holds as Held
use Rattle.tgap_model.specs.declared.keep.Keep as Keeper
use Rattle.version_store.specs.declared.name.StoreName as Named
use Rattle.version_store.specs.declared.seat.SeatOf.{SeatOf}
use Rattle.version_store.specs.declared.press.PressOf.{PressOf}
use Rattle.version_store.specs.declared.fresh.FreshOf.{FreshOf}
use Rattle.version_store.specs.declared.pin.Pin.{Pin}

module _ {V P : Type 0} {held : Held.Ghosts V} where
  -- of a store without a name: which it is, its first version, how many versions it may have, and how many seats
  abbrev pub fresh_store : FreshOf V P held → TableId
  fresh_store f = f.place.table_id

  abbrev pub fresh_first : FreshOf V P held → V
  fresh_first f = arc_value f.first

  abbrev pub fresh_limit : FreshOf V P held → ℕ
  fresh_limit f = f.limit

  abbrev pub fresh_places : FreshOf V P held → ℕ
  fresh_places f = f.places

module _ {V N K P : Type 0} {held : Held.Ghosts V} {named : Named.Ghosts N} {keep : Keeper.Ghosts K} where
  -- the list of the published versions, as the press knows it: all of them
  abbrev pub press_versions : PressOf V N K P held named keep → List V
  press_versions press = press.place.me.0.list

  -- the publisher of each version of that list: the number of a seat, from 1 on, or 0 for the first one, which nobody has published
  abbrev pub press_publishers : PressOf V N K P held named keep → List ℕ
  press_publishers press = press.place.me.0.publishers

  -- how many seats there are
  abbrev pub press_seats : PressOf V N K P held named keep → ℕ
  press_seats press = press.seats

  -- the seats and the publishers are as before
  abbrev pub KeepsPublishers : PressOf V N K P held named keep → PressOf V N K P held named keep → Type 0
  KeepsPublishers old new = (press_seats new ≡ press_seats old) × (press_publishers new ≡ press_publishers old)

  -- how many versions there may be
  abbrev pub press_limit : PressOf V N K P held named keep → ℕ
  press_limit press = press.limit

  -- the keeper of the batches
  abbrev pub press_keeper : PressOf V N K P held named keep → K
  press_keeper press = press.keeper

module _ {V N P : Type 0} {held : Held.Ghosts V} {named : Named.Ghosts N} where
  -- the list of the versions that the seat has seen
  abbrev pub seat_versions : SeatOf V N P held named → List V
  seat_versions seat = seat.place.me.0.list

  -- the number of the seat, from 1 on
  abbrev pub seat_number : SeatOf V N P held named → ℕ
  seat_number seat = seat.index + 1

  -- the numbers of the versions that the seat has published, in their order
  abbrev pub seat_numbers : SeatOf V N P held named → List ℕ
  seat_numbers seat = seat.place.me.0.numbers

  -- the list of which the press told the seat last
  abbrev pub told_versions : SeatOf V N P held named → List V
  told_versions seat = seat.place.me.0.told

  -- how many versions there may be
  abbrev pub seat_limit : SeatOf V N P held named → ℕ
  seat_limit seat = seat.limit

  -- how many versions the seat has published
  abbrev pub published_count : SeatOf V N P held named → ℕ
  published_count seat = seat.published

  -- how many of its versions were not published, since the keeper failed to keep their batches; a count that stands at 2^64 - 1 stays there
  abbrev pub unkept_count : SeatOf V N P held named → ℕ
  unkept_count seat = seat.unkept

  -- how many were not published, since the keeper had no room for their batches; this count stays at 2^64 - 1 too
  abbrev pub keeper_full_count : SeatOf V N P held named → ℕ
  keeper_full_count seat = seat.keeper_full

  -- for each number from 0 to 63, how many tellings ended there
  abbrev pub tellings : SeatOf V N P held named → List ℕ
  tellings seat = seat.tellings

  -- the seat has published what it had published
  abbrev pub KeepsPublished : SeatOf V N P held named → SeatOf V N P held named → Type 0
  KeepsPublished old new = (seat_number new ≡ seat_number old) × (seat_numbers new ≡ seat_numbers old)

  -- the limit, the number, the numbers of the published versions and all counts are as before
  abbrev pub KeepsCounts : SeatOf V N P held named → SeatOf V N P held named → Type 0
  KeepsCounts old new =
      (seat_limit new ≡ seat_limit old) × (published_count new ≡ published_count old) × (tellings new ≡ tellings old)
      × (unkept_count new ≡ unkept_count old) × (keeper_full_count new ≡ keeper_full_count old) × KeepsPublished old new

  -- a seat that has seen the first version alone, of whose versions none was published or refused, and that was told nothing
  abbrev pub IsNewSeat : V → ℕ → SeatOf V N P held named → Type 0
  IsNewSeat first limit seat =
      (seat_versions seat ≡ first ∷ []) × (seat_limit seat ≡ limit) × (published_count seat ≡ 0) × (tellings seat ≡ replicate 64 0)
      × (unkept_count seat ≡ 0) × (keeper_full_count seat ≡ 0) × (seat_numbers seat ≡ [])

  -- these are the seats from this number on, one after the other
  abbrev pub AreSeatsFrom : ℕ → List (SeatOf V N P held named) → Type 0
  AreSeatsFrom n [] = ⊤
  AreSeatsFrom n (seat ∷ seats) = (seat_number seat ≡ n) × AreSeatsFrom (suc n) seats

-- counts with one more at n, where that is below 2^64
abbrev pub raised : List ℕ → ℕ → List ℕ
raised counts n = slice_set counts n (min (slice_index counts n + 1) (2 ^ 64 - 1))

-- the pin is the last version of the list, with its number
abbrev pub IsLast : {V : Type 0} → (V → ℕ) → List V → Pin V → Type 0
IsLast number list pin = (pin.number + 1 ≡ length list) × (slice_get list pin.number ≡ Some (arc_value pin.held)) × (number (arc_value pin.held) ≡ pin.number)
