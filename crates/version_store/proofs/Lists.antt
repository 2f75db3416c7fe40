-- What every press and every seat keeps of its list.
use Rattle.std.proofs.Common.{◌≡◌, ◌≤◌, ◌+◌, ◌++◌, ℕ, suc, List, [], ◌∷◌, length, arith, sym, ◌∙◌, subst}
use Rattle.tgap_model.specs.declared.holds.Holds as Held
use Rattle.tgap_model.specs.declared.keep.Keep as Keeper
use Rattle.version_store.specs.declared.name.StoreName as Named
use Rattle.version_store.specs.declared.seat.SeatOf.{SeatOf}
use Rattle.version_store.specs.declared.press.PressOf.{PressOf}
use Rattle.version_store.specs.Growth.{IsList}
use Rattle.version_store.specs.Publishers.{ArePublishers}
use Rattle.version_store.specs.Store.{press_versions, press_limit, press_publishers, seat_versions, seat_limit, seat_number, AreSeatsFrom}

module _ {V N P : Type 0} {held : Held.Ghosts V} {named : Named.Ghosts N} where
  pub seat_lists : (seat : SeatOf V N P held named) → IsList held.numbered (seat_limit seat) (seat_versions seat)
  seat_lists seat = record {
    numbered = seat.numbered;
    some = (let n = seat.counted.0 in let p = seat.counted.2 in omega arith);
    room = (let n = seat.counted.0 in let l = seat.counted.1 in omega arith);
  }

  -- the limit is that of the store
  pub seat_limited : (seat : SeatOf V N P held named) → seat_limit seat ≡ named.limit
  seat_limited seat = seat.of_store.2

  -- one seat more has the next number
  pub seats_push : (n : ℕ) (seats : List (SeatOf V N P held named)) (seat : SeatOf V N P held named) → AreSeatsFrom n seats → seat_number seat ≡ n + length seats
      → AreSeatsFrom n (seats ++ seat ∷ [])
  seats_push n [] seat are e = (e ∙ omega arith, tt)
  seats_push n (s ∷ seats) seat are e = (are.0, seats_push (suc n) seats seat are.1 (omega arith))

  -- there are at most 64 versions
  pub few_versions : (seat : SeatOf V N P held named) → seat_limit seat ≤ 64
  few_versions seat = seat.sized.3

module _ {V N K P : Type 0} {held : Held.Ghosts V} {named : Named.Ghosts N} {keep : Keeper.Ghosts K} where
  pub press_lists : (press : PressOf V N K P held named keep) → IsList held.numbered (press_limit press) (press_versions press)
  press_lists press = record {
    numbered = press.numbered;
    some = (let n = press.counted.0 in let s = press.counted.2 in omega arith);
    room = (let n = press.counted.0 in let l = press.counted.1 in omega arith);
  }

  -- so is that of the press
  pub press_limited : (press : PressOf V N K P held named keep) → press_limit press ≡ named.limit
  press_limited press = press.of_store.2

  -- a press and a seat of one name have one limit
  pub one_limit : (press : PressOf V N K P held named keep) (seat : SeatOf V N P held named) → press_limit press ≡ seat_limit seat
  one_limit press seat = press.of_store.2 ∙ sym seat.of_store.2

  -- each version but the first has one of the store's seats as its publisher
  pub press_published : (press : PressOf V N K P held named keep)
      → ArePublishers named.seats (press_publishers press) × (length (press_publishers press) ≡ length (press_versions press))
  press_published press =
      (subst (λ (n : ℕ). ArePublishers n (press_publishers press)) press.manned press.published_by.0, press.published_by.1 ∙ sym press.counted.0)
