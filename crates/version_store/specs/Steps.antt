-- What each step on the store's word tells its place.
use Rattle.std.specs.Prelude.{◌≡◌, ◌<◌, ◌≤◌, ◌+◌, ◌-◌, ◌*◌, ℕ, [], ◌∷◌, ◌++◌, length, Some, slice_get}
use Rattle.std.specs.Arc.{arc_value}
use Rattle.std.specs.declared.alloc.Global.{Global}
use Rattle.std.specs.declared.sync.Arc.{Arc}
use Rattle.atomic_table.specs.Seated.{TableId}
use Rattle.atomic_table.specs.Table.{Me, Step, rest}
use Rattle.atomic_table.specs.declared.shared.Seat.{Seat as Place}
use Rattle.version_store.specs.declared.known.Known.{Known}
use Rattle.version_store.specs.Growth.{IsPrefix, AreNumbered}
use Rattle.version_store.specs.Publishers.{numbers_of}
use Rattle.version_store.specs.Rule.{Slot}

-- a place: what it knows, and the slots that it has taken
abbrev pub Holder : Type 0 → Type 0
Holder V = Me (Slot V) (Known V)

module _ {V : Type 0} where
  -- a seat sees the list, and takes the newest version where that is new to it
  pub record Sees (number : V → ℕ) (m : Holder V) (found : ℕ) (n : Holder V) : Type 0 where
    pub same : n.0 ≡ record m.0 { list = n.0.list }
    pub grows : IsPrefix m.0.list n.0.list
    pub told : IsPrefix m.0.told n.0.list
    pub count : length n.0.list ≡ found
    pub room : found ≤ m.0.limit
    pub numbered : AreNumbered number n.0.list
    pub takes : length m.0.list < found
        → (owner : Arc V Global) × (slice_get n.0.list (found - 1) ≡ Some (arc_value owner)) × (n.1 ≡ (16 * (found - 1) + (m.0.role - 2), Some owner) ∷ m.1)
    pub keeps : found ≤ length m.0.list → n ≡ m

  abbrev pub sees : (V → ℕ) → Step (Slot V) → Holder V → ℕ → Holder V → Type 0
  sees number st m found n = Sees number m found n

  -- the press compares its list with what it was told, and its publishers with the versions of the name in which it publishes
  abbrev pub compares : Step (Slot V) → Holder V → ℕ → Holder V → Type 0
  compares st m found n = (n ≡ m) × IsPrefix m.0.told m.0.list × (0 < m.0.publisher → m.0.numbers ≡ numbers_of m.0.publisher m.0.publishers)

  -- the press takes the first slot that is not filled
  abbrev pub lifts : Step (Slot V) → Holder V → ℕ → Holder V → Type 0
  lifts st m found n = (value : Slot V) × (n ≡ (record m.0 { out = 1 }, (m.0.filled, value) ∷ m.1))

  -- it gives it back, filled
  abbrev pub lays : Step (Slot V) → Holder V → ℕ → Holder V → Type 0
  lays st m found n = (owner : Arc V Global) × (m.1 ≡ (m.0.filled, Some owner) ∷ rest m.1)
      × (n ≡ (record m.0 { filled = m.0.filled + 1; out = 0; next = arc_value owner ∷ [] }, rest m.1))

  -- the press publishes the version with which the slots are filled, in nobody's name or in that of one of its seats
  abbrev pub raises : Step (Slot V) → Holder V → ℕ → Holder V → Type 0
  raises st m count n =
      (n ≡ (
        record m.0 {
          filled = 16 * count;
          list = m.0.list ++ m.0.next;
          numbers = m.0.numbers ++ length m.0.list ∷ [];
          publishers = m.0.publishers ++ m.0.publisher ∷ [];
        },
        m.1,
      )) × (m.0.publisher ≤ m.0.seats)

  -- no slot is with the press
  abbrev pub IsFree : Holder V → Type 0
  IsFree m = (m.0.role ≡ 1) × (m.0.out ≡ 0) × (m.1 ≡ [])

  -- the place is one of a store with this limit
  abbrev pub IsOn : TableId → ℕ → Place (Slot V) (Known V) → Type 0
  IsOn store limit place = (place.table_id ≡ store) × (store.words ≡ 1) × (store.slots ≡ 16 * limit)
