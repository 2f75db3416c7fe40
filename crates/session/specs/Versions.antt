-- The versions of a map that a connection sees.
use Rattle.std.specs.Prelude.{◌≡◌, ℕ, ◌+◌, ◌^◌, ◌<◌, ◌≤◌, List, ◌++◌, length, map, Some, slice_get, slice_index}
use Rattle.std.proofs.Common.{arith}
use Rattle.std.proofs.lemmas.List.{length-map}
use Rattle.std.specs.Arc.{arc_value}
use Rattle.tgap_model.specs.Base.{BaseMap}
use Rattle.tgap_model.specs.declared.holds.Holds as Held
use Rattle.version_store.specs.declared.pin.Pin.{Pin}
use Rattle.version_store.specs.declared.name.StoreName as Named
use Rattle.version_store.specs.declared.seat.SeatOf.{SeatOf}
use Rattle.version_store.specs.Store.{seat_versions, seat_limit, seat_number, seat_numbers, published_count, unkept_count, keeper_full_count, tellings}
use Rattle.version_store.proofs.Lists.{seat_lists}
use Rattle.map_version.specs.declared.version.Version.{Version}

-- What is seen of a store, and of which of its seats: the maps of the versions that are known, by number, and the batches of edits that made
-- them; how many versions
-- there may be; how many were published here, and their numbers, in order; how many were not, since the keeper failed to keep their batches,
-- and how many, since it had no room for them; and for each number how often the press told that it is the newest
pub record Seen : Type 0 where
  pub seat : ℕ
  pub history : List BaseMap
  pub batches : List (List ℕ)
  pub limit : ℕ
  pub published : ℕ
  pub numbers : List ℕ
  pub unkept : ℕ
  pub keeper_full : ℕ
  pub tellings : ℕ → ℕ

-- what a seat of a store tells: the versions that it has seen, the store's limit, and its counts
abbrev pub seen_of : {N P : Type 0} {held : Held.Ghosts Version} {named : Named.Ghosts N} → SeatOf Version N P held named → Seen
seen_of seat = record {
  seat = seat_number seat;
  history = map (λ v. v.built) (seat_versions seat);
  batches = map (λ v. v.batch) (seat_versions seat);
  limit = seat_limit seat;
  published = published_count seat;
  numbers = seat_numbers seat;
  unkept = unkept_count seat;
  keeper_full = keeper_full_count seat;
  tellings = λ n. slice_index (tellings seat) n;
}

-- a seat has seen no more versions than there may be
pub seat_room : {N P : Type 0} {held : Held.Ghosts Version} {named : Named.Ghosts N} (seat : SeatOf Version N P held named)
    → length (seen_of seat).history ≤ (seen_of seat).limit
seat_room seat =
    let many = length-map (seat_versions seat) (λ (v : Version). v.built) in
    let few = (seat_lists seat).room in
    omega (arith, many, few)

-- a longer list
abbrev pub Extends : {X : Type 0} → List X → List X → Type 0
Extends {X = X} before now = (more : List X) × (now ≡ before ++ more)

-- the list only grows, and the counts of tellings only rise
pub record Continues (before now : Seen) : Type 0 where
  pub seat : now.seat ≡ before.seat
  pub history : Extends before.history now.history
  pub batches : Extends before.batches now.batches
  pub limit : now.limit ≡ before.limit
  pub tellings : (n : ℕ) → before.tellings n ≤ now.tellings n

-- nothing was published, and nothing that was to be published was refused by the keeper
pub record SameCounts (before now : Seen) : Type 0 where
  pub published : now.published ≡ before.published
  pub numbers : now.numbers ≡ before.numbers
  pub unkept : now.unkept ≡ before.unkept
  pub keeper_full : now.keeper_full ≡ before.keeper_full

-- the version that is held is the one of its number
pub record IsPin (history : List BaseMap) (pin : Pin Version) : Type 0 where
  pub there : slice_get history pin.number ≡ Some (arc_value pin.held).built
  pub number : (arc_value pin.held).number ≡ pin.number
  pub small : pin.number < 64
