-- How far a connection has come.
use Rattle.std.specs.Prelude.{◌≡◌, ℕ, ◌+◌, ◌-◌, ◌^◌, ◌<◌, ◌≤◌, ◌==◌, ◌&&◌, min, Bool, true, false, List, [], ◌∷◌, ◌++◌, map, flat_map, sum_by, count_by, length, Option, Result, All}
use Rattle.plain_io.specs.Puts.{Puts}
use Rattle.http_face.specs.Heads.{headers_of, closes}
use Rattle.session.specs.declared.row.Row.{Row}
use Rattle.session.specs.declared.row.Row.TheVariants.{Behind}
use Rattle.version_store.specs.declared.pin.Pin.{Pin}
use Rattle.map_version.specs.declared.version.Version.{Version}
use Rattle.session.specs.declared.turn.Turned.{Turned}
use Rattle.session.specs.Reading.{Follows}
use Rattle.session.specs.Items.{Item, Request, Fault, IsRequest, IsItem, item_bytes, is_closing, is_fault, asked_of}
use Rattle.session.specs.Outcomes.{Turn, starting, standing, place_of, Outcomes, replies}
use Rattle.session.specs.Versions.{Seen, Continues, IsPin}
use Rattle.session.specs.Turns.{HasBatch, IsTurned, publishes, number_published, is_unkept, is_keeper_full, CountsRow}

-- the items that were handled
abbrev pub items_of : List Turn → List Item
items_of turns = map (λ t. t.item) turns

-- the numbers that the replies rest on, and the places of the outcomes in the table
abbrev pub numbers_of : List Turn → List ℕ
numbers_of turns = map (λ t. t.number) turns

abbrev pub places_of : List Turn → List ℕ
places_of turns = map (λ t. place_of t.row) turns

-- what is noted of the items that were handled: the numbers, and the places
pub record Noted : Type 0 where
  pub numbers : List ℕ
  pub rows : List ℕ

-- the client was told that it is behind, and that this version is the newest
abbrev pub is_behind : Row → Bool
is_behind Behind = true
is_behind other = false

abbrev pub tells_behind : ℕ → Turn → Bool
tells_behind n t = is_behind t.row && (t.number == n)

-- how many versions were published
abbrev pub published_count : List Turn → ℕ
published_count turns = sum_by (λ t. publishes t.row) turns

-- their numbers, in order
abbrev pub published_numbers : List Turn → List ℕ
published_numbers turns = flat_map (λ t. number_published t.row t.number) turns

-- how many edits were not published, since the keeper failed to keep their batches, and how many, since it had no room for them
abbrev pub unkept_count : List Turn → ℕ
unkept_count turns = count_by (λ t. is_unkept t.row) turns

abbrev pub keeper_full_count : List Turn → ℕ
keeper_full_count turns = count_by (λ t. is_keeper_full t.row) turns

-- The counts after some items. Those of what the keeper refused stay where they stand at their type's end.
pub record CountsTurns (before now : Seen) (turns : List Turn) : Type 0 where
  pub published : now.published ≡ before.published + published_count turns
  pub numbers : now.numbers ≡ before.numbers ++ published_numbers turns
  pub unkept : min now.unkept (2 ^ 64 - 1) ≡ min (before.unkept + unkept_count turns) (2 ^ 64 - 1)
  pub keeper_full : min now.keeper_full (2 ^ 64 - 1) ≡ min (before.keeper_full + keeper_full_count turns) (2 ^ 64 - 1)

-- the batch of each version that was published is the body of its request
abbrev pub HaveBatches : List (List ℕ) → List Turn → Type 0
HaveBatches batches turns = All (λ t. HasBatch batches t.row t.number (asked_of t.item)) turns

-- each count of tellings rose at least by the replies that name the number; one that stands at its type's end says no more
abbrev pub ToldEnough : Seen → Seen → List Turn → Type 0
ToldEnough before now turns = (n : ℕ) → min (before.tellings n + count_by (tells_behind n) turns) (2 ^ 64 - 1) ≤ now.tellings n

-- a request after which the connection goes on
abbrev pub IsGoing : Item → Type 0
IsGoing (Request head body) = IsRequest head body × (closes head.minor (headers_of head) ≡ false)
IsGoing (Fault status) = ⊥

-- some items were handled, and the connection goes on
pub record Progress
    (first : ℕ) (before now : Seen) (taken taken' told told' : Option (List ℕ))
    (pin : Pin Version) (held : List ℕ) (noted : Noted) (count : ℕ) : Type 0 where
  pub turns : List Turn
  pub read : List ℕ
  pub written : List ℕ
  pub counted : length turns ≡ count
  pub there : first < length now.history
  pub taken_is : Follows taken taken' read
  pub told_is : Follows told told' written
  pub split : read ≡ flat_map item_bytes (items_of turns) ++ held
  pub going : All IsGoing (items_of turns)
  pub outcomes : Outcomes now.limit now.history (starting first) turns
  pub replies_are : written ≡ replies now.history (starting first) 0 turns
  pub pin_is : (standing (starting first) turns).pin ≡ pin.number
  pub known : (standing (starting first) turns).known < length now.history
  pub numbers : noted.numbers ≡ numbers_of turns
  pub rows : noted.rows ≡ places_of turns
  pub holds : IsPin now.history pin
  pub continues : Continues before now
  pub counts : CountsTurns before now turns
  pub batches : HaveBatches now.batches turns
  pub tellings : ToldEnough before now turns

-- an item was handled: what became of it is noted, and the reply was put
pub record Exchange
    (before now : Seen) (pin pin' : Pin Version) (held held' : List ℕ) (noted noted' : Noted) (told told' : Option (List ℕ))
    (faulty closing final : Bool) {T E : Type 0} (put : Result T E) : Type 0 where
  pub item : Item
  pub turned : Turned
  pub bytes : held ≡ item_bytes item ++ held'
  pub item_is : IsItem held' item
  pub faulty_is : faulty ≡ is_fault item
  pub closing_is : closing ≡ is_closing item
  pub turned_is : IsTurned before now pin.number pin'.number (asked_of item) final turned
  pub put_is : Puts told told' turned.reply put
  pub numbers : noted'.numbers ≡ noted.numbers ++ turned.number ∷ []
  pub rows : noted'.rows ≡ noted.rows ++ place_of turned.row ∷ []
  pub holds : IsPin now.history pin'
  pub continues : Continues before now
  pub counts : CountsRow turned.row turned.number before now
  pub tellings : ToldEnough before now (record { item = item; number = turned.number; row = turned.row } ∷ [])
