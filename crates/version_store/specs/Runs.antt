-- Laws of the machine over any list of events.
use Rattle.std.specs.Prelude.{◌≡◌, ◌<◌, ◌≤◌, ◌↔◌, ℕ, List, [], ◌∷◌, ◌++◌, length, Option, Some, ◌==◌, if◌then◌else◌}
use Rattle.version_store.specs.declared.event.Event.{Event}
use Rattle.version_store.specs.declared.event.Event.TheVariants.{Commit, Pin, Read}
use Rattle.version_store.specs.declared.event.Outcome.{Outcome}
use Rattle.version_store.specs.declared.event.Outcome.TheVariants.{Published, Pinned, At}
use Rattle.tgap_model.specs.Base.{BaseMap}
use Rattle.version_store.specs.Machine.{Versions, newest, pin_of, step}

-- the versions at the start and after each event
abbrev pub states : Versions → List Event → List Versions
states v [] = v ∷ []
states v (event ∷ events) = v ∷ states (step v event).0 events

-- an event, the versions before it, and what comes of it
pub record Turn : Type 0 where
  pub before : Versions
  pub event : Event
  pub outcome : Outcome

abbrev pub turns : Versions → List Event → List Turn
turns v [] = []
turns v (event ∷ events) = record { before = v; event = event; outcome = (step v event).1 } ∷ turns (step v event).0 events

-- ---- the history

-- the map that a turn publishes, in front of others
abbrev pub publish : Event → Outcome → List BaseMap → List BaseMap
publish (Commit actor base) (Published n) maps = base ∷ maps
publish event outcome maps = maps

-- the maps that are published, in order
abbrev pub published_maps : List Turn → List BaseMap
published_maps [] = []
published_maps (t ∷ ts) = publish t.event t.outcome (published_maps ts)

-- ---- commits

-- A commit becomes a version exactly where its actor has pinned the newest one and there is room for one more.
abbrev pub IsPublishedRight : Turn → Type 0
IsPublishedRight t =
    (actor : ℕ) (base : BaseMap) → t.event ≡ Commit actor base
    → ((n : ℕ) × (t.outcome ≡ Published n)) ↔ ((pin_of t.before actor ≡ Some (newest t.before)) × (length t.before.history < t.before.limit))

-- ---- reads

-- the number that an actor pinned last, where `last` is what it had pinned before: by a pin, or by a commit that was published
abbrev pub pinned_by : ℕ → Option ℕ → Event → Outcome → Option ℕ
pinned_by actor last (Pin a) (Pinned n) = if a == actor then Some n else last
pinned_by actor last (Commit a base) (Published n) = if a == actor then Some n else last
pinned_by actor last event outcome = last

abbrev pub last_pinned : ℕ → Option ℕ → List Turn → Option ℕ
last_pinned actor last [] = last
last_pinned actor last (t ∷ ts) = last_pinned actor (pinned_by actor last t.event t.outcome) ts

-- An actor with a pin reads from the version that it pinned last, by a pin or a published commit, or before these turns.
abbrev pub ReadsRight : Versions → List Turn → Type 0
ReadsRight v ts =
    (earlier later : List Turn) (t : Turn) (actor n : ℕ) → ts ≡ earlier ++ t ∷ later → t.event ≡ Read actor → pin_of t.before actor ≡ Some n
    → (t.outcome ≡ At n) × (last_pinned actor (pin_of v actor) earlier ≡ Some n)

-- ---- pins

-- where an actor has a pin at an earlier moment and at a later one, the later is no older version
abbrev pub KeepsPins : Versions → Versions → Type 0
KeepsPins earlier later = (actor n m : ℕ) → pin_of earlier actor ≡ Some n → pin_of later actor ≡ Some m → n ≤ m
