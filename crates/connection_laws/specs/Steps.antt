-- A connection as the one actor of a machine of versions, in which others publish between its steps.
use Rattle.std.specs.Prelude.{◌≡◌, ℕ, ◌+◌, ◌<◌, ◌≤◌, Bool, List, [], ◌∷◌, length, take, Option, Some, None, ⊤}
use Rattle.tgap_model.specs.Base.{BaseMap}
use Rattle.plain_io.specs.declared.connection.ConnectionEnd.{ConnectionEnd}
use Rattle.version_store.specs.declared.event.Event.{Event}
use Rattle.version_store.specs.declared.event.Event.TheVariants as event
use Rattle.version_store.specs.declared.event.Outcome.{Outcome}
use Rattle.version_store.specs.declared.event.Outcome.TheVariants as outcome
use Rattle.version_store.specs.Machine.{Versions, step}
use Rattle.session.specs.declared.row.Row.{Row}
use Rattle.session.specs.declared.row.Row.TheVariants.{Read, Pinned, SeenPinned, Behind, Refused, Published, Stale, Full, NoMemory, Unkept, KeeperFull}
use Rattle.session.specs.Items.{Asked, asked_of}
use Rattle.session.specs.Outcomes.{Standing, Turn, starting, next, IsGoodEdit, Outcomes}
use Rattle.session.specs.Versions.{Seen}
use Rattle.session.specs.Conversation.{Conversation}

-- the machine when the first versions of a list are there, so many of them, and its one actor has pinned one
abbrev pub machine_at : ℕ → List BaseMap → ℕ → ℕ → Versions
machine_at limit history count pin = record { history = take count history; limit = limit; pins = Some pin ∷ [] }

-- the map that is made of the pinned version by the edits that are asked for, which has no fault, is committed
abbrev pub CommitsEdited : List BaseMap → ℕ → Asked → Event → Type 0
CommitsEdited history pin asked e = (made : BaseMap) × IsGoodEdit history pin asked made × (e ≡ event.Commit 0 made)

-- The event that an outcome is. Where the pin stays and nothing is committed, the version that is pinned is read. That a keeper refuses the
-- batch is no event.
abbrev pub IsEvent : Row → List BaseMap → ℕ → Asked → Event → Type 0
IsEvent Pinned history pin asked e = e ≡ event.Pin 0
IsEvent SeenPinned history pin asked e = e ≡ event.Pin 0
IsEvent Published history pin asked e = CommitsEdited history pin asked e
IsEvent Stale history pin asked e = CommitsEdited history pin asked e
IsEvent Full history pin asked e = CommitsEdited history pin asked e
IsEvent Read history pin asked e = e ≡ event.Read 0
IsEvent Behind history pin asked e = e ≡ event.Read 0
IsEvent Refused history pin asked e = e ≡ event.Read 0
IsEvent NoMemory history pin asked e = e ≡ event.Read 0
IsEvent Unkept history pin asked e = ⊥
IsEvent KeeperFull history pin asked e = ⊥

-- what the machine answers where the pin and the number of the outcome are these
abbrev pub answer_of_machine : Row → ℕ → ℕ → Outcome
answer_of_machine Pinned pin n = outcome.Pinned n
answer_of_machine SeenPinned pin n = outcome.Pinned n
answer_of_machine Published pin n = outcome.Published n
answer_of_machine Stale pin n = outcome.Stale n
answer_of_machine Full pin n = outcome.Full n
answer_of_machine Read pin n = outcome.At n
answer_of_machine Behind pin n = outcome.At pin
answer_of_machine Refused pin n = outcome.At n
answer_of_machine NoMemory pin n = outcome.At n
answer_of_machine Unkept pin n = outcome.Idle
answer_of_machine KeeperFull pin n = outcome.Idle

-- One outcome: when it comes, there are at least the versions that the client knows of. The step of the machine leaves as many as it knows
-- of afterwards, with the pin that the connection has then, which is no older. A client that is behind is told the newest version.
pub record IsStep (limit : ℕ) (history : List BaseMap) (s : Standing) (t : Turn) : Type 0 where
  pub count : ℕ
  pub event : Event
  pub known : s.known < count
  pub there : count ≤ length history
  pub event_is : IsEvent t.row history s.pin (asked_of t.item) event
  pub step_is : step (machine_at limit history count s.pin) event
      ≡ (machine_at limit history ((next s t).known + 1) (next s t).pin, answer_of_machine t.row s.pin t.number)
  pub newest : t.row ≡ Behind → t.number + 1 ≡ count
  pub no_older : s.pin ≤ (next s t).pin

-- An outcome is a step, but for an edit that a keeper refuses: that is no event, and the connection stands where it stood.
abbrev pub IsStepOrNone : Row → ℕ → List BaseMap → Standing → Turn → Type 0
IsStepOrNone Unkept limit history s t = next s t ≡ s
IsStepOrNone KeeperFull limit history s t = next s t ≡ s
IsStepOrNone Read limit history s t = IsStep limit history s t
IsStepOrNone Pinned limit history s t = IsStep limit history s t
IsStepOrNone SeenPinned limit history s t = IsStep limit history s t
IsStepOrNone Behind limit history s t = IsStep limit history s t
IsStepOrNone Refused limit history s t = IsStep limit history s t
IsStepOrNone Published limit history s t = IsStep limit history s t
IsStepOrNone Stale limit history s t = IsStep limit history s t
IsStepOrNone Full limit history s t = IsStep limit history s t
IsStepOrNone NoMemory limit history s t = IsStep limit history s t

-- each outcome is a step or none, where the connection stands after those before it
abbrev pub AreSteps : ℕ → List BaseMap → Standing → List Turn → Type 0
AreSteps limit history s [] = ⊤
AreSteps limit history s (t ∷ turns) = IsStepOrNone t.row limit history s t × AreSteps limit history (next s t) turns

-- so are those that hold over a list of which there is no more than there may be, where the pin is known and there
abbrev pub OutcomesAreSteps : Type 0
OutcomesAreSteps =
    (limit : ℕ) (history : List BaseMap) (s : Standing) (turns : List Turn) → length history ≤ limit → s.pin ≤ s.known → s.known < length history
    → Outcomes limit history s turns → AreSteps limit history s turns

-- the machine when the first versions of a list are there, so many of them, and its one actor has pinned none
abbrev pub machine_before : ℕ → List BaseMap → ℕ → Versions
machine_before limit history count = record { history = take count history; limit = limit; pins = None ∷ [] }

-- The first pin of a connection: when it comes, the versions up to the one of this number are there, which is pinned and told.
pub record IsFirstPin (limit : ℕ) (history : List BaseMap) (first : ℕ) : Type 0 where
  pub there : first < length history
  pub step_is : step (machine_before limit history (first + 1)) (event.Pin 0) ≡ (machine_at limit history (first + 1) first, outcome.Pinned first)

-- the first pin of any connection that was served is a step, and so is each outcome that follows
abbrev pub ConversationsAreSteps : Type 0
ConversationsAreSteps =
    (before now : Seen) (taken taken' told told' : Option (List ℕ)) (ended : Bool) (end : ConnectionEnd)
    (c : Conversation before now taken taken' told told' ended end)
    → IsFirstPin now.limit now.history end.first × AreSteps now.limit now.history (starting end.first) c.turns
