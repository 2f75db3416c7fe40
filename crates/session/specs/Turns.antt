-- What becomes of one item.
use Rattle.std.specs.Prelude.{◌≡◌, ℕ, ◌+◌, ◌<◌, ◌≤◌, List, [], ◌∷◌, ◌++◌, length, Some, slice_get, Bool, true, false, Result, Ok, Err, IsOk, ⊤, codes}
use Rattle.tgap_model.specs.declared.failure.Memory.{Memory}
use Rattle.tgap_model.specs.Faults.{Rises, Rose}
use Rattle.session.specs.declared.row.Row.{Row}
use Rattle.session.specs.declared.row.Row.TheVariants.{Behind, Published, NoMemory, Stale as StaleRow, Full as FullRow, Unkept as UnkeptRow, KeeperFull as KeeperFullRow}
use Rattle.line_forms.specs.Texts.{line}
use Rattle.version_store.specs.declared.press.fail.PublishFail.{PublishFail}
use Rattle.version_store.specs.declared.press.fail.PublishFail.TheVariants as fail
use Rattle.session.specs.Answers.{plain, said, numbered}
use Rattle.http_face.specs.Replies.{reply_text, memory_reply}
use Rattle.session.specs.declared.answer.Answer.{Answer}
use Rattle.session.specs.declared.turn.Turned.{Turned}
use Rattle.session.specs.declared.edit.Replies.{Replies}
use Rattle.session.specs.Items.{Asked, Route as RouteAsked}
use Rattle.session.specs.Outcomes.{Holds, answer_of, pin_after, sent}
use Rattle.session.specs.Versions.{Seen, IsPin, SameCounts}
use Rattle.session.specs.declared.turn.Sought.{Sought}
use Rattle.session.specs.declared.turn.Sought.TheVariants.{Found, Behind as BehindNumber}
use Rattle.http_face.specs.declared.request.Route.{Route}
use Rattle.http_face.specs.declared.request.Route.TheVariants as route

-- the batch of the version that an outcome publishes is the body of the request
abbrev pub HasBatch : List (List ℕ) → Row → ℕ → Asked → Type 0
HasBatch batches Published n asked = (batch : List ℕ) × (asked ≡ RouteAsked route.Edit batch) × (slice_get batches n ≡ Some batch)
HasBatch batches other n asked = ⊤

-- The outcome holds over the list as it is now, whatever the client knew of the list before, the batch of a version that it publishes is the
-- body of the request, and the reply is the one of its row.
pub record IsTurned (before now : Seen) (pin pin' : ℕ) (asked : Asked) (close : Bool) (t : Turned) : Type 0 where
  pub holds : (known : ℕ) → known < length before.history
      → Holds t.row now.limit now.history (record { pin = pin; known = known }) asked t.number
  pub batch : HasBatch now.batches t.row t.number asked
  pub answer : Answer
  pub answered : answer_of t.row now.history pin asked t.number ≡ Some answer
  pub reply : t.reply ≡ sent pin' close answer
  pub moved : pin' ≡ pin_after t.row pin t.number

-- how many versions an outcome publishes
abbrev pub publishes : Row → ℕ
publishes Published = 1
publishes other = 0

-- the number of the version that an outcome publishes, where it does
abbrev pub number_published : Row → ℕ → List ℕ
number_published Published n = n ∷ []
number_published other n = []

-- the keeper failed to keep the batch
abbrev pub is_unkept : Row → Bool
is_unkept UnkeptRow = true
is_unkept other = false

-- the keeper had no room for the batch
abbrev pub is_keeper_full : Row → Bool
is_keeper_full KeeperFullRow = true
is_keeper_full other = false

-- the count rises by one where this holds, and else it stays
abbrev pub RisesWhere : Bool → ℕ → ℕ → Type 0
RisesWhere true before now = Rises before now
RisesWhere false before now = now ≡ before

-- what an outcome of this number adds to the counts
pub record CountsRow (row : Row) (number : ℕ) (before now : Seen) : Type 0 where
  pub published : now.published ≡ before.published + publishes row
  pub numbers : now.numbers ≡ before.numbers ++ number_published row number
  pub unkept : RisesWhere (is_unkept row) before.unkept now.unkept
  pub keeper_full : RisesWhere (is_keeper_full row) before.keeper_full now.keeper_full

-- the counts rise by those of the outcome; without an outcome they stay
abbrev pub CountsTurn : Seen → Seen → Result Turned Memory → Type 0
CountsTurn before now (Ok t) = CountsRow t.row t.number before now
CountsTurn before now (Err e) = SameCounts before now

-- the counts after the press was asked to publish the version of this number
abbrev pub CountsPublish : {T : Type 0} → ℕ → Seen → Seen → Result T PublishFail → Type 0
CountsPublish n before now (Ok x) = CountsRow Published n before now
CountsPublish n before now (Err fail.Unkept) = CountsRow UnkeptRow n before now
CountsPublish n before now (Err (fail.KeeperFull limit)) = CountsRow KeeperFullRow n before now
CountsPublish n before now (Err (fail.Stale newest)) = SameCounts before now
CountsPublish n before now (Err (fail.VersionsFull limit)) = SameCounts before now
CountsPublish n before now (Err fail.Memory) = SameCounts before now

-- the number that a client is behind was told by the press
abbrev pub CountsTold : Seen → Seen → Result Turned Memory → Type 0
CountsTold before now (Ok t) = t.row ≡ Behind → Rose (before.tellings t.number) (now.tellings t.number)
CountsTold before now (Err e) = ⊤

-- The version is the newest that is known, and no older than the one that was seen; or the newest was told by the press and is older.
abbrev pub IsSought : Seen → Seen → ℕ → Sought → Type 0
IsSought before now seen (Found pin) = IsPin now.history pin × (pin.number + 1 ≡ length now.history) × (seen ≤ pin.number)
IsSought before now seen (BehindNumber n) = (n + 1 ≡ length now.history) × (n < seen) × Rose (before.tellings n) (now.tellings n)

-- what only reads a version
abbrev pub Reads : Route → Type 0
Reads route.Pin = ⊥
Reads (route.PinSeen seen) = ⊥
Reads route.Edit = ⊥
Reads other = ⊤

-- what is noted and put of an item, where there may have been no memory to answer it
abbrev pub settled : ℕ → Bool → Result Turned Memory → Turned
settled pin close (Ok t) = t
settled pin close (Err e) = record { number = pin; row = NoMemory; reply = reply_text (memory_reply pin close) }

-- what becomes of an edit that is not published
abbrev pub IsCommitRefused : ℕ → Bool → PublishFail → Turned → Type 0
IsCommitRefused pin close (fail.Stale n) t =
    t ≡ record { number = n; row = StaleRow; reply = sent pin close (plain 409 (line (numbered (codes "stale") n))) }
IsCommitRefused pin close (fail.VersionsFull n) t =
    t ≡ record { number = n; row = FullRow; reply = sent pin close (plain 507 (line (numbered (codes "versions full") n))) }
IsCommitRefused pin close fail.Unkept t =
    t ≡ record { number = pin; row = UnkeptRow; reply = sent pin close (plain 500 (line (codes "journal fault" ∷ []))) }
IsCommitRefused pin close (fail.KeeperFull n) t =
    t ≡ record { number = pin; row = KeeperFullRow; reply = sent pin close (plain 507 (line (numbered (codes "journal full") 67108864))) }
IsCommitRefused pin close fail.Memory t = ⊥

-- the replies to a good edit of the version of this number: where it is published, and where the keeper refuses its batch
pub record AreReplies (pin : ℕ) (close : Bool) (r : Replies) : Type 0 where
  pub published : r.published ≡ sent (pin + 1) close (said 200 (numbered (codes "published") (pin + 1)))
  pub unkept : r.unkept ≡ sent pin close (said 500 (codes "journal fault" ∷ []))
  pub keeper_full : r.keeper_full ≡ sent pin close (said 507 (numbered (codes "journal full") 67108864))

-- what the keeper refused is told, whatever memory is wanting
abbrev pub IsNeverLost : PublishFail → Result Turned Memory → Type 0
IsNeverLost fail.Unkept r = IsOk r
IsNeverLost (fail.KeeperFull limit) r = IsOk r
IsNeverLost (fail.Stale newest) r = ⊤
IsNeverLost (fail.VersionsFull limit) r = ⊤
IsNeverLost fail.Memory r = ⊤
