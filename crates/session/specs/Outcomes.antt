-- What becomes of the items of a connection: which outcome an item may have over the versions of a map, and the replies.
-- A version is a base map; its number is its place in the history.
use Rattle.std.specs.Prelude.{◌≡◌, ℕ, suc, ◌+◌, ◌≤◌, ◌<◌, Bool, true, false, ◌||◌, ◌==◌, max, List, [], ◌∷◌, ◌++◌, length, Option, Some, None, option_map, slice_get, Ok, IsSome, ⊤, codes, if◌then◌else◌}
use Rattle.std.specs.Option.{option_and_then}
use Rattle.tgap_model.specs.Base.{BaseMap}
use Rattle.tgap_model.specs.Partition.{map_fault}
use Rattle.edit_laws.specs.Edits.{edited}
use Rattle.http_face.specs.declared.request.Route.TheVariants.{Pin as PinRoute, PinSeen as PinSeenRoute, Edit as EditRoute}
use Rattle.http_face.specs.Replies.{reply_text}
use Rattle.session.specs.declared.row.Row.{Row}
use Rattle.session.specs.declared.row.Row.TheVariants.{Read, Pinned, SeenPinned, Behind, Refused, Published, Stale, Full, NoMemory, Unkept, KeeperFull}
use Rattle.session.specs.declared.serve.TheConstants.{MAX_REQUESTS}
use Rattle.session.specs.declared.answer.Answer.{Answer}
use Rattle.session.specs.Items.{Item, is_closing, Asked, Route, asked_of}
use Rattle.session.specs.Answers.{plain, said, numbered, read_answer, refusal}

-- the version that a connection has pinned, and the greatest number of a version that it was told
pub record Standing : Type 0 where
  pub pin : ℕ
  pub known : ℕ

-- where it stands when it has pinned its first version
abbrev pub starting : ℕ → Standing
starting first = record { pin = first; known = first }

-- An item that was handled: the number that the reply rests on, and what became of it.
pub record Turn : Type 0 where
  pub item : Item
  pub number : ℕ
  pub row : Row

-- the place of an outcome in the table
abbrev pub place_of : Row → ℕ
place_of Read = 0
place_of Pinned = 1
place_of SeenPinned = 2
place_of Behind = 3
place_of Refused = 4
place_of Published = 5
place_of Stale = 6
place_of Full = 7
place_of NoMemory = 8
place_of Unkept = 9
place_of KeeperFull = 10

-- ---- where a connection stands afterwards

-- the version of the number is pinned afterwards
abbrev pub moves_pin : Row → Bool
moves_pin Pinned = true
moves_pin SeenPinned = true
moves_pin Published = true
moves_pin other = false

-- the reply names the number of a version that the client then knows
abbrev pub names_version : Row → Bool
names_version Pinned = true
names_version SeenPinned = true
names_version Behind = true
names_version Published = true
names_version Stale = true
names_version other = false

-- the version that is pinned afterwards
abbrev pub pin_after : Row → ℕ → ℕ → ℕ
pin_after row pin n = if moves_pin row then n else pin

abbrev pub next : Standing → Turn → Standing
next s t = record {
  pin = pin_after t.row s.pin t.number;
  known = if names_version t.row then max s.known t.number else s.known;
}

-- after these turns
abbrev pub standing : Standing → List Turn → Standing
standing s [] = s
standing s (t ∷ turns) = standing (next s t) turns

-- ---- which outcome an item may have

-- what is asked is a batch of edits that makes this map, which has no fault, of the version that is pinned
pub record IsGoodEdit (history : List BaseMap) (pin : ℕ) (asked : Asked) (made : BaseMap) : Type 0 where
  pub batch : List ℕ
  pub is_edit : asked ≡ Route EditRoute batch
  pub base : BaseMap
  pub pinned : slice_get history pin ≡ Some base
  pub outcome : edited base batch ≡ Ok made
  pub sound : map_fault made ≡ None

-- the version of this number is there, and the client knows no newer one
pub record IsNews (history : List BaseMap) (known n : ℕ) : Type 0 where
  pub there : n < length history
  pub news : known ≤ n

-- why a batch of edits on a map is refused
abbrev pub edit_answer : BaseMap → Asked → Option Answer
edit_answer m (Route EditRoute batch) = option_map (plain 422) (refusal m batch)
edit_answer m other = None

-- The answer of a row, by what is asked and the number: from the version that is pinned, or a line that names the number.
abbrev pub answer_of : Row → List BaseMap → ℕ → Asked → ℕ → Option Answer
answer_of Read history pin asked n = option_and_then (λ m. read_answer pin m asked) (slice_get history pin)
answer_of Pinned history pin asked n = Some (said 200 (numbered (codes "pin") n))
answer_of SeenPinned history pin asked n = Some (said 200 (numbered (codes "pin") n))
answer_of Behind history pin asked n = Some (said 409 (numbered (codes "behind") n))
answer_of Refused history pin asked n = option_and_then (λ m. edit_answer m asked) (slice_get history pin)
answer_of Published history pin asked n = Some (said 200 (numbered (codes "published") n))
answer_of Stale history pin asked n = Some (said 409 (numbered (codes "stale") n))
answer_of Full history pin asked n = Some (said 507 (numbered (codes "versions full") n))
answer_of NoMemory history pin asked n = Some (said 503 (codes "memory" ∷ []))
answer_of Unkept history pin asked n = Some (said 500 (codes "journal fault" ∷ []))
answer_of KeeperFull history pin asked n = Some (said 507 (numbered (codes "journal full") 67108864))

-- What an outcome asks, by the rows of the table. The limit is the number of versions that there may be.
abbrev pub Holds : Row → ℕ → List BaseMap → Standing → Asked → ℕ → Type 0
Holds Read limit history s asked n = (n ≡ s.pin) × IsSome (answer_of Read history s.pin asked n)
Holds Pinned limit history s asked n = ((body : List ℕ) × (asked ≡ Route PinRoute body)) × IsNews history s.known n
Holds SeenPinned limit history s asked n =
    (seen : ℕ) × (body : List ℕ) × (asked ≡ Route (PinSeenRoute seen) body) × IsNews history s.known n × (seen ≤ n)
Holds Behind limit history s asked n =
    (seen : ℕ) × (body : List ℕ) × (asked ≡ Route (PinSeenRoute seen) body) × IsNews history s.known n × (n < seen)
Holds Refused limit history s asked n = (n ≡ s.pin) × IsSome (answer_of Refused history s.pin asked n)
Holds Published limit history s asked n =
    (made : BaseMap) × IsGoodEdit history s.pin asked made × (slice_get history n ≡ Some made)
    × (n ≡ s.pin + 1) × (s.known < n) × (n < limit)
Holds Stale limit history s asked n =
    (made : BaseMap) × IsGoodEdit history s.pin asked made × (s.pin < n) × IsNews history s.known n
Holds Full limit history s asked n =
    (made : BaseMap) × IsGoodEdit history s.pin asked made × (n ≡ limit) × (n ≡ s.pin + 1)
Holds NoMemory limit history s asked n = n ≡ s.pin
Holds Unkept limit history s asked n = (made : BaseMap) × IsGoodEdit history s.pin asked made × (n ≡ s.pin)
Holds KeeperFull limit history s asked n = (made : BaseMap) × IsGoodEdit history s.pin asked made × (n ≡ s.pin)

-- each item has an outcome that holds, where the connection stands after those before it
abbrev pub Outcomes : ℕ → List BaseMap → Standing → List Turn → Type 0
Outcomes limit history s [] = ⊤
Outcomes limit history s (t ∷ turns) = Holds t.row limit history s (asked_of t.item) t.number × Outcomes limit history (next s t) turns

-- ---- the replies

-- the connection ends after the reply to this item, which is the one of that number, from 1
abbrev pub is_final : ℕ → Item → Bool
is_final count item = is_closing item || (count == MAX_REQUESTS)

-- the bytes of a reply, with what the connection adds: the pin and whether it ends
abbrev pub sent : ℕ → Bool → Answer → List ℕ
sent pin close a = reply_text (record { status = a.status; pin = pin; allow = a.allow; close = close; body = a.body })

-- the bytes of the reply to the item of that number
abbrev pub reply_in : List BaseMap → Standing → ℕ → Turn → List ℕ
reply_in history s count t =
    elim (answer_of t.row history s.pin (asked_of t.item) t.number) [ None ↦ [] | Some a ↦ sent (next s t).pin (is_final count t.item) a ]

-- the replies to some items, one after the other, after those to so many items
abbrev pub replies : List BaseMap → Standing → ℕ → List Turn → List ℕ
replies history s count [] = []
replies history s count (t ∷ turns) = reply_in history s (suc count) t ++ replies history (next s t) (suc count) turns
