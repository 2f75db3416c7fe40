-- A whole connection: its items, outcomes and replies, and how it ended.
use Rattle.std.specs.Prelude.{◌≡◌, ℕ, ◌+◌, ◌<◌, ◌≤◌, ◌⊎◌, ◌==◌, Bool, true, List, [], ◌++◌, flat_map, length, take, Option, Some, None, if◌then◌else◌}
use Rattle.std.specs.List.{list_any}
use Rattle.plain_io.specs.declared.connection.EndKind.{EndKind}
use Rattle.plain_io.specs.declared.connection.EndKind.TheVariants.{Closed, CutShort, BadHead, Spent, ReadFault, WriteFault, Memory}
use Rattle.plain_io.specs.declared.connection.ConnectionEnd.{ConnectionEnd}
use Rattle.session.specs.declared.serve.TheConstants.{MAX_REQUESTS}
use Rattle.session.specs.Reading.{Follows}
use Rattle.session.specs.Items.{Item, AreItems, IsPart, item_bytes, is_closing, is_fault}
use Rattle.session.specs.Outcomes.{Turn, starting, standing, Outcomes, replies}
use Rattle.session.specs.Versions.{Seen, Continues, SameCounts}
use Rattle.session.specs.Progress.{items_of, numbers_of, places_of, CountsTurns, HaveBatches, ToldEnough}

-- no byte of a further request came
abbrev pub is_empty : List ℕ → Bool
is_empty rest = length rest == 0

-- How a connection ends by its items, by what follows the last of them, and by whether the input is at its end; none, where it goes on.
abbrev pub how_of : List Item → List ℕ → Bool → Option EndKind
how_of items rest ended =
    if list_any is_fault items then Some BadHead
    else if length items == MAX_REQUESTS then Some Spent
    else if list_any is_closing items then Some Closed
    else if ended then Some (if is_empty rest then Closed else CutShort)
    else None

-- The items are all that the bytes have: the last one ends the reading, or what follows is less than an item.
abbrev pub IsAll : List Item → List ℕ → Type 0
IsAll items rest = (list_any is_closing items ≡ true) ⊎ (length items ≡ MAX_REQUESTS) ⊎ IsPart rest

-- how it ended, where no put failed
pub record EndsWell (how : EndKind) (items : List Item) (rest written replies : List ℕ) (ended : Bool) : Type 0 where
  pub all : IsAll items rest
  pub whole : written ≡ replies
  pub ends : (how_of items rest ended ≡ Some how) ⊎ ((how_of items rest ended ≡ None) × (how ≡ ReadFault))

-- where a put failed, a front of the replies was written
abbrev pub EndsBy : EndKind → List Item → List ℕ → List ℕ → List ℕ → Bool → Type 0
EndsBy WriteFault items rest written replies ended = (n : ℕ) × (written ≡ take n replies)
EndsBy how items rest written replies ended = EndsWell how items rest written replies ended

-- What was read is these items and a rest, each item has an outcome over the list as it is at the end, and the replies to them were
-- written. There are no more items than one connection may have, and no more versions than there may be. The seat counts the versions that
-- were published, which have the batches that were asked for, and those that its press's keeper refused.
pub record Conversation
    (before now : Seen) (taken taken' told told' : Option (List ℕ)) (ended : Bool) (end : ConnectionEnd) : Type 0 where
  pub turns : List Turn
  pub rest : List ℕ
  pub read : List ℕ
  pub written : List ℕ
  pub taken_is : Follows taken taken' read
  pub told_is : Follows told told' written
  pub split : read ≡ flat_map item_bytes (items_of turns) ++ rest
  pub items : AreItems rest (items_of turns)
  pub few : length turns ≤ MAX_REQUESTS
  pub room : length now.history ≤ now.limit
  pub first : end.first < length now.history
  pub outcomes : Outcomes now.limit now.history (starting end.first) turns
  pub last : end.last ≡ (standing (starting end.first) turns).pin
  pub numbers : end.numbers ≡ numbers_of turns
  pub rows : end.rows ≡ places_of turns
  pub ends : EndsBy end.how (items_of turns) rest written (replies now.history (starting end.first) 0 turns) ended
  pub continues : Continues before now
  pub counts : CountsTurns before now turns
  pub batches : HaveBatches now.batches turns
  pub tellings : ToldEnough before now turns

-- There was no memory to begin with: nothing was read or written, nothing was handled, and no version was published.
pub record IsUnserved (before now : Seen) (taken taken' told told' : Option (List ℕ)) (end : ConnectionEnd) : Type 0 where
  pub how : end.how ≡ Memory
  pub unread : taken' ≡ taken
  pub unwritten : told' ≡ told
  pub first : end.first ≡ 0
  pub last : end.last ≡ 0
  pub numbers : end.numbers ≡ []
  pub rows : end.rows ≡ []
  pub continues : Continues before now
  pub counts : SameCounts before now

-- What is told of a connection by its end: it was served, from a version on that is no older than those seen before; or it was not.
abbrev pub IsConnection : Seen → Seen → Option (List ℕ) → Option (List ℕ) → Option (List ℕ) → Option (List ℕ) → Bool → ConnectionEnd → Type 0
IsConnection before now taken taken' told told' ended end =
    (Conversation before now taken taken' told told' ended end × (length before.history ≤ end.first + 1))
    ⊎ IsUnserved before now taken taken' told told' end
