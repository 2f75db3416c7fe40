-- What a seat has served: each connection over the list of versions as it is at the end.
use Rattle.std.specs.Prelude.{◌≡◌, ℕ, suc, ◌+◌, ◌-◌, ◌^◌, ◌<◌, ◌≤◌, ◌⊎◌, max, min, List, [], ◌∷◌, ◌++◌, map, flat_map, length, sum_by, count_by, All, Option, IfSome, ⊤}
use Rattle.std.proofs.Common.{refl, sym, arith}
use Rattle.std.proofs.lemmas.List.{append-nil}
use Rattle.std.proofs.lemmas.List.Elements.{All-nil}
use Rattle.plain_io.specs.declared.connection.EndKind.TheVariants.{ReadFault, WriteFault, Memory}
use Rattle.plain_io.specs.declared.link.Link as OfLink
use Rattle.plain_io.specs.Doors.{Connections}
use Rattle.plain_io.specs.Links.{HasNone}
use Rattle.tgap_model.specs.Base.{BaseMap}
use Rattle.tgap_model.specs.declared.holds.Holds as Held
use Rattle.tgap_model.specs.declared.keep.Keep as Keeper
use Rattle.version_store.specs.declared.name.StoreName as Named
use Rattle.version_store.specs.declared.seat.SeatOf.{SeatOf}
use Rattle.version_store.specs.declared.press.PressOf.{PressOf}
use Rattle.version_store.specs.Publishers.{numbers_of as published_by}
use Rattle.version_store.specs.Store.{press_versions, press_limit, press_publishers, seat_versions, seat_limit, seat_number, seat_numbers}
use Rattle.map_version.specs.declared.version.Version.{Version}
use Rattle.session.specs.declared.serve.TheConstants.{MAX_REQUESTS}
use Rattle.session.specs.Reading.{Follows}
use Rattle.session.specs.Items.{AreItems, item_bytes}
use Rattle.session.specs.Outcomes.{Turn, starting, standing, Outcomes, replies}
use Rattle.session.specs.Versions.{Seen, Continues, Extends}
use Rattle.session.specs.Progress.{items_of, numbers_of, places_of, published_count, published_numbers, unkept_count, keeper_full_count, HaveBatches, tells_behind}
use Rattle.session.specs.Conversation.{EndsBy}
use Rattle.workers.specs.Served.{Talk, Visit, handed_back, talk_of}

-- What was read is these items and a rest, each item has an outcome over the list of versions, and the replies to them were written. How
-- it ended follows from that, and a fault is told only where the link has failed. There are no more items than one connection may have.
-- The first version is no older than the one of number `seen`. The limit is the number of versions that there may be.
pub record IsConversation (limit : ℕ) (history : List BaseMap) (seen : ℕ) (talk : Talk) (turns : List Turn) : Type 0 where
  pub rest : List ℕ
  pub read : List ℕ
  pub written : List ℕ
  pub untaken : HasNone talk.taken_before
  pub unput : HasNone talk.told_before
  pub taken_is : Follows talk.taken_before talk.taken read
  pub told_is : Follows talk.told_before talk.told written
  pub split : read ≡ flat_map item_bytes (items_of turns) ++ rest
  pub items : AreItems rest (items_of turns)
  pub few : length turns ≤ MAX_REQUESTS
  pub first : talk.end.first < length history
  pub no_older : seen ≤ talk.end.first
  pub outcomes : Outcomes limit history (starting talk.end.first) turns
  pub last : talk.end.last ≡ (standing (starting talk.end.first) turns).pin
  pub numbers : talk.end.numbers ≡ numbers_of turns
  pub rows : talk.end.rows ≡ places_of turns
  pub ends : EndsBy talk.end.how (items_of turns) rest written (replies history (starting talk.end.first) 0 turns) talk.ended
  pub read_fault : talk.end.how ≡ ReadFault → 0 < talk.take_faults
  pub write_fault : talk.end.how ≡ WriteFault → 0 < talk.put_faults

-- there was no memory to begin with: the link was a new one, nothing was read or written, nothing was handled, and no version was pinned
pub record IsUnserved (talk : Talk) (turns : List Turn) : Type 0 where
  pub how : talk.end.how ≡ Memory
  pub untaken : HasNone talk.taken_before
  pub unput : HasNone talk.told_before
  pub unread : talk.taken ≡ talk.taken_before
  pub unwritten : talk.told ≡ talk.told_before
  pub first : talk.end.first ≡ 0
  pub last : talk.end.last ≡ 0
  pub numbers : talk.end.numbers ≡ []
  pub rows : talk.end.rows ≡ []
  pub none : turns ≡ []

abbrev pub IsTalk : ℕ → List BaseMap → ℕ → Talk → List Turn → Type 0
IsTalk limit history seen talk turns = IsConversation limit history seen talk turns ⊎ IsUnserved talk turns

-- the greatest number of a version that was pinned or told, where it was `seen` before this connection
abbrev pub seen_after : ℕ → Talk → List Turn → ℕ
seen_after seen talk turns = max seen (standing (starting talk.end.first) turns).known

-- Each of the connections, by what was handled on it, one after the other. It begins with a version that is no older than any that was
-- pinned or told on those before it, and than the one of number `seen`.
abbrev pub AreTalks : ℕ → List BaseMap → ℕ → List Talk → List (List Turn) → Type 0
AreTalks limit history seen [] [] = ⊤
AreTalks limit history seen (talk ∷ talks) (turns ∷ all) =
    IsTalk limit history seen talk turns × AreTalks limit history (seen_after seen talk turns) talks all
AreTalks limit history seen [] (turns ∷ all) = ⊥
AreTalks limit history seen (talk ∷ talks) [] = ⊥

-- the greatest number after some connections
abbrev pub seen_at_last : ℕ → List Talk → List (List Turn) → ℕ
seen_at_last seen (talk ∷ talks) (turns ∷ all) = seen_at_last (seen_after seen talk turns) talks all
seen_at_last seen [] all = seen
seen_at_last seen (talk ∷ talks) [] = seen

-- on some connections: how many replies named this number as the newest to a client that is behind, and how many versions were published
abbrev pub published_in : List (List Turn) → ℕ
published_in all = sum_by published_count all

-- the numbers of these versions, in the order of the connections
abbrev pub numbers_in : List (List Turn) → List ℕ
numbers_in all = flat_map published_numbers all

-- how many edits were not published, since the keeper failed to keep their batches, and how many, since it had no room for them
abbrev pub unkept_in : List (List Turn) → ℕ
unkept_in all = sum_by unkept_count all

abbrev pub keeper_full_in : List (List Turn) → ℕ
keeper_full_in all = sum_by keeper_full_count all

abbrev pub behind_in : ℕ → List (List Turn) → ℕ
behind_in n all = sum_by (λ turns. count_by (tells_behind n) turns) all

-- each of the doors, by its number, counted from this one on
abbrev pub EachNumbered : {P : Type 0} → (ℕ → P → Type 0) → ℕ → List P → Type 0
EachNumbered R n [] = ⊤
EachNumbered R n (x ∷ xs) = R n x × EachNumbered R (suc n) xs

-- the number of the newest version of a list
abbrev pub newest_of : List BaseMap → ℕ
newest_of history = length history - 1

-- A seat served these connections. Its list only grew; over the list as it is now each connection is right, and the first version of each
-- is no older than any that the seat had seen before. The count of published versions rose by those that were published there, and each
-- count of tellings at least by the replies that name the number; one that stands at its type's end says no more. The numbers of the versions
-- that were published there follow those from before, and the batch of each is the body of the request. The counts of what the keeper refused
-- rose by the replies that say so, up to their type's end.
pub record Served (before now : Seen) (talks : List Talk) : Type 0 where
  pub continues : Continues before now
  pub turns : List (List Turn)
  pub each : AreTalks now.limit now.history (newest_of before.history) talks turns
  pub seen : seen_at_last (newest_of before.history) talks turns ≤ newest_of now.history
  pub published : now.published ≡ before.published + published_in turns
  pub numbers : now.numbers ≡ before.numbers ++ numbers_in turns
  pub batches : All (HaveBatches now.batches) turns
  pub unkept : min now.unkept (2 ^ 64 - 1) ≡ min (before.unkept + unkept_in turns) (2 ^ 64 - 1)
  pub keeper_full : min now.keeper_full (2 ^ 64 - 1) ≡ min (before.keeper_full + keeper_full_in turns) (2 ^ 64 - 1)
  pub tellings : (n : ℕ) → min (before.tellings n + behind_in n turns) (2 ^ 64 - 1) ≤ now.tellings n

-- at first it has served none
pub served_none : (seen : Seen) → Served seen seen []
served_none seen = record {
  continues = record {
    seat = refl;
    history = ([], sym (append-nil seen.history));
    batches = ([], sym (append-nil seen.batches));
    limit = refl;
    tellings = λ n. omega arith;
  };
  turns = [];
  each = tt;
  seen = omega arith;
  published = omega arith;
  numbers = sym (append-nil seen.numbers);
  batches = All-nil (HaveBatches seen.batches);
  unkept = grind arith;
  keeper_full = grind arith;
  tellings = λ n. grind arith;
}

-- ---- all that a door tells

-- All links that came were handed back, each with the end of its connection, and each of these connections is right over this list
-- of versions; none begins with a version that is older than the one of number `seen`, or than one that was pinned or told before at the
-- door. The versions that were published on them are those of these numbers, in this order, and the batch of each is the body of the request.
pub record AreRight {L : Type 0} (link : OfLink.Ghosts L) (limit : ℕ) (history : List BaseMap) (batches : List (List ℕ)) (seen : ℕ) (numbers : List ℕ)
    (told : Connections L) : Type 0 where
  pub visits : List (Visit L)
  pub turns : List (List Turn)
  pub came : told.came ≡ length visits
  pub back : told.back ≡ map handed_back visits
  pub each : AreTalks limit history seen (map (talk_of link) visits) turns
  pub published : numbers_in turns ≡ numbers
  pub with_batches : All (HaveBatches batches) turns

-- so it is, where the door tells of its connections
abbrev pub ServedRight : {L : Type 0} → OfLink.Ghosts L → ℕ → List BaseMap → List (List ℕ) → ℕ → List ℕ → Option (Connections L) → Type 0
ServedRight link limit history batches seen numbers told = IfSome told (AreRight link limit history batches seen numbers)

module _ {N K P : Type 0} {held : Held.Ghosts Version} {named : Named.Ghosts N} {keep : Keeper.Ghosts K} where
  -- the maps of the published versions
  abbrev pub press_maps : PressOf Version N K P held named keep → List BaseMap
  press_maps press = map (λ v. v.built) (press_versions press)

  -- the batches of the published versions
  abbrev pub press_batches : PressOf Version N K P held named keep → List (List ℕ)
  press_batches press = map (λ v. v.batch) (press_versions press)

  -- the list of a press begins with that of another one
  abbrev pub BeginsWith : PressOf Version N K P held named keep → PressOf Version N K P held named keep → Type 0
  BeginsWith front press = Extends (press_maps front) (press_maps press) × Extends (press_batches front) (press_batches press)

  -- the seat has seen all published versions, and knows how many there may be, and which of them it has published
  abbrev pub SeesAll : PressOf Version N K P held named keep → SeatOf Version N P held named → Type 0
  SeesAll press seat =
      (seat_versions seat ≡ press_versions press) × (seat_limit seat ≡ press_limit press)
      × (seat_numbers seat ≡ published_by (seat_number seat) (press_publishers press))
