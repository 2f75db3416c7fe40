-- What holds of the store between any two steps: its one word is the number of published versions, and slot 16 v + s has version v for
-- seat s until that seat takes it.
use Rattle.std.specs.Prelude.{◌≡◌, ◌<◌, ◌≤◌, ◌+◌, ◌*◌, ℕ, List, [], ◌∷◌, ◌++◌, length, All, Option, Some, slice_get}
use mathlib.Core.Option.{some}
use mathlib.Core.Option as maybe
use lib.ListN.{get_elem?}
use Rattle.std.specs.Arc.{arc_value}
use Rattle.std.specs.declared.alloc.Global.{Global}
use Rattle.std.specs.declared.sync.Arc.{Arc}
use Rattle.atomic_table.specs.Table.{State}
use Rattle.version_store.specs.declared.known.Known.{Known}
use Rattle.version_store.specs.Growth.{IsPrefix, AreNumbered}
use Rattle.version_store.specs.Publishers.{numbers_of}

-- what a slot holds
abbrev pub Slot : Type 0 → Type 0
Slot V = Option (Arc V Global)

-- the slots, each with its value where no place has taken it
abbrev pub Homes : Type 0 → Type 0
Homes V = List (maybe.Option (Slot V))

module _ {V : Type 0} where
  -- the slot is filled with this version
  abbrev pub IsFilled : Homes V → ℕ → V → Type 0
  IsFilled homes slot version = (owner : Arc V Global) × (arc_value owner ≡ version) × (get_elem? homes slot ≡ some (some (Some owner)))

  -- no place has taken the slot
  abbrev pub IsHome : Homes V → ℕ → Type 0
  IsHome homes slot = (value : Slot V) × (get_elem? homes slot ≡ some (some value))

  -- what the press knows: the whole list, its publishers and the number of seats. Of the slots of the next version the first ones are filled, and one may
  -- be with the press; the others are free.
  pub record IsPress (limit seats : ℕ) (list : List V) (publishers : List ℕ) (homes : Homes V) (d : Known V) : Type 0 where
    pub all : d.list ≡ list
    pub publishers_are : d.publishers ≡ publishers
    pub counted : d.seats ≡ seats
    pub from : 16 * length list ≤ d.filled
    pub next : (slot : ℕ) (version : V) → 16 * length list ≤ slot → slot < d.filled → d.next ≡ version ∷ [] → IsFilled homes slot version
    pub free : (slot : ℕ) → d.filled + d.out ≤ slot → slot < 16 * limit → IsHome homes slot

  -- what seat s knows: each version that is new to it waits in its slot
  pub record IsSeat (seats : ℕ) (list : List V) (homes : Homes V) (s : ℕ) (d : Known V) : Type 0 where
    pub one : s < seats
    pub waits : (v : ℕ) (version : V) → length d.list ≤ v → slice_get list v ≡ Some version → IsFilled homes (16 * v + s) version

  -- what any place knows: where it publishes in the name of a seat, it knows all versions that were published in that name
  pub record Fits (limit seats : ℕ) (list : List V) (publishers : List ℕ) (homes : Homes V) (d : Known V) : Type 0 where
    pub seen : IsPrefix d.list list
    pub told : IsPrefix d.told list
    pub bound : 0 < d.role → d.limit ≡ limit
    pub press : d.role ≡ 1 → IsPress limit seats list publishers homes d
    pub seat : (s : ℕ) → d.role ≡ s + 2 → IsSeat seats list homes s d
    pub one_of : d.publisher ≤ seats
    pub numbers_are : 0 < d.publisher → d.numbers ≡ numbers_of d.publisher publishers

  -- There is one list. It is as long as the word says, it has room, each version has the number of its place and a publisher, and each
  -- place knows a part of it. No two places are the press, or one seat, and no two publish in the name of one seat.
  pub record Kept (number : V → ℕ) (limit : ℕ) (s : State (Slot V) (Known V)) : Type 0 where
    pub list : List V
    pub publishers : List ℕ
    pub seats : ℕ
    pub word : s.words ≡ length list ∷ []
    pub slots : length s.homes ≡ 16 * limit
    pub room : length list ≤ limit
    pub few : seats ≤ 16
    pub numbered : AreNumbered number list
    pub even : length publishers ≡ length list
    pub each : (i : ℕ) (d : Known V) → get_elem? s.views i ≡ some d → Fits limit seats list publishers s.homes d
    pub apart : (i j : ℕ) (d e : Known V) → get_elem? s.views i ≡ some d → get_elem? s.views j ≡ some e → 0 < d.role → d.role ≡ e.role → i ≡ j
    pub alone : (i j : ℕ) (d e : Known V) → get_elem? s.views i ≡ some d → get_elem? s.views j ≡ some e → 0 < d.publisher → d.publisher ≡ e.publisher → i ≡ j

  -- the press at the start, before the first version
  abbrev pub first_press : ℕ → Known V
  first_press limit = record {
    role = 1;
    limit = limit;
    seats = 0;
    filled = 0;
    out = 0;
    next = [];
    list = [];
    told = [];
    publisher = 0;
    numbers = [];
    publishers = [];
  }

  -- what the press cuts off for one seat more
  abbrev pub with_seat : Known V → Known V
  with_seat d = record d { seats = d.seats + 1 }

  abbrev pub new_seat : Known V → Known V
  new_seat d = record {
    role = d.seats + 2;
    limit = d.limit;
    seats = 0;
    filled = 0;
    out = 0;
    next = [];
    list = d.list;
    told = [];
    publisher = d.seats + 1;
    numbers = [];
    publishers = [];
  }

  -- a note of the versions that a place has seen
  abbrev pub note : List V → Known V
  note list = record {
    role = 0;
    limit = 0;
    seats = 0;
    filled = 0;
    out = 0;
    next = [];
    list = list;
    told = [];
    publisher = 0;
    numbers = [];
    publishers = [];
  }

  -- what a place knows that was told of these versions
  abbrev pub hearing : Known V → Known V → Known V
  hearing d e = record d { told = e.list }

  -- a place that publishes in nobody's name any more
  abbrev pub without_name : Known V → Known V
  without_name d = record d { publisher = 0; numbers = [] }

  -- a note by which the name is handed over in which a place publishes
  abbrev pub name_of : Known V → Known V
  name_of d = record (note []) { publisher = d.publisher; numbers = d.numbers }

  -- a place that publishes in the name in which the other did
  abbrev pub with_name : Known V → Known V → Known V
  with_name d e = record d { publisher = e.publisher; numbers = e.numbers }

  -- these are owners of that version
  abbrev pub AreOwners : V → List (Arc V Global) → Type 0
  AreOwners version owners = All (λ owner. arc_value owner ≡ version) owners

  -- the press, once it has filled the slots below this one with the version
  abbrev pub filling : Known V → ℕ → V → Known V
  filling d slot version = record d { filled = slot; next = version ∷ [] }

  -- the press, once it has published the version as the last of so many
  abbrev pub with_version : Known V → ℕ → V → Known V
  with_version d count version = record d {
    filled = 16 * count;
    list = d.list ++ version ∷ [];
    numbers = d.numbers ++ length d.list ∷ [];
    publishers = d.publishers ++ d.publisher ∷ [];
  }

  -- the press, once it has published the version as the last of so many, in the name of the seat of this number
  abbrev pub published_by : Known V → ℕ → ℕ → V → Known V
  published_by d publisher count version = record d {
    filled = 16 * count;
    next = version ∷ [];
    list = d.list ++ version ∷ [];
    publisher = 0;
    numbers = [];
    publishers = d.publishers ++ publisher ∷ [];
  }
