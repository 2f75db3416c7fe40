-- The row of the sweep, from top to bottom, as numbers of segments, and the events that change it.
use Rattle.std.specs.Prelude.{◌≡◌, ◌≢◌, ℕ, ◌+◌, ◌/◌, ◌%◌, ◌<◌, ◌≤◌, ◌==◌, Bool, true, false, ℤ, pos, ◌-ℤ◌, ◌≤ℤ◌, List, [], ◌∷◌, ◌++◌, length, flat_map, take, drop, get_or, All, AllPairs, Contains, if◌then◌else◌}
use Rattle.tgap_model.specs.declared.geometry.Seg.{Seg}
use Rattle.planar_sweep.specs.declared.events.Event.{Event}
use Rattle.planar_sweep.specs.declared.events.Event.TheVariants.{Leaves, Comes, Passes}
use Rattle.planar_sweep.specs.Over.{StandsOver}
use Rattle.planar_sweep.specs.Times.{time_in, time_out}

-- ---- neighbours

abbrev pub NextIs : {A : Type 0} → (A → A → Type 0) → A → List A → Type 0
NextIs R x [] = Unit {0}
NextIs R x (y ∷ ys) = R x y

-- each member stands in the relation to the next one
abbrev pub Adjacent : {A : Type 0} → (A → A → Type 0) → List A → Type 0
Adjacent R [] = Unit {0}
Adjacent R (x ∷ xs) = NextIs R x xs × Adjacent R xs

-- ---- segments by their numbers

abbrev pub no_seg : Seg
no_seg = record { a = record { x = pos 0; y = pos 0 }; b = record { x = pos 0; y = pos 0 } }

abbrev pub seg_at : List Seg → ℕ → Seg
seg_at segs n = get_or segs n no_seg

-- one may stand next above the other
abbrev pub Over : List Seg → ℕ → ℕ → Type 0
Over segs m n = StandsOver (seg_at segs m) (seg_at segs n)

-- ---- events

-- the segment of a number comes into the row, or leaves it
pub record Change : Type 0 where
  pub number : ℕ
  pub comes : Bool

abbrev pub coming : ℕ → Change
coming n = record { number = n; comes = true }

abbrev pub leaving : ℕ → Change
leaving n = record { number = n; comes = false }

-- the time of its segment at which it is made
abbrev pub time_of : List Seg → Change → ℤ
time_of segs c = if c.comes then time_in (seg_at segs c.number) else time_out (seg_at segs c.number)

-- what an event changes
abbrev pub changes : Event → List Change
changes (Leaves n) = leaving n ∷ []
changes (Comes n) = coming n ∷ []
changes (Passes from to) = coming to ∷ leaving from ∷ []

-- of a kind and a number: the segment leaves, it comes, or the next one of the list comes for it, or the other way round
abbrev pub event_at : ℕ → ℕ → Event
event_at kind n = if kind == 0 then Leaves n else if kind == 1 then Comes n else if kind == 2 then Passes n (n + 1) else Passes (n + 1) n

-- The event of a key, and its time: the number is the rest of 2^27, and of what is left the kind is the rest of 4.
abbrev pub event_of : ℕ → Event
event_of key = event_at (key / 134217728 % 4) (key % 134217728)

abbrev pub key_time : ℕ → ℤ
key_time key = pos (key / 134217728 / 4) -ℤ pos 17179869184

-- An event with its time.
pub record Moment : Type 0 where
  pub time : ℤ
  pub changes : List Change

abbrev pub moment_of : ℕ → Moment
moment_of key = record { time = key_time key; changes = changes (event_of key) }

-- all changes of events, one after another
abbrev pub changes_of : List Moment → List Change
changes_of events = flat_map (λ (e : Moment). e.changes) events

-- A change is one of a segment, and made at its time.
pub record IsChangeAt (segs : List Seg) (time : ℤ) (c : Change) : Type 0 where
  pub known : c.number < length segs
  pub timed : time ≡ time_of segs c

-- The events of the segments, in the order of their times: each segment comes and leaves at its times.
pub record AreEvents (segs : List Seg) (events : List Moment) : Type 0 where
  pub real : All (λ e. All (IsChangeAt segs e.time) e.changes) events
  pub come : (n : ℕ) → n < length segs → Contains (changes_of events) (coming n)
  pub leave : (n : ℕ) → n < length segs → Contains (changes_of events) (leaving n)
  pub ascend : (i j : ℕ) (d : Moment) → i ≤ j → j < length events → (get_or events i d).time ≤ℤ (get_or events j d).time

-- ---- the row

-- The row after some changes: neighbours stand one over the other, and the members are those that have come and have not left.
pub record IsRow (segs : List Seg) (done : List Change) (row : List ℕ) : Type 0 where
  pub ordered : Adjacent (Over segs) row
  pub once : AllPairs (λ m n. m ≢ n) row
  pub into : (n : ℕ) → Contains row n → (n < length segs) × Contains done (coming n) × (Contains done (leaving n) → ⊥)
  pub back : (n : ℕ) → n < length segs → Contains done (coming n) → (Contains done (leaving n) → ⊥) → Contains row n

-- after each number of events up to this one there was such a row
abbrev pub HadRows : List Seg → List Moment → ℕ → Type 0
HadRows segs events k = (j : ℕ) → j ≤ k → (row : List ℕ) × IsRow segs (changes_of (take j events)) row

-- A segment has come into a row, next below one over it and next above one that it is over.
pub record HasCome (segs : List Seg) (n : ℕ) (old new : List ℕ) : Type 0 where
  pub place : ℕ
  pub within : place ≤ length old
  pub placed : new ≡ take place old ++ n ∷ drop place old
  pub fresh : Contains old n → ⊥
  pub above : (k : ℕ) → k + 1 ≡ place → Over segs (get_or old k 0) n
  pub below : place < length old → Over segs n (get_or old place 0)

-- A segment has left it, and its neighbours are neighbours now.
pub record HasLeft (segs : List Seg) (n : ℕ) (old new : List ℕ) : Type 0 where
  pub place : ℕ
  pub within : place < length old
  pub there : get_or old place 0 ≡ n
  pub without : new ≡ take place old ++ drop (place + 1) old
  pub joined : (k : ℕ) → k + 1 ≡ place → place + 1 < length old → Over segs (get_or old k 0) (get_or old (place + 1) 0)

-- One has come in the place of another one.
pub record HasPassed (segs : List Seg) (from to : ℕ) (old new : List ℕ) : Type 0 where
  pub between : List ℕ
  pub came : HasCome segs to old between
  pub left : HasLeft segs from between new
