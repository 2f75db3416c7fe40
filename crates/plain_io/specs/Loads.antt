-- What files tell of their bytes, what a load of a file answers, and what it does to the counts of faults.
use Rattle.std.specs.Prelude.{◌≡◌, ◌≢◌, ℕ, ◌<◌, ◌≤◌, List, length, Result, Ok, Err, ⊤}
use Rattle.plain_io.specs.declared.files.Which.{Which}
use Rattle.plain_io.specs.declared.files.LoadFail.{LoadFail}
use Rattle.plain_io.specs.declared.files.LoadFail.TheVariants.{Failed, TooLong, Memory}
use Rattle.tgap_model.specs.Faults.{Rises}

-- what is told of the file of a name: nothing, that there is none, or its bytes
pub data Told : Type 0 where
  Untold : Told
  Missing : Told
  Holds : List ℕ → Told

-- a fact about the bytes, where they are told
abbrev pub IfHolds : Told → (List ℕ → Type 0) → Type 0
IfHolds Untold P = ⊤
IfHolds Missing P = ⊤
IfHolds (Holds bytes) P = P bytes

-- a fact about the bytes of a file that is there: none where it is told that there is no file
abbrev pub OfFile : Told → (List ℕ → Type 0) → Type 0
OfFile Untold P = ⊤
OfFile Missing P = ⊥
OfFile (Holds bytes) P = P bytes

-- A load of a file of which this is told: all its bytes, at most max; or that there are more than max.
abbrev pub Loads : Told → ℕ → Result (List ℕ) LoadFail → Type 0
Loads told max (Ok text) = (length text ≤ max) × OfFile told (λ bytes. text ≡ bytes)
Loads told max (Err (TooLong limit)) = (limit ≡ max) × OfFile told (λ bytes. max < length bytes)
Loads told max (Err Failed) = ⊤
Loads told max (Err Memory) = ⊤

-- the count of the kind that was loaded: it rises where the load failed, and else it stays
abbrev pub CountsLoad : Result (List ℕ) LoadFail → ℕ → ℕ → Type 0
CountsLoad (Err Failed) before now = Rises before now
CountsLoad (Err (TooLong limit)) before now = now ≡ before
CountsLoad (Err Memory) before now = now ≡ before
CountsLoad (Ok text) before now = now ≡ before

-- the counts of the other kinds stay
abbrev pub OthersStay : Which → (Which → ℕ) → (Which → ℕ) → Type 0
OthersStay which before now = (other : Which) → other ≢ which → now other ≡ before other
