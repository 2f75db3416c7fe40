-- What a crash may leave of a journal: which entries it has, and that a byte 0 stands behind them.
use Rattle.std.specs.Prelude.{◌≡◌, ℕ, ◌≤◌, nat_lt, nat_le, Bool, true, ◌||◌, ◌==◌, List, [], ◌++◌, length, slice_index_or, if◌then◌else◌}
use Rattle.tgap_model.specs.Keeping.{KeptEntry}
use Rattle.edit_journal.specs.Entries.{entries_of}

-- a byte 0 stands where the entries end, or they end at the most that a journal may have
abbrev pub is_closed : ℕ → List ℕ → Bool
is_closed most image = (slice_index_or image (entries_of image).1 1 == 0) || nat_le most (entries_of image).1

-- These entries, and behind them those in doubt or not.
abbrev pub IsWithOrWithout : List KeptEntry → List KeptEntry → List KeptEntry → Type 0
IsWithOrWithout entries doubt found = found ≡ entries ++ (if nat_lt (length entries) (length found) then doubt else [])

-- an image of a journal that may be written on
pub record IsLeft (most : ℕ) (entries doubt : List KeptEntry) (image : List ℕ) : Type 0 where
  pub has : IsWithOrWithout entries doubt (entries_of image).0
  pub closed : is_closed most image ≡ true
  pub within : length image ≤ most

-- a journal at rest with these entries, and nothing in doubt
abbrev pub IsSettled : ℕ → List KeptEntry → List ℕ → Type 0
IsSettled most entries image = IsLeft most entries [] image

-- the entries of an image that might have been left before
abbrev pub KeepsEntries : (List ℕ → Type 0) → List ℕ → Type 0
KeepsEntries old image = (earlier : List ℕ) × old earlier × ((entries_of image).0 ≡ (entries_of earlier).0)
