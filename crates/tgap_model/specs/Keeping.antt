-- What a keeper of batches tells: which entries are kept, what a call does to them, and the list of batches that they come to.
use Rattle.std.specs.Prelude.{◌≡◌, ◌⊎◌, ℕ, ◌+◌, ◌-◌, ◌<◌, ◌≤◌, Bool, ◌||◌, ◌==◌, nat_lt, List, [], ◌∷◌, ◌++◌, take, length, sum_by, fold, Option, Some, None, Result, Ok, Err, IfSome, if◌then◌else◌}
use Rattle.tgap_model.specs.Faults.{Rose}
use Rattle.tgap_model.specs.declared.keep.KeepFail.{KeepFail}
use Rattle.tgap_model.specs.declared.keep.KeepFail.TheVariants.{Failed, Full, Memory}

-- ---- what is kept

-- a batch, with the number of the version that it makes
pub record KeptEntry : Type 0 where
  pub number : ℕ
  pub batch : List ℕ

-- the entries that are kept, in order, and at most one of which it is in doubt whether it is kept after them
pub record Kept : Type 0 where
  pub entries : List KeptEntry
  pub doubt : Option KeptEntry

-- A call starts from the list of entries; where one is in doubt, from the list with or without that entry at its end.
abbrev pub IsStart : Kept → List KeptEntry → Type 0
IsStart before start =
    (start ≡ before.entries) ⊎ ((d : KeptEntry) × (before.doubt ≡ Some d) × (start ≡ before.entries ++ d ∷ []))

-- these entries, none in doubt
abbrev pub sure_of : List KeptEntry → Kept
sure_of entries = record { entries = entries; doubt = None }

-- how many bytes a call takes: those of the entries that it starts from, each with 13 beside its batch, and those of the new one,
-- with 14
abbrev pub keep_size : List KeptEntry → KeptEntry → ℕ
keep_size start e = sum_by (λ k. 13 + length k.batch) start + (14 + length e.batch)

-- there is a limit, and the size is above it
abbrev pub IsAbove : Option ℕ → ℕ → Type 0
IsAbove limit size = (most : ℕ) × (limit ≡ Some most) × (most < size)

-- the size is not above the limit, if there is one
abbrev pub IsWithin : Option ℕ → ℕ → Type 0
IsWithin limit size = IfSome limit (λ most. size ≤ most)

-- What is kept after a call that started from this list. On Ok the new entry stands at its end. On a failure all stays, or the new
-- entry is in doubt. On the other refusals all stays, or what was in doubt is settled. Full comes where the size is above the
-- limit, and where it is not, Ok does.
abbrev pub KeepsFrom : {T : Type 0} → Option ℕ → List KeptEntry → Kept → Kept → KeptEntry → Result T KeepFail → Type 0
KeepsFrom limit start before now e (Ok x) = (now ≡ sure_of (start ++ e ∷ [])) × IsWithin limit (keep_size start e)
KeepsFrom limit start before now e (Err Failed) = (now ≡ before) ⊎ (now ≡ record { entries = start; doubt = Some e })
KeepsFrom limit start before now e (Err (Full most)) =
    ((now ≡ before) ⊎ (now ≡ sure_of start)) × IsAbove limit (keep_size start e)
KeepsFrom limit start before now e (Err Memory) = (now ≡ before) ⊎ (now ≡ sure_of start)

-- a call, with the list that it started from; what is told before it is told after it
abbrev pub Keeps : {T : Type 0} → Option ℕ → Kept → Option Kept → KeptEntry → Result T KeepFail → Type 0
Keeps limit before told e result =
    (start : List KeptEntry) × IsStart before start
    × ((now : Kept) × (told ≡ Some now) × KeepsFrom limit start before now e result)

-- ---- the count of faults

-- the count rose where keeping failed, and else it stays
abbrev pub CountsKeep : {T : Type 0} → Result T KeepFail → ℕ → ℕ → Type 0
CountsKeep (Ok x) before now = now ≡ before
CountsKeep (Err Failed) before now = Rose before now
CountsKeep (Err (Full most)) before now = now ≡ before
CountsKeep (Err Memory) before now = now ≡ before

-- ---- what entries come to

-- the batches after one more entry: it cuts them to those of the versions before its own, and its batch is the next
abbrev pub fold_entry : List (List ℕ) → KeptEntry → List (List ℕ)
fold_entry batches e = take (e.number - 1) batches ++ e.batch ∷ []

-- the batches that entries come to, that of version 1 first
abbrev pub folded : List KeptEntry → List (List ℕ)
folded entries = fold fold_entry [] entries

-- the entry has a number that does not follow: 0, or above that of the next version
abbrev pub is_bad_entry : List (List ℕ) → KeptEntry → Bool
is_bad_entry batches e = (e.number == 0) || nat_lt (length batches + 1) e.number

-- the place of the first of these entries that does not follow, where i is that of the first of them
abbrev pub bad_entry_from : ℕ → List (List ℕ) → List KeptEntry → Option ℕ
bad_entry_from i batches [] = None
bad_entry_from i batches (e ∷ entries) =
    if is_bad_entry batches e then Some i else bad_entry_from (i + 1) (fold_entry batches e) entries

abbrev pub bad_entry : List KeptEntry → Option ℕ
bad_entry entries = bad_entry_from 0 [] entries
