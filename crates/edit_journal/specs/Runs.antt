-- Runs of calls of a journal, and what a crash leaves of them.
use Rattle.std.specs.Prelude.{◌≡◌, ◌⊎◌, ℕ, List, [], ◌∷◌, ◌++◌, true, Option, Some, None, Result, Ok, Err}
use Rattle.edit_journal.specs.declared.entry.JournalFail.{JournalFail}
use Rattle.edit_journal.specs.declared.entry.AppendFail.{AppendFail}
use Rattle.edit_journal.specs.declared.entry.AppendFail.TheVariants.{Failed, Full, Memory}
use Rattle.tgap_model.specs.Keeping.{KeptEntry, Kept, IsStart, sure_of}
use Rattle.edit_journal.specs.Disk.{LeavesOnly}
use Rattle.edit_journal.specs.Journals.{is_sure, IsOf, doubting, Appends}

-- a call with its answer; a settling tells the entries that it gives
pub data Call : Type 0 where
  Append : KeptEntry → Result (Unit {0}) AppendFail → Call
  Settle : Result (List KeptEntry) JournalFail → Call

-- what is held after a call. Where an entry is in doubt nothing is appended.
abbrev pub Changes : Kept → Call → Kept → Type 0
Changes before (Append e result) now = (is_sure before ≡ true) × Appends before e result now
Changes before (Settle (Ok entries)) now = IsStart before entries × (now ≡ sure_of entries)
Changes before (Settle (Err cause)) now = now ≡ before

-- what is held, or in doubt, at a moment within a call
abbrev pub during : Kept → Call → Kept
during before (Append e result) = doubting before e
during before (Settle result) = before

-- One call, on a disk and what is held of it: this is what the contracts of an append and of a settling say.
pub record Called {D : Type 0} (moment : D → ℕ) (left_since : D → ℕ → List ℕ → Type 0) (may_leave : D → List ℕ → Type 0) (before now : D × Kept) (call : Call) : Type 0 where
  pub changes : Changes before.1 call now.1
  pub any_moment : LeavesOnly moment left_since before.0 now.0 (IsOf (during before.1 call))
  pub left : (image : List ℕ) → may_leave now.0 image → IsOf now.1 image

-- one call after the other
abbrev pub Run : {D : Type 0} → (D → ℕ) → (D → ℕ → List ℕ → Type 0) → (D → List ℕ → Type 0) → D × Kept → List Call → D × Kept → Type 0
Run moment left_since may_leave before [] now = now ≡ before
Run {D} moment left_since may_leave before (call ∷ calls) now =
    (next : D × Kept) × Called moment left_since may_leave before next call × Run moment left_since may_leave next calls now

-- the entries that the journal was made with, or last settled with, and then those whose appends answered Ok since
abbrev pub acknowledged : List KeptEntry → List Call → List KeptEntry
acknowledged entries [] = entries
acknowledged entries (Append e (Ok x) ∷ calls) = acknowledged (entries ++ e ∷ []) calls
acknowledged entries (Append e (Err cause) ∷ calls) = acknowledged entries calls
acknowledged entries (Settle (Ok found) ∷ calls) = acknowledged found calls
acknowledged entries (Settle (Err cause) ∷ calls) = acknowledged entries calls

-- the entry of an append that failed, after which the journal was not settled yet
abbrev pub unsettled : Option KeptEntry → List Call → Option KeptEntry
unsettled doubt [] = doubt
unsettled doubt (Append e (Ok x) ∷ calls) = unsettled None calls
unsettled doubt (Append e (Err Failed) ∷ calls) = unsettled (Some e) calls
unsettled doubt (Append e (Err (Full limit)) ∷ calls) = unsettled doubt calls
unsettled doubt (Append e (Err Memory) ∷ calls) = unsettled doubt calls
unsettled doubt (Settle (Ok found) ∷ calls) = unsettled None calls
unsettled doubt (Settle (Err cause) ∷ calls) = unsettled doubt calls

-- these two together
abbrev pub held_after : List KeptEntry → List Call → Kept
held_after entries calls = record { entries = acknowledged entries calls; doubt = unsettled None calls }

-- The entries at first, and then, in the order of their appends, each that was acknowledged, and of those that failed some, each
-- whole, and nothing else.
abbrev pub IsHistory : List KeptEntry → List Call → List KeptEntry → Type 0
IsHistory entries [] found = found ≡ entries
IsHistory entries (Append e (Ok x) ∷ calls) found = IsHistory (entries ++ e ∷ []) calls found
IsHistory entries (Append e (Err Failed) ∷ calls) found = IsHistory entries calls found ⊎ IsHistory (entries ++ e ∷ []) calls found
IsHistory entries (Append e (Err (Full limit)) ∷ calls) found = IsHistory entries calls found
IsHistory entries (Append e (Err Memory) ∷ calls) found = IsHistory entries calls found
IsHistory entries (Settle result ∷ calls) found = IsHistory entries calls found

-- a call that a crash ends: an append is as one that failed
abbrev pub ended_by_crash : Call → List Call
ended_by_crash (Append e result) = Append e (Err Failed) ∷ []
ended_by_crash (Settle result) = []
