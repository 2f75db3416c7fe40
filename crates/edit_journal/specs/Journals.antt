-- What a journal tells: its disk, its entries, and the one that is in doubt; and what its calls do.
use Rattle.std.specs.Prelude.{◌≡◌, ◌≤◌, ◌<◌, ℕ, List, [], ◌∷◌, ◌++◌, length, Bool, Some, option_map, is_none, Result, Ok, Err}
use Rattle.edit_journal.specs.declared.journal.Journal.{Journal}
use Rattle.edit_journal.specs.declared.entry.JournalFail.{JournalFail}
use Rattle.edit_journal.specs.declared.entry.JournalFail.TheVariants.{Failed, TooLong, Memory}
use Rattle.edit_journal.specs.declared.entry.AppendFail.{AppendFail}
use Rattle.edit_journal.specs.declared.entry.AppendFail.TheVariants as Append
use Rattle.tgap_model.specs.Keeping.{KeptEntry, Kept, IsStart, sure_of}
use Rattle.edit_journal.specs.Entries.{entries_of}
use Rattle.edit_journal.specs.Told.{kept_of, all_kept}

-- the disk that it stands on
abbrev pub disk_of : {D : Type 0} {d : _} → Journal D d → D
disk_of journal = journal.disk

-- its entries, and the one in doubt
abbrev pub held_by : {D : Type 0} {d : _} → Journal D d → Kept
held_by journal = record { entries = all_kept journal.entries; doubt = option_map kept_of journal.doubt }

-- the place where they end
abbrev pub keep_end : {D : Type 0} {d : _} → Journal D d → ℕ
keep_end journal = journal.end

-- no entry is in doubt
abbrev pub is_sure : Kept → Bool
is_sure held = is_none held.doubt

-- what is refused as too long has more bytes than the most that is allowed, which is told; what is not has no more
abbrev pub TellsLength : {T : Type 0} → ℕ → ℕ → Result T JournalFail → Type 0
TellsLength most length (Ok x) = length ≤ most
TellsLength most length (Err (TooLong max)) = (max ≡ most) × (most < length)
TellsLength most length (Err Failed) = Unit {0}
TellsLength most length (Err Memory) = Unit {0}

-- the entries, with the one in doubt behind them or without it, are those of the image
abbrev pub IsOf : Kept → List ℕ → Type 0
IsOf held image = IsStart held (entries_of image).0

-- one entry behind those that are held is in doubt
abbrev pub doubting : Kept → KeptEntry → Kept
doubting held e = record { entries = held.entries; doubt = Some e }

-- an entry is appended: it stands behind the others, or after a failure it is in doubt, or all stays
abbrev pub Appends : {T : Type 0} → Kept → KeptEntry → Result T AppendFail → Kept → Type 0
Appends before e (Ok x) now = now ≡ sure_of (before.entries ++ e ∷ [])
Appends before e (Err Append.Failed) now = now ≡ doubting before e
Appends before e (Err (Append.Full limit)) now = now ≡ before
Appends before e (Err Append.Memory) now = now ≡ before

-- a journal is settled: its entries are those that it had, with the one in doubt or without, and none is in doubt; or all stays
abbrev pub Settles : {T : Type 0} → Kept → Result T JournalFail → Kept → Type 0
Settles before (Ok x) now = (now ≡ sure_of now.entries) × IsStart before now.entries
Settles before (Err cause) now = now ≡ before

-- at Full and Memory the disk is as it was
abbrev pub Untouched : {T D : Type 0} → Result T AppendFail → D → D → Type 0
Untouched (Ok x) before now = Unit {0}
Untouched (Err Append.Failed) before now = Unit {0}
Untouched (Err (Append.Full limit)) before now = now ≡ before
Untouched (Err Append.Memory) before now = now ≡ before
