-- What the answers of a journal do to the count of faults of its disk.
use Rattle.std.specs.Prelude.{◌≡◌, ℕ, Result, Ok, Err}
use Rattle.tgap_model.specs.Faults.{Rises}
use Rattle.plain_io.specs.declared.files.LoadFail.{LoadFail}
use Rattle.plain_io.specs.declared.files.LoadFail.TheVariants as Load
use Rattle.edit_journal.specs.declared.entry.JournalFail.{JournalFail}
use Rattle.edit_journal.specs.declared.entry.JournalFail.TheVariants.{Failed, TooLong, Memory}
use Rattle.edit_journal.specs.declared.entry.AppendFail.{AppendFail}
use Rattle.edit_journal.specs.declared.entry.AppendFail.TheVariants as Append

-- the count rises where a call of the disk failed, and else it stays
abbrev pub CountsCause : JournalFail → ℕ → ℕ → Type 0
CountsCause Failed before now = Rises before now
CountsCause (TooLong max) before now = now ≡ before
CountsCause Memory before now = now ≡ before

abbrev pub CountsJournal : {T : Type 0} → Result T JournalFail → ℕ → ℕ → Type 0
CountsJournal (Ok x) before now = now ≡ before
CountsJournal (Err cause) before now = CountsCause cause before now

abbrev pub CountsAppend : {T : Type 0} → Result T AppendFail → ℕ → ℕ → Type 0
CountsAppend (Ok x) before now = now ≡ before
CountsAppend (Err Append.Failed) before now = Rises before now
CountsAppend (Err (Append.Full limit)) before now = now ≡ before
CountsAppend (Err Append.Memory) before now = now ≡ before

-- why a journal is not opened where its disk was not read
abbrev pub cause_of : LoadFail → JournalFail
cause_of Load.Failed = Failed
cause_of (Load.TooLong max) = TooLong max
cause_of Load.Memory = Memory
