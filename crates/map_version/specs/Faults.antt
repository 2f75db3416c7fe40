-- What an edited base map, or the first line at fault, is by the definition of a batch.
use Rattle.std.specs.Prelude.{◌≡◌, ℕ, Result, Ok, Err, ⊤}
use Rattle.tgap_model.specs.declared.failure.Or.{Or}
use Rattle.tgap_model.specs.declared.failure.Or.TheVariants.{Fault, Memory}
use Rattle.face_cuts.specs.declared.cause.Cause.{Cause}
use Rattle.map_version.specs.declared.fault.EditFault.{EditFault}

-- the number of the line and of the cause
abbrev pub told_fault : EditFault → ℕ × ℕ
told_fault fault = (fault.line, fault.cause)

-- the fault of the line with this number, for this cause
abbrev pub fault_at : ℕ → Or ℕ → Or EditFault
fault_at line (Fault cause) = Fault (record { line = line; cause = cause })
fault_at line Memory = Memory

-- the number of a cause
abbrev pub cause_number : Or Cause → Or ℕ
cause_number (Fault cause) = Fault cause.number
cause_number Memory = Memory

-- what a batch gives, want of memory apart
abbrev pub GivesEdited : {X : Type 0} → Result X (Or EditFault) → Result X (ℕ × ℕ) → Type 0
GivesEdited (Ok x) made = made ≡ Ok x
GivesEdited (Err (Fault fault)) made = made ≡ Err (told_fault fault)
GivesEdited (Err Memory) made = ⊤
