-- Records undone one after the other.
use Rattle.std.specs.Prelude.{◌≡◌, ℕ, ◌==◌, List, [], ◌∷◌, take, Option, Some, None, Result, Ok, Err, ⊤, if◌then◌else◌}
use Rattle.tgap_model.specs.declared.slice.Slice.{Slice}
use Rattle.tgap_model.specs.declared.record.StepRecord.{StepRecord}
use Rattle.tgap_model.specs.declared.record.Packet.{Packet}
use Rattle.tgap_model.specs.declared.failure.Or.{Or}
use Rattle.tgap_model.specs.declared.failure.Or.TheVariants.{Fault, Memory}
use Rattle.tgap_model.specs.Records.{broken_rule, undo}
use Rattle.client_replay.specs.declared.unfit.Unfit.{Unfit}

-- the slice after a record: a step back, or as it was where the record breaks a rule
abbrev pub after : Slice → StepRecord → Option ℕ → Slice
after s r None = undo s r
after s r (Some rule) = s

-- what the records make of a slice, and why they stop before the end, where they do: the first that breaks a rule
abbrev pub undone : Slice → List StepRecord → Slice × Option Unfit
undone s [] = (s, None)
undone s (r ∷ records) = elim (broken_rule s r) [
  | None ↦ undone (undo s r) records
  | Some rule ↦ (s, Some (record { step = r.step; rule = rule }))
]

-- What a packet makes of a slice, and why it stops; it fits no slice but that of the step that it begins at.
unfoldable pub outcome : Slice → Packet → Slice × Option Unfit
outcome s p = if s.step == p.from then undone s p.steps else (s, Some (record { step = p.from; rule = 1 }))

-- the result of a call, and the slice that it left, are these; want of memory says nothing
abbrev pub Leaves : Result (Unit {0}) (Or Unfit) → Slice → Slice × Option Unfit → Type 0
Leaves (Ok x) s o = o ≡ (s, None)
Leaves (Err (Fault u)) s o = o ≡ (s, Some u)
Leaves (Err Memory) s o = ⊤

-- some first records, all of which fit, have been undone
abbrev pub IsPartWay : Slice → List StepRecord → Slice → Type 0
IsPartWay from records s = (n : ℕ) × (undone from (take n records) ≡ (s, None))

-- where memory is wanted
abbrev pub OnMemory : Result (Unit {0}) (Or Unfit) → Type 0 → Type 0
OnMemory (Ok x) fact = ⊤
OnMemory (Err (Fault u)) fact = ⊤
OnMemory (Err Memory) fact = fact
