-- Laws of one record: it fits the slice of its step, and leads it back to the slice one step before.
use Rattle.std.specs.Prelude.{◌≡◌, ◌≤◌, ℕ, ◌-◌, length, IsTrue, None}
use Rattle.tgap_model.specs.Base.{BaseMap, is_base}
use Rattle.tgap_model.specs.Partition.{IsPartition, base_segments}
use Rattle.tgap_model.specs.History.{history_of}
use Rattle.tgap_model.specs.Merged.{merged}
use Rattle.tgap_model.specs.Slice.{slice}
use Rattle.tgap_model.specs.Records.{step_record, undo, broken_rule}

-- the record of a step fits the slice after it
abbrev pub RecordsFit : Type 0
RecordsFit =
    (m : BaseMap) → IsTrue (is_base m) → IsPartition (base_segments m)
    → (j : ℕ) → 1 ≤ j → j ≤ length (history_of m) → broken_rule (slice m j) (step_record (merged m) j) ≡ None

-- and leads it back to the slice before it
abbrev pub UndoGoesBack : Type 0
UndoGoesBack =
    (m : BaseMap) → IsTrue (is_base m) → IsPartition (base_segments m)
    → (j : ℕ) → 1 ≤ j → j ≤ length (history_of m) → undo (slice m j) (step_record (merged m) j) ≡ slice m (j - 1)
