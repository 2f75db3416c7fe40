-- Laws of packets: record by record they lead from a slice to any finer one.
use Rattle.std.specs.Prelude.{◌≡◌, ◌≤◌, ℕ, Bool, true, ◌&&◌, is_none, List, [], ◌∷◌, ◌++◌, length, IsTrue}
use Rattle.tgap_model.specs.declared.slice.Slice.{Slice}
use Rattle.tgap_model.specs.declared.record.StepRecord.{StepRecord}
use Rattle.tgap_model.specs.Base.{BaseMap, is_base}
use Rattle.tgap_model.specs.Partition.{IsPartition, base_segments}
use Rattle.tgap_model.specs.History.{history_of}
use Rattle.tgap_model.specs.Merged.{MergedMap, merged}
use Rattle.tgap_model.specs.Slice.{slice}
use Rattle.tgap_model.specs.Records.{packet_of, undo, replayed, broken_rule}

-- each record fits the slice that those before it leave
abbrev pub each_fits : Slice → List StepRecord → Bool
each_fits s [] = true
each_fits s (r ∷ records) = is_none (broken_rule s r) && each_fits (undo s r) records

abbrev pub PacketsFit : Type 0
PacketsFit =
    (m : BaseMap) → IsTrue (is_base m) → IsPartition (base_segments m)
    → (from to : ℕ) → to ≤ from → from ≤ length (history_of m) → each_fits (slice m from) (packet_of (merged m) from to).steps ≡ true

-- and all together lead to the finer slice
abbrev pub PacketsLead : Type 0
PacketsLead =
    (m : BaseMap) → IsTrue (is_base m) → IsPartition (base_segments m)
    → (from to : ℕ) → to ≤ from → from ≤ length (history_of m) → replayed (slice m from) (packet_of (merged m) from to) ≡ slice m to

-- the records down to a slice between come first, and those on from there follow
abbrev pub PacketsJoin : Type 0
PacketsJoin =
    (h : MergedMap) (from middle to : ℕ) → to ≤ middle → middle ≤ from
    → (packet_of h from to).steps ≡ (packet_of h from middle).steps ++ (packet_of h middle to).steps
