-- Laws of packets of a window: record by record they lead from the window of a slice to that of any finer one.
use Rattle.std.specs.Prelude.{◌≡◌, ◌≤◌, ℕ, Bool, true, ◌&&◌, is_none, List, [], ◌∷◌, ◌++◌, length, IsTrue}
use Rattle.tgap_model.specs.declared.geometry.Window.{Window}
use Rattle.tgap_model.specs.declared.slice.Slice.{Slice}
use Rattle.tgap_model.specs.declared.window_record.WindowStep.{WindowStep}
use Rattle.tgap_model.specs.Base.{BaseMap, is_base}
use Rattle.tgap_model.specs.Partition.{IsPartition, base_segments}
use Rattle.tgap_model.specs.History.{history_of}
use Rattle.tgap_model.specs.Merged.{MergedMap, merged}
use Rattle.tgap_model.specs.WindowRecords.{window_at, window_packet_of, undo_in, replayed_in, broken_rule_in}

-- each record fits the window that those before it leave
abbrev pub each_fits_in : Window → Slice → List WindowStep → Bool
each_fits_in area s [] = true
each_fits_in area s (r ∷ records) = is_none (broken_rule_in area s r) && each_fits_in area (undo_in area s r) records

abbrev pub WindowPacketsFit : Type 0
WindowPacketsFit =
    (m : BaseMap) → IsTrue (is_base m) → IsPartition (base_segments m)
    → (from to : ℕ) → to ≤ from → from ≤ length (history_of m) → (area : Window)
    → each_fits_in area (window_at (merged m) area from) (window_packet_of (merged m) area from to).steps ≡ true

-- and all together lead to the window of the finer slice
abbrev pub WindowPacketsLead : Type 0
WindowPacketsLead =
    (m : BaseMap) → IsTrue (is_base m) → IsPartition (base_segments m)
    → (from to : ℕ) → to ≤ from → from ≤ length (history_of m) → (area : Window)
    → replayed_in (window_at (merged m) area from) (window_packet_of (merged m) area from to) ≡ window_at (merged m) area to

-- the records down to a slice between come first, and those on from there follow
abbrev pub WindowPacketsJoin : Type 0
WindowPacketsJoin =
    (h : MergedMap) (area : Window) (from middle to : ℕ) → to ≤ middle → middle ≤ from
    → (window_packet_of h area from to).steps ≡ (window_packet_of h area from middle).steps ++ (window_packet_of h area middle to).steps
