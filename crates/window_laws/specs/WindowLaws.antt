-- Laws of one record of a window: it fits the window of the slice of its step, and leads it back to the window of the slice one
-- step before; and where what comes with it is from.
use Rattle.std.specs.Prelude.{◌≡◌, ◌≤◌, ℕ, ◌-◌, ◌==◌, true, ◌||◌, not, ◌++◌, flat_map, filter, length, IsTrue, None}
use Rattle.std.specs.List.{list_all, list_any}
use Rattle.lemmas.specs.Sorting.{sort_by}
use Rattle.tgap_model.specs.declared.geometry.Window.{Window}
use Rattle.tgap_model.specs.Base.{BaseMap, is_base}
use Rattle.tgap_model.specs.Partition.{IsPartition, base_segments}
use Rattle.tgap_model.specs.History.{history_of}
use Rattle.tgap_model.specs.Merged.{merged}
use Rattle.tgap_model.specs.Removals.{has_side}
use Rattle.tgap_model.specs.Slice.{meets_window, slice}
use Rattle.tgap_model.specs.Records.{step_record, refined, edge_before}
use Rattle.tgap_model.specs.WindowRecords.{window_at, window_step, undo_in, broken_rule_in}

-- the record of a step for an area fits the window of the slice after the step
abbrev pub WindowStepsFit : Type 0
WindowStepsFit =
    (m : BaseMap) → IsTrue (is_base m) → IsPartition (base_segments m)
    → (j : ℕ) → 1 ≤ j → j ≤ length (history_of m) → (area : Window)
    → broken_rule_in area (window_at (merged m) area j) (window_step (merged m) area j) ≡ None

-- and leads it back to the window of the slice before the step
abbrev pub WindowUndoGoesBack : Type 0
WindowUndoGoesBack =
    (m : BaseMap) → IsTrue (is_base m) → IsPartition (base_segments m)
    → (j : ℕ) → 1 ≤ j → j ≤ length (history_of m) → (area : Window)
    → undo_in area (window_at (merged m) area j) (window_step (merged m) area j) ≡ window_at (merged m) area (j - 1)

-- The edges that come are those in the window of two kinds: the edges that the step ends, and what undoing it makes of the edges
-- that are outside the window after it.
abbrev pub WindowComesAre : Type 0
WindowComesAre =
    (m : BaseMap) → IsTrue (is_base m) → IsPartition (base_segments m)
    → (j : ℕ) → 1 ≤ j → j ≤ length (history_of m) → (area : Window)
    → (window_step (merged m) area j).comes
    ≡ sort_by edge_before (filter (meets_window area)
    (flat_map (refined (step_record (merged m) j)) (filter (λ e. not (meets_window area e)) (slice m j).edges) ++ (step_record (merged m) j).ended))

-- and a face whose row comes is loser or winner, or stands beside an edge that comes
abbrev pub WindowFacesComeWithEdges : Type 0
WindowFacesComeWithEdges =
    (m : BaseMap) → IsTrue (is_base m) → IsPartition (base_segments m)
    → (j : ℕ) → 1 ≤ j → j ≤ length (history_of m) → (area : Window)
    → let r = window_step (merged m) area j in
    list_all (λ f. (f.face == r.loser) || (f.face == r.winner) || list_any (has_side f.face) r.comes) r.faces ≡ true
