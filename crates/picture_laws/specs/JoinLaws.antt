-- Laws of the windows of several areas: together they are one part of the slice.
use Rattle.std.specs.Prelude.{◌≡◌, ◌≤◌, ℕ, IsTrue, List, map, length, All}
use Rattle.std.specs.List.{list_any}
use Rattle.tgap_model.specs.declared.geometry.Window.{Window}
use Rattle.tgap_model.specs.declared.slice.Slice.{Slice}
use Rattle.tgap_model.specs.Base.{BaseMap, is_base}
use Rattle.tgap_model.specs.Partition.{IsPartition, base_segments}
use Rattle.tgap_model.specs.History.{history_of}
use Rattle.tgap_model.specs.Merged.{MergedMap, merged}
use Rattle.tgap_model.specs.Slice.{meets_window, slice_at}
use Rattle.tgap_model.specs.WindowRecords.{window_at, window_packet_of, replayed_in}
use Rattle.picture_laws.specs.Joined.{joined, part_of}

-- the windows of some areas at one step are the edges of the slice that meet one of the areas, with the faces beside them
abbrev pub WindowsJoin : Type 0
WindowsJoin =
    (h : MergedMap) (k : ℕ) (areas : List Window)
    → joined k (map (λ area. window_at h area k) areas) ≡ part_of (λ e. list_any (λ area. meets_window area e) areas) (slice_at h k)

-- a window that was sent: its area, and the step that it was sent at
pub record Sent : Type 0 where
  pub area : Window
  pub from : ℕ

-- what its own packet makes of it
abbrev pub refined_to : MergedMap → ℕ → Sent → Slice
refined_to h to w = replayed_in (window_at h w.area w.from) (window_packet_of h w.area w.from to)

-- Windows that were sent at steps of the history, once each is led by its packet to one step that is no later than these, are the
-- edges of the slice after that step that meet one of the areas, with the faces beside them.
abbrev pub RefinedWindowsJoin : Type 0
RefinedWindowsJoin =
    (m : BaseMap) → IsTrue (is_base m) → IsPartition (base_segments m)
    → (to : ℕ) (sent : List Sent) → All (λ w. (to ≤ w.from) × (w.from ≤ length (history_of m))) sent
    → joined to (map (refined_to (merged m) to) sent) ≡ part_of (λ e. list_any (λ w. meets_window w.area e) sent) (slice_at (merged m) to)
