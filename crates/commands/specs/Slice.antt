-- The command that tells the slice of a map after a step of its history.
use Rattle.std.specs.Prelude.{◌≡◌, ◌<◌, ◌≤◌, ℕ, nat_lt, List, ◌∷◌, length, Option, Some, None, option_map, option_and_then, if◌then◌else◌}
use Rattle.tgap_model.specs.declared.merge.MergeStep.{MergeStep}
use Rattle.tgap_model.specs.declared.slice.Slice.{Slice}
use Rattle.tgap_model.specs.Base.{BaseMap}
use Rattle.tgap_model.specs.Partition.{IsPartition, base_segments, edge_segments, map_fault}
use Rattle.tgap_model.specs.History.{IsHistory, history_of}
use Rattle.tgap_model.specs.Merged.{merged}
use Rattle.tgap_model.specs.Removals.{removals_to}
use Rattle.tgap_model.specs.Slice.{IsSlice, slice}
use Rattle.wire_text.specs.SliceTexts.{slice_text}
use Rattle.step_laws.specs.StepLaws.{ArePlanar}
use Rattle.slice_read.specs.Reading.{HasAdjacentFaces, HasUnions}
use Rattle.commands.specs.declared.outcome.Outcome.{Outcome}
use Rattle.commands.specs.declared.outcome.Outcome.TheVariants.{Done, Refused, StepTooHigh}
use Rattle.commands.specs.Command as spec
use Rattle.commands.specs.Check.{IsFirstFault}

-- the words after its name: the file of a map, a step, and what else its source names
abbrev pub slice_command : List (List ℕ) → Option spec.Command
slice_command (map ∷ step ∷ words) =
    option_and_then (λ source. option_map (spec.Slice source) (spec.step_of step)) (spec.source_named map words)
slice_command words = None

-- The map after k steps of its merge history. It is the slice by the definition: its faces are the live ones, and its edges are
-- chains of arcs, less the vertices that were removed by then, with the faces at the sides of each arc. It is a planar partition, and
-- its edges have keys that differ and no two points in a row that are one. Outside the triangles of removed vertices each face is the
-- union of the base faces that it was made of, and two faces are adjacent exactly where base faces of theirs are.
pub record IsSliceOf (m : BaseMap) (k : ℕ) (s : Slice) : Type 0 where
  pub exact : s ≡ slice m k
  pub chains : IsSlice (merged m) k (removals_to (merged m) k) s
  pub planar : ArePlanar s.edges
  pub partition : IsPartition (edge_segments s.edges)
  pub unions : HasUnions m k s
  pub adjacent : HasAdjacentFaces m k s

-- What comes of it for a planar partition and the step k: its slice after k steps of the merge history; or k is above the number of
-- its steps.
abbrev pub SaysSliceOf : ℕ → BaseMap → Outcome → Type 0
SaysSliceOf k m (Done text) = IsHistory m (history_of m) × (k ≤ length (history_of m)) × ((s : Slice) × IsSliceOf m k s × (text ≡ slice_text s))
SaysSliceOf k m (StepTooHigh last) = (steps : List MergeStep) × IsHistory m steps × (last ≡ length steps) × (length steps < k)
SaysSliceOf k m other = ⊥

-- What comes of it for a base map: it is no planar partition, and its first fault is told; or it is one, of which that comes.
abbrev pub SaysSlice : ℕ → BaseMap → Outcome → Type 0
SaysSlice k m (Refused fault) = IsFirstFault m fault
SaysSlice k m outcome = IsPartition (base_segments m) × SaysSliceOf k m outcome

-- the same as functions
unfoldable pub slice_of_outcome : ℕ → BaseMap → Outcome
slice_of_outcome k m = if nat_lt (length (history_of m)) k then StepTooHigh (length (history_of m)) else Done (slice_text (slice m k))

unfoldable pub slice_outcome : ℕ → BaseMap → Outcome
slice_outcome k m = elim (map_fault m) [ Some fault ↦ Refused fault | None ↦ slice_of_outcome k m ]
