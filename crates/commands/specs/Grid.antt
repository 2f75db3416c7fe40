-- The command that tells what a generated map comes to: its counts, those of its last slice, and those of the slice that is reached
-- when all its steps are undone.
use Rattle.std.specs.Prelude.{◌≡◌, ◌+◌, ◌*◌, ℕ, true, List, [], ◌∷◌, ◌++◌, length, sum_by, codes, decimal, Option, None, option_map}
use Rattle.tgap_model.specs.declared.merge.MergeStep.{MergeStep}
use Rattle.tgap_model.specs.declared.slice.Edge.{Edge}
use Rattle.tgap_model.specs.declared.slice.Removal.{Removal}
use Rattle.tgap_model.specs.declared.slice.Slice.{Slice}
use Rattle.tgap_model.specs.declared.record.StepRecord.{StepRecord}
use Rattle.tgap_model.specs.declared.record.Packet.{Packet}
use Rattle.tgap_model.specs.Base.{BaseMap, count_points}
use Rattle.tgap_model.specs.Partition.{IsPartition, base_segments}
use Rattle.tgap_model.specs.History.{IsHistory, history_of}
use Rattle.tgap_model.specs.Merged.{merged}
use Rattle.tgap_model.specs.Removals.{removals_to}
use Rattle.tgap_model.specs.Slice.{slice}
use Rattle.tgap_model.specs.Records.{packet_of, replayed}
use Rattle.line_forms.specs.Texts.{line}
use Rattle.record_laws.specs.PacketLaws.{each_fits}
use Rattle.generator.specs.GridMap.{grid_base}
use Rattle.commands.specs.declared.outcome.Outcome.{Outcome}
use Rattle.commands.specs.declared.outcome.Outcome.TheVariants.{Done}
use Rattle.commands.specs.Command as spec
use Rattle.commands.specs.Slice.{IsSliceOf}

-- the words after its name: a number of rows
abbrev pub grid_command : List (List ℕ) → Option spec.Command
grid_command (rows ∷ []) = option_map spec.Grid (spec.rows_of rows)
grid_command words = None

-- how many points edges have, and how many vertices a record brings back
abbrev pub point_count : List Edge → ℕ
point_count edges = sum_by (λ e. length e.points) edges

abbrev pub put_count : StepRecord → ℕ
put_count r = sum_by (λ m. length m.puts) r.mends

-- a text with the counts of a base map behind it
abbrev pub with_base : List ℕ → BaseMap → List ℕ
with_base text m =
    text ++ 32 ∷ codes "faces" ++ 32 ∷ decimal (length m.classes) ++ 32 ∷ codes "arcs" ++ 32 ∷ decimal (length m.arcs)
    ++ 32 ∷ codes "points" ++ 32 ∷ decimal (count_points m.arcs)

-- The line: the number of rows; how many faces, arcs and points the map has; how many steps its history has, and how many vertices
-- these remove; how many edges and points its last slice has; and how many the slice has that was reached from there.
abbrev pub counts_text : ℕ → BaseMap → ℕ → ℕ → ℕ → ℕ → ℕ → ℕ → List ℕ
counts_text rows m steps removed edges kept reached points =
    line (codes "grid" ∷ decimal rows
    ∷ codes "faces" ∷ decimal (length m.classes) ∷ codes "arcs" ∷ decimal (length m.arcs) ∷ codes "points" ∷ decimal (count_points m.arcs)
    ∷ codes "steps" ∷ decimal steps ∷ codes "removed" ∷ decimal removed
    ∷ codes "edges" ∷ decimal edges ∷ codes "kept" ∷ decimal kept ∷ codes "replayed" ∷ decimal reached ∷ decimal points ∷ [])

abbrev pub grid_text : ℕ → BaseMap → List MergeStep → List Removal → Slice → Slice → List ℕ
grid_text rows m steps removals last reached =
    counts_text rows m (length steps) (length removals) (length last.edges) (point_count last.edges) (length reached.edges) (point_count reached.edges)

-- The packet of all steps of a map: it is the packet by the definition, each record fits the slice that those before it leave, and
-- all together lead from the last slice to the first one.
pub record IsWayBack (m : BaseMap) (packet : Packet) : Type 0 where
  pub exact : packet ≡ packet_of (merged m) (length (history_of m)) 0
  pub fits : each_fits (slice m (length (history_of m))) packet.steps ≡ true
  pub leads : replayed (slice m (length (history_of m))) packet ≡ slice m 0

-- The line of a map: it counts the map, the steps of its merge history and the vertices that they remove, the slice after the last
-- step, and the slice that the packet of all steps leads to from there.
pub record IsLineOf (rows : ℕ) (m : BaseMap) (text : List ℕ) : Type 0 where
  pub history : IsHistory m (history_of m)
  pub last : Slice
  pub last_is : IsSliceOf m (length (history_of m)) last
  pub packet : Packet
  pub way_back : IsWayBack m packet
  pub told : text ≡ grid_text rows m (history_of m) (removals_to (merged m) (length (history_of m))) last (replayed last packet)

-- what comes of a map that is checked: its line
abbrev pub SaysLine : ℕ → BaseMap → Outcome → Type 0
SaysLine rows m (Done text) = IsLineOf rows m text
SaysLine rows m other = ⊥

-- What comes of it: the line of the generated map, which is a planar partition with so many faces, arcs and points.
abbrev pub SaysGrid : ℕ → Outcome → Type 0
SaysGrid rows (Done text) =
    IsPartition (base_segments (grid_base rows)) × (length (grid_base rows).classes ≡ rows * rows)
    × (length (grid_base rows).arcs ≡ 2 * ((rows + 1) * rows)) × (count_points (grid_base rows).arcs ≡ 6 * ((rows + 1) * rows))
    × IsLineOf rows (grid_base rows) text
SaysGrid rows other = ⊥

-- the same as a function
unfoldable pub line_of : ℕ → BaseMap → List ℕ
line_of rows m =
    grid_text rows m (history_of m) (removals_to (merged m) (length (history_of m))) (slice m (length (history_of m))) (slice m 0)

abbrev pub grid_outcome : ℕ → Outcome
grid_outcome rows = Done (line_of rows (grid_base rows))
