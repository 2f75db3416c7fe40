-- Laws of the slices of a planar partition at every step, where vertices are removed.
use Rattle.std.specs.Prelude.{◌≢◌, ◌≤◌, ◌↔◌, ℕ, IsTrue, List, length, All}
use Rattle.tgap_model.specs.declared.geometry.Fraction.{Fraction}
use Rattle.tgap_model.specs.declared.slice.Edge.{Edge}
use Rattle.tgap_model.specs.Base.{BaseMap, is_base}
use Rattle.tgap_model.specs.Segment.{Line, IsBetweenColumns, line_through}
use Rattle.tgap_model.specs.Partition.{IsPartition, base_segments, edge_segments}
use Rattle.map_laws.specs.Inside.{is_inside}
use Rattle.tgap_model.specs.History.{history_of}
use Rattle.tgap_model.specs.Merged.{merged}
use Rattle.tgap_model.specs.Slice.{slice}
use Rattle.removal_laws.specs.Trace.{trace_to}
use Rattle.removal_laws.specs.StandLaws.{AreSound}
use Rattle.removal_laws.specs.StackLaws.{AgreeOn}
use Rattle.removal_laws.specs.InsideLaws.{IsOutside}
use Rattle.slice_laws.specs.SliceLaws.{IsInsideBaseFace}

-- Segments of edges have no point in common but permitted ones, no two points in a row of an edge are one, the two faces of an edge
-- differ, and down each line between whole abscissas the faces agree.
pub record ArePlanar (edges : List Edge) : Type 0 where
  pub sound : AreSound edges
  pub two_faces : All (λ e. e.left ≢ e.right) edges
  pub stacks : (l : Line) → IsBetweenColumns l → AgreeOn l edges

-- every slice of a planar partition is such, whatever its ratio
abbrev pub SlicesStayPlanar : Type 0
SlicesStayPlanar =
    (m : BaseMap) → IsTrue (is_base m) → IsPartition (base_segments m) → (k : ℕ) → k ≤ length (history_of m)
    → ArePlanar (slice m k).edges

-- so it is a planar partition again
abbrev pub SlicesStayPartitions : Type 0
SlicesStayPartitions =
    (m : BaseMap) → IsTrue (is_base m) → IsPartition (base_segments m) → (k : ℕ) → k ≤ length (history_of m)
    → IsPartition (edge_segments (slice m k).edges)

-- Outside the triangles of all vertices that were removed by then, a face of the slice covers what its base faces cover: between
-- whole abscissas a point is inside the face exactly if one of them has it inside.
abbrev pub FacesStayUnions : Type 0
FacesStayUnions =
    (m : BaseMap) → IsTrue (is_base m) → IsPartition (base_segments m) → (k : ℕ) → k ≤ length (history_of m) → (f : ℕ) → f ≢ 0
    → (p : Fraction) → IsBetweenColumns (line_through p) → IsOutside p (trace_to (merged m) k)
    → IsTrue (is_inside (edge_segments (slice m k).edges) f p) ↔ IsInsideBaseFace m k f p
