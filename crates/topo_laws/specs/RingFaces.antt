-- The rings of a slice and its faces.
use Rattle.std.specs.Prelude.{◌≡◌, ◌≤◌, ℕ, IsTrue, List, length, All}
use Rattle.tgap_model.specs.Base.{BaseMap, is_base}
use Rattle.tgap_model.specs.Partition.{IsPartition, base_segments}
use Rattle.tgap_model.specs.History.{history_of}
use Rattle.tgap_model.specs.Slice.{slice}
use Rattle.ring_walk.specs.declared.span.Span.{Span}
use Rattle.ring_walk.specs.declared.side.Side.{Side}
use Rattle.ring_walk.specs.Sides.{face_of}
use Rattle.ring_walk.specs.Rings.{next_side, rings_of, ring_face}
use Rattle.ring_walk.specs.Spans.{IsSide}
use Rattle.slice_read.specs.Ends.{slice_ends}
use Rattle.topo_write.specs.Polygons.{spans_of}

-- the edges of a slice after k steps, with their directions in the base map
abbrev pub slice_spans : BaseMap → ℕ → List Span
slice_spans m k = spans_of (slice m k).edges (slice_ends m k)

-- each side of a ring has the face of the ring
abbrev pub HasOneFace : List Span → List Side → Type 0
HasOneFace spans ring = All (λ s. face_of spans s ≡ ring_face spans ring) ring

-- ---- the laws

-- in a slice of a planar partition a side and its next one have one face
abbrev pub NextHasTheFace : Type 0
NextHasTheFace =
    (m : BaseMap) → IsTrue (is_base m) → IsPartition (base_segments m) → (k : ℕ) → k ≤ length (history_of m)
    → (s : Side) → IsSide (length (slice_spans m k)) s → face_of (slice_spans m k) (next_side (slice_spans m k) s) ≡ face_of (slice_spans m k) s

-- so each ring has one face
abbrev pub RingsHaveOneFace : Type 0
RingsHaveOneFace =
    (m : BaseMap) → IsTrue (is_base m) → IsPartition (base_segments m) → (k : ℕ) → k ≤ length (history_of m)
    → All (HasOneFace (slice_spans m k)) (rings_of (slice_spans m k))
