-- Laws of the face at a point: the lowest segment over it tells the face, and a window that goes up from the point has that segment.
use Rattle.std.specs.Prelude.{◌≡◌, ◌≢◌, ◌≤◌, ◌<ℤ◌, ◌≤ℤ◌, ℕ, true, ◌==◌, IsTrue, ℤ, pos, ◌+ℤ◌, ◌-ℤ◌, ◌*ℤ◌, length, Contains}
use Rattle.tgap_model.specs.declared.geometry.Fraction.{Fraction}
use Rattle.tgap_model.specs.declared.geometry.Window.{Window}
use Rattle.tgap_model.specs.declared.limits.TheConstants.{MAX_COORDINATE}
use Rattle.tgap_model.specs.declared.segment.LabelledSegment.{LabelledSegment}
use Rattle.tgap_model.specs.declared.slice.Edge.{Edge}
use Rattle.tgap_model.specs.Base.{BaseMap, is_base}
use Rattle.tgap_model.specs.Bounds.{max_cross}
use Rattle.tgap_model.specs.Segment.{IsBetweenColumns, line_through, is_on}
use Rattle.tgap_model.specs.Partition.{IsPartition, base_segments, edge_segments, path_segments}
use Rattle.tgap_model.specs.History.{history_of}
use Rattle.tgap_model.specs.Slice.{slice, window_of}
use Rattle.map_laws.specs.Inside.{is_inside}
use Rattle.picture_laws.specs.FaceAt.{lowest_over, face_told, IsOff}

-- A point between whole abscissas that is on no edge of a slice is inside the face that the lowest segment over it tells, and
-- inside no other; where 0 is told it is inside none.
abbrev pub LowestEdgeTellsFace : Type 0
LowestEdgeTellsFace =
    (m : BaseMap) → IsTrue (is_base m) → IsPartition (base_segments m) → (k : ℕ) → k ≤ length (history_of m)
    → (p : Fraction) → IsBetweenColumns (line_through p) → IsOff p (slice m k).edges → (f : ℕ) → f ≢ 0
    → is_inside (edge_segments (slice m k).edges) f p ≡ (face_told p (slice m k).edges == f)

-- A point is just right of another: it has the same height, and is less far off than the inverse of the other's denominator times
-- the greatest cross product of differences of points.
pub record IsJustRightOf (q p : Fraction) : Type 0 where
  pub rational : pos 0 <ℤ q.d
  pub height : q.ny *ℤ p.d ≡ p.ny *ℤ q.d
  pub right : (p.nx *ℤ q.d) <ℤ (q.nx *ℤ p.d)
  pub near : ((q.nx *ℤ p.d -ℤ p.nx *ℤ q.d) *ℤ pos max_cross) <ℤ q.d

-- At any abscissa, that of vertices too: the points just right of a point that is on no edge are inside the face that the lowest
-- segment over that point tells, and inside no other.
abbrev pub LowestEdgeTellsFaceBeside : Type 0
LowestEdgeTellsFaceBeside =
    (m : BaseMap) → IsTrue (is_base m) → IsPartition (base_segments m) → (k : ℕ) → k ≤ length (history_of m)
    → (p : Fraction) → pos 0 <ℤ p.d → IsOff p (slice m k).edges → (q : Fraction) → IsJustRightOf q p → (f : ℕ) → f ≢ 0
    → is_inside (edge_segments (slice m k).edges) f q ≡ (face_told p (slice m k).edges == f)

-- the point is in the closed area
pub record IsWithin (area : Window) (p : Fraction) : Type 0 where
  pub rational : pos 0 <ℤ p.d
  pub left : (p.d *ℤ area.x0) ≤ℤ p.nx
  pub right : p.nx ≤ℤ (p.d *ℤ area.x1)
  pub lower : (p.d *ℤ area.y0) ≤ℤ p.ny
  pub upper : p.ny ≤ℤ (p.d *ℤ area.y1)

-- An edge of the slice of which a segment goes through a point of the area is in the window.
abbrev pub WindowHasEdgesWithin : Type 0
WindowHasEdgesWithin =
    (m : BaseMap) (k : ℕ) (area : Window) (e : Edge) → Contains (slice m k).edges e
    → (s : LabelledSegment) → Contains (path_segments e.key e.left e.right 0 e.points) s
    → (p : Fraction) → IsWithin area p → is_on p s.segment ≡ true → Contains (window_of area (slice m k)).edges e

-- The area goes from a point up over the whole map: it has the whole abscissa at the point or left of it, so its width may be 0.
pub record GoesUpFrom (area : Window) (p : Fraction) : Type 0 where
  pub rational : pos 0 <ℤ p.d
  pub left : (p.d *ℤ area.x0) ≤ℤ p.nx
  pub right : p.nx <ℤ (p.d *ℤ (area.x1 +ℤ pos 1))
  pub lower : (p.d *ℤ area.y0) ≤ℤ p.ny
  pub upper : MAX_COORDINATE ≤ℤ area.y1

-- The lowest segment over the point is the same in the window of such an area as in the slice.
abbrev pub WindowHasLowestEdge : Type 0
WindowHasLowestEdge =
    (m : BaseMap) → IsTrue (is_base m) → (k : ℕ) (area : Window) (p : Fraction) → GoesUpFrom area p
    → lowest_over p (window_of area (slice m k)).edges ≡ lowest_over p (slice m k).edges

-- So where no edge in such a window goes through the point, the window tells the face at the points just right of it.
abbrev pub WindowTellsFace : Type 0
WindowTellsFace =
    (m : BaseMap) → IsTrue (is_base m) → IsPartition (base_segments m) → (k : ℕ) → k ≤ length (history_of m)
    → (area : Window) (p : Fraction) → GoesUpFrom area p → IsOff p (window_of area (slice m k)).edges
    → (q : Fraction) → IsJustRightOf q p → (f : ℕ) → f ≢ 0
    → is_inside (edge_segments (slice m k).edges) f q ≡ (face_told p (window_of area (slice m k)).edges == f)
