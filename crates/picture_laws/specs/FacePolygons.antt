-- Laws of the polygons of a face, as an export tells them: which points they enclose together, and how often they go round a point.
use Rattle.std.specs.Prelude.{◌≡◌, ◌≢◌, ◌≤◌, ℕ, ◌==◌, Bool, pos, ◌+ℤ◌, List, [], ◌∷◌, filter, flat_map, fold, length, count_by, Contains, Ok, if◌then◌else◌, IsTrue}
use Rattle.lemmas.specs.Parity.{is_odd}
use Rattle.tgap_model.specs.declared.geometry.Fraction.{Fraction}
use Rattle.tgap_model.specs.declared.geometry.Seg.{Seg}
use Rattle.tgap_model.specs.declared.slice.Edge.{Edge}
use Rattle.tgap_model.specs.declared.slice.FaceRow.{FaceRow}
use Rattle.tgap_model.specs.Base.{BaseMap, is_base}
use Rattle.tgap_model.specs.Segment.{IsBetweenColumns, line_through}
use Rattle.tgap_model.specs.Partition.{IsPartition, base_segments, edge_segments}
use Rattle.tgap_model.specs.History.{history_of}
use Rattle.tgap_model.specs.Slice.{slice}
use Rattle.map_laws.specs.Inside.{is_inside}
use Rattle.removal_laws.specs.InsideLaws.{is_over}
use Rattle.ring_walk.specs.Areas.{ring_segments}
use Rattle.slice_read.specs.Ends.{slice_ends}
use Rattle.topo_write.specs.Polygons.{Polygon, lines_of, polygons_of}
use Rattle.picture_laws.specs.FaceRings.{winding}

-- the segments of all rings of a polygon, each in the direction of its ring
abbrev pub polygon_segments : List Edge → Polygon → List Seg
polygon_segments edges p = flat_map (ring_segments (lines_of edges)) p.rings

-- those of some polygons that are parts of a face
abbrev pub parts_of : ℕ → List Polygon → List Polygon
parts_of f polygons = filter (λ p. p.row.face == f) polygons

-- A point is in a polygon by the even-odd rule: the ray up from it crosses an odd number of the segments of its rings.
abbrev pub is_in_polygon : List Edge → Fraction → Polygon → Bool
is_in_polygon edges q p = is_odd (count_by (is_over q) (polygon_segments edges p))

-- ---- the laws

-- A point is inside a face exactly where it is in an odd number of the face's polygons.
abbrev pub PolygonsCoverFaces : Type 0
PolygonsCoverFaces =
    (m : BaseMap) → IsTrue (is_base m) → IsPartition (base_segments m) → (k : ℕ) → k ≤ length (history_of m)
    → (polygons : List Polygon) → polygons_of (slice m k).edges (slice_ends m k) (slice m k).faces ≡ Ok polygons
    → (row : FaceRow) → Contains (slice m k).faces row → (q : Fraction)
    → is_inside (edge_segments (slice m k).edges) row.face q ≡ is_odd (count_by (is_in_polygon (slice m k).edges q) (parts_of row.face polygons))

-- Between whole abscissas the polygons of a face together go round each point inside it once, and round no other.
abbrev pub PolygonsWindOnce : Type 0
PolygonsWindOnce =
    (m : BaseMap) → IsTrue (is_base m) → IsPartition (base_segments m) → (k : ℕ) → k ≤ length (history_of m)
    → (polygons : List Polygon) → polygons_of (slice m k).edges (slice_ends m k) (slice m k).faces ≡ Ok polygons
    → (row : FaceRow) → Contains (slice m k).faces row → row.face ≢ 0 → (q : Fraction) → IsBetweenColumns (line_through q)
    → fold (λ sum p. sum +ℤ winding q (polygon_segments (slice m k).edges p)) (pos 0) (parts_of row.face polygons)
    ≡ (if is_inside (edge_segments (slice m k).edges) row.face q then pos 1 else pos 0)

-- So a face of one polygon is what that polygon encloses, by the even-odd rule and, between whole abscissas, by the winding number.
abbrev pub OnePolygonIsItsFace : Type 0
OnePolygonIsItsFace =
    (m : BaseMap) → IsTrue (is_base m) → IsPartition (base_segments m) → (k : ℕ) → k ≤ length (history_of m)
    → (polygons : List Polygon) → polygons_of (slice m k).edges (slice_ends m k) (slice m k).faces ≡ Ok polygons
    → (row : FaceRow) → Contains (slice m k).faces row → (p : Polygon) → parts_of row.face polygons ≡ p ∷ [] → (q : Fraction)
    → (is_in_polygon (slice m k).edges q p ≡ is_inside (edge_segments (slice m k).edges) row.face q)
    × (row.face ≢ 0 → IsBetweenColumns (line_through q)
    → winding q (polygon_segments (slice m k).edges p) ≡ (if is_inside (edge_segments (slice m k).edges) row.face q then pos 1 else pos 0))
