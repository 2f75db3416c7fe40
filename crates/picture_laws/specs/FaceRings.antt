-- Laws of the rings of a face: which points they enclose, and how often they go round a point.
use Rattle.std.specs.Prelude.{◌≡◌, ◌≢◌, ◌≤◌, ◌<◌, ℕ, true, false, ℤ, pos, neg_ℤ, ◌+ℤ◌, ◌*ℤ◌, ◌<ℤ◌, ◌≤ℤ◌, List, flat_map, fold, length, count_by, get_or, All, Contains, if◌then◌else◌, IsTrue}
use Rattle.lemmas.specs.Parity.{is_odd}
use Rattle.tgap_model.specs.declared.geometry.Fraction.{Fraction}
use Rattle.tgap_model.specs.declared.geometry.Point.{Point}
use Rattle.tgap_model.specs.declared.geometry.Seg.{Seg}
use Rattle.tgap_model.specs.declared.slice.Edge.{Edge}
use Rattle.tgap_model.specs.Base.{BaseMap, is_base, same_point}
use Rattle.tgap_model.specs.Segment.{IsBetweenColumns, line_through, goes_right, is_on}
use Rattle.tgap_model.specs.Partition.{IsPartition, base_segments, edge_segments}
use Rattle.tgap_model.specs.History.{history_of}
use Rattle.tgap_model.specs.Slice.{slice}
use Rattle.map_laws.specs.Inside.{is_inside}
use Rattle.removal_laws.specs.InsideLaws.{is_over}
use Rattle.ring_walk.specs.declared.span.Span.{Span}
use Rattle.ring_walk.specs.declared.side.Side.{Side}
use Rattle.ring_walk.specs.Sides.{start_of}
use Rattle.ring_walk.specs.Rings.{rings_of, ring_face}
use Rattle.ring_walk.specs.Areas.{points_of, ring_area, ring_segments, segments_of}
use Rattle.topo_write.specs.Polygons.{lines_of, of_face}
use Rattle.topo_laws.specs.RingFaces.{slice_spans}
use Rattle.picture_laws.specs.Areas.{area_in}

-- the rings of a face of a slice
abbrev pub face_rings : BaseMap → ℕ → ℕ → List (List Side)
face_rings m k f = of_face (slice_spans m k) f (rings_of (slice_spans m k))

-- the segments of all of them, each in the direction of its ring, which has the face at its left
abbrev pub face_segments : BaseMap → ℕ → ℕ → List Seg
face_segments m k f = flat_map (ring_segments (lines_of (slice m k).edges)) (face_rings m k f)

-- what a segment over a point adds to the number of times that rings go round it: 1 where it goes to the left, -1 where it goes
-- to the right
abbrev pub winding_part : Fraction → Seg → ℤ
winding_part p s = if is_over p s then (if goes_right s then neg_ℤ (pos 1) else pos 1) else pos 0

-- how often rings of these segments go round a point, counter-clockwise
abbrev pub winding : Fraction → List Seg → ℤ
winding p segments = fold (λ sum s. sum +ℤ winding_part p s) (pos 0) segments

-- ---- the laws

-- A point is inside a face exactly where the ray up from it crosses an odd number of the segments of the face's rings.
abbrev pub RingsCoverFaces : Type 0
RingsCoverFaces =
    (m : BaseMap) → IsTrue (is_base m) → IsPartition (base_segments m) → (k : ℕ) → k ≤ length (history_of m)
    → (f : ℕ) (p : Fraction) → is_inside (edge_segments (slice m k).edges) f p ≡ is_odd (count_by (is_over p) (face_segments m k f))

-- Between whole abscissas the rings of a face together go round each point inside it once, counter-clockwise, and round no other.
abbrev pub RingsWindOnce : Type 0
RingsWindOnce =
    (m : BaseMap) → IsTrue (is_base m) → IsPartition (base_segments m) → (k : ℕ) → k ≤ length (history_of m)
    → (f : ℕ) → f ≢ 0 → (p : Fraction) → IsBetweenColumns (line_through p)
    → winding p (face_segments m k f) ≡ (if is_inside (edge_segments (slice m k).edges) f p then pos 1 else pos 0)

-- The areas of the rings of a face together, of which those round holes are negative, are the area of the face.
abbrev pub RingAreasAdd : Type 0
RingAreasAdd =
    (m : BaseMap) → IsTrue (is_base m) → IsPartition (base_segments m) → (k : ℕ) → k ≤ length (history_of m)
    → (f : ℕ) → fold (λ sum r. sum +ℤ ring_area (lines_of (slice m k).edges) r) (pos 0) (face_rings m k f) ≡ area_in (slice m k).edges f

-- A ring of a slice is closed: at each point as many of its segments begin as end.
abbrev pub RingsAreClosed : Type 0
RingsAreClosed =
    (m : BaseMap) → IsTrue (is_base m) → IsPartition (base_segments m) → (k : ℕ) → k ≤ length (history_of m)
    → All (λ ring. (v : Point)
    → count_by (λ s. same_point s.a v) (ring_segments (lines_of (slice m k).edges) ring)
    ≡ count_by (λ s. same_point s.b v) (ring_segments (lines_of (slice m k).edges) ring)) (rings_of (slice_spans m k))

-- Along an edge a ring that has none of its sides goes round each point equally often: at any two points between whole abscissas.
abbrev pub RingsPassEdges : Type 0
RingsPassEdges =
    (m : BaseMap) → IsTrue (is_base m) → IsPartition (base_segments m) → (k : ℕ) → k ≤ length (history_of m)
    → (ring : List Side) → Contains (rings_of (slice_spans m k)) ring
    → (i : ℕ) (e : Edge) → i < length (slice m k).edges → get_or (slice m k).edges i e ≡ e → All (λ s. s.span ≢ i) ring
    → (s t : Seg) → Contains (segments_of e.points) s → Contains (segments_of e.points) t
    → (p q : Fraction) → IsBetweenColumns (line_through p) → IsBetweenColumns (line_through q) → is_on p s ≡ true → is_on q t ≡ true
    → winding p (ring_segments (lines_of (slice m k).edges) ring) ≡ winding q (ring_segments (lines_of (slice m k).edges) ring)

-- a point on the straight way from p to q: a mean of the two, with weights that are not negative
pub record IsOnWay (p q z : Fraction) : Type 0 where
  pub rational : pos 0 <ℤ z.d
  pub total : ℤ
  pub near : ℤ
  pub far : ℤ
  pub positive : pos 0 <ℤ total
  pub near_sign : pos 0 ≤ℤ near
  pub far_sign : pos 0 ≤ℤ far
  pub over_x : total *ℤ z.nx ≡ near *ℤ p.nx +ℤ far *ℤ q.nx
  pub over_y : total *ℤ z.ny ≡ near *ℤ p.ny +ℤ far *ℤ q.ny
  pub under : total *ℤ z.d ≡ near *ℤ p.d +ℤ far *ℤ q.d

-- A ring goes equally often round two points where no segment of it meets the straight way between them.
abbrev pub RingsWindAlike : Type 0
RingsWindAlike =
    (m : BaseMap) → IsTrue (is_base m) → IsPartition (base_segments m) → (k : ℕ) → k ≤ length (history_of m)
    → (ring : List Side) → Contains (rings_of (slice_spans m k)) ring
    → (p q : Fraction) → IsBetweenColumns (line_through p) → IsBetweenColumns (line_through q)
    → ((z : Fraction) → IsOnWay p q z → All (λ s. is_on z s ≡ false) (ring_segments (lines_of (slice m k).edges) ring))
    → winding p (ring_segments (lines_of (slice m k).edges) ring) ≡ winding q (ring_segments (lines_of (slice m k).edges) ring)

-- So of two rings of one face the one goes equally often round all points of an edge of the other.
abbrev pub RingsOfFacePass : Type 0
RingsOfFacePass =
    (m : BaseMap) → IsTrue (is_base m) → IsPartition (base_segments m) → (k : ℕ) → k ≤ length (history_of m)
    → (q r : List Side) → Contains (rings_of (slice_spans m k)) q → Contains (rings_of (slice_spans m k)) r
    → q ≢ r → ring_face (slice_spans m k) q ≡ ring_face (slice_spans m k) r → (a : Side) → Contains r a
    → (s t : Seg) → Contains (segments_of (points_of (lines_of (slice m k).edges) a)) s → Contains (segments_of (points_of (lines_of (slice m k).edges) a)) t
    → (p z : Fraction) → IsBetweenColumns (line_through p) → IsBetweenColumns (line_through z) → is_on p s ≡ true → is_on z t ≡ true
    → winding p (ring_segments (lines_of (slice m k).edges) q) ≡ winding z (ring_segments (lines_of (slice m k).edges) q)

-- no side of the one ring leaves a node that a side of the other leaves
abbrev pub HaveNoCommonNode : List Span → List Side → List Side → Type 0
HaveNoCommonNode spans q r = (a b : Side) → Contains q a → Contains r b → start_of spans a ≢ start_of spans b

-- And of two rings without a common node the one goes equally often round all points of the other.
abbrev pub RingsApartPass : Type 0
RingsApartPass =
    (m : BaseMap) → IsTrue (is_base m) → IsPartition (base_segments m) → (k : ℕ) → k ≤ length (history_of m)
    → (q r : List Side) → Contains (rings_of (slice_spans m k)) q → Contains (rings_of (slice_spans m k)) r → HaveNoCommonNode (slice_spans m k) q r
    → (s t : Seg) → Contains (ring_segments (lines_of (slice m k).edges) r) s → Contains (ring_segments (lines_of (slice m k).edges) r) t
    → (p z : Fraction) → IsBetweenColumns (line_through p) → IsBetweenColumns (line_through z) → is_on p s ≡ true → is_on z t ≡ true
    → winding p (ring_segments (lines_of (slice m k).edges) q) ≡ winding z (ring_segments (lines_of (slice m k).edges) q)

-- the segments of some rings of a slice, and their areas together
abbrev pub all_segments : BaseMap → ℕ → List (List Side) → List Seg
all_segments m k rings = flat_map (ring_segments (lines_of (slice m k).edges)) rings

abbrev pub all_areas : BaseMap → ℕ → List (List Side) → ℤ
all_areas m k rings = fold (λ sum r. sum +ℤ ring_area (lines_of (slice m k).edges) r) (pos 0) rings

-- Rings that go round no point more often than others have no greater area together.
abbrev pub RingAreasFollowWinding : Type 0
RingAreasFollowWinding =
    (m : BaseMap) → IsTrue (is_base m) → IsPartition (base_segments m) → (k : ℕ) → k ≤ length (history_of m)
    → (qs rs : List (List Side)) → All (Contains (rings_of (slice_spans m k))) qs → All (Contains (rings_of (slice_spans m k))) rs
    → ((p : Fraction) → IsBetweenColumns (line_through p) → winding p (all_segments m k qs) ≤ℤ winding p (all_segments m k rs))
    → all_areas m k qs ≤ℤ all_areas m k rs

-- the point is midway between the abscissa v and the next whole one
pub record IsMidway (p : Fraction) (v : ℤ) : Type 0 where
  pub rational : pos 0 <ℤ p.d
  pub half : pos 2 *ℤ p.nx ≡ p.d *ℤ (pos 2 *ℤ v +ℤ pos 1)

-- Where they go round some point midway between two whole abscissas less often, they have less area together.
abbrev pub RingAreasGrow : Type 0
RingAreasGrow =
    (m : BaseMap) → IsTrue (is_base m) → IsPartition (base_segments m) → (k : ℕ) → k ≤ length (history_of m)
    → (qs rs : List (List Side)) → All (Contains (rings_of (slice_spans m k))) qs → All (Contains (rings_of (slice_spans m k))) rs
    → ((p : Fraction) → IsBetweenColumns (line_through p) → winding p (all_segments m k qs) ≤ℤ winding p (all_segments m k rs))
    → (v : ℤ) (p : Fraction) → IsMidway p v → winding p (all_segments m k qs) <ℤ winding p (all_segments m k rs)
    → all_areas m k qs <ℤ all_areas m k rs
