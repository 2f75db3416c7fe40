-- What a slice has to be for its text, and its rings by their places.
use Rattle.std.specs.Prelude.{◌≡◌, ◌≢◌, ◌≤◌, ◌<◌, ◌≤ℤ◌, ℕ, ◌-◌, ◌^◌, ◌==◌, ℤ, pos, int_lt, unsigned_abs, List, [], ◌∷◌, length, map, filter, slice_index_or, get_or, All, Option, Some, if◌then◌else◌}
use Rattle.std.specs.Int.{int_min}
use Rattle.std.specs.List.{range_with_len}
use Rattle.tgap_model.specs.declared.geometry.Point.{Point}
use Rattle.tgap_model.specs.declared.geometry.Seg.{Seg}
use Rattle.tgap_model.specs.declared.geometry.Window.{Window}
use Rattle.tgap_model.specs.declared.slice.Edge.{Edge}
use Rattle.tgap_model.specs.declared.slice.FaceRow.{FaceRow}
use Rattle.tgap_model.specs.declared.limits.TheConstants.{MAX_ARCS, MAX_POINTS}
use Rattle.tgap_model.specs.Bounds.{HasNearEnds, IsNear, max_arc_area}
use Rattle.tgap_model.specs.Point.{shoelace}
use Rattle.ring_walk.specs.declared.span.EdgeEnds.{EdgeEnds}
use Rattle.ring_walk.specs.declared.side.Side.{Side}
use Rattle.ring_walk.specs.Areas.{are_round, ring_area, ring_segments}
use Rattle.ring_walk.specs.Rings.{rings_of}
use Rattle.ring_walk.specs.Spans.{IsRing, IsSpan}
use Rattle.topo_write.specs.declared.home.Home.{Home}
use Rattle.topo_write.specs.declared.measured.Measured.{Measured}
use Rattle.topo_write.specs.declared.part.Part.{Part}
use Rattle.topo_write.specs.Polygons.{home_of, lines_of, nearer, of_face, polygons_from, spans_of, Polygon}

-- a row of points within the limits of a map
pub record IsLine (points : List Point) : Type 0 where
  pub near : All IsNear points
  pub some : 1 ≤ length points
  pub short : length points ≤ MAX_POINTS

-- Edges within the limits of a map, and for each of them the directions in which it leaves its nodes.
pub record HaveEnds (edges : List Edge) (ends : List EdgeEnds) : Type 0 where
  pub each : length ends ≡ length edges
  pub few : length edges ≤ MAX_ARCS
  pub lines : All (λ e. IsLine e.points) edges
  pub leave : All IsSpan (spans_of edges ends)

-- ---- rings by their places

abbrev pub ring_at : List (List Side) → ℕ → List Side
ring_at rings p = get_or rings p []

-- the places at which a list has a number
abbrev pub places_of : List ℕ → ℕ → List ℕ
places_of keys k = filter (λ p. get_or keys p 0 == k) (range_with_len 0 (length keys))

-- by each number the places at which the list has it, as far as place i
abbrev pub AreGroups : List ℕ → ℕ → List (List ℕ) → Type 0
AreGroups keys i groups = (k : ℕ) → k < length groups → get_or groups k [] ≡ filter (λ p. get_or keys p 0 == k) (range_with_len 0 i)

-- the shoelace sums of lines
pub record AreSums (lines : List (List Point)) (sums : List ℤ) : Type 0 where
  pub value : sums ≡ map shoelace lines
  pub size : All (λ z. unsigned_abs z ≤ max_arc_area) sums

-- a part as a polygon
abbrev pub told : List (List Side) → Part → Polygon
told rings part = record { row = part.row; rings = map (ring_at rings) part.rings }

-- twice the area of the ring at a place
abbrev pub area_at : List ℤ → ℕ → ℤ
area_at areas p = get_or areas p (pos 0)

-- the rings of a face, by the groups of their places
abbrev pub rings_in : List (List Side) → List (List ℕ) → ℕ → List (List Side)
rings_in rings groups f = map (ring_at rings) (get_or groups f [])

-- which of these places have outer rings, and which have inner ones
abbrev pub outer_places : List ℤ → List ℕ → List ℕ
outer_places areas places = filter (λ p. int_lt (pos 0) (area_at areas p)) places

abbrev pub inner_places : List ℤ → List ℕ → List ℕ
inner_places areas places = filter (λ p. int_lt (area_at areas p) (pos 0)) places

-- ---- the rings of a slice with what is known of them

-- rings of these edges, their areas, and groups of their places
pub record AreRings (edges : List Edge) (m : Measured) : Type 0 where
  pub lines : All (λ e. IsLine e.points) edges
  pub each : All (IsRing (length edges)) m.rings
  pub few : length m.rings < 2 ^ 32
  pub areas : m.areas ≡ map (ring_area (lines_of edges)) m.rings
  pub places : All (All (λ p. p < length m.rings)) m.groups
  pub small : All (λ g. length g < 2 ^ 32 - 1) m.groups

-- the rings of the edges, and the groups of the faces
pub record IsMeasured (edges : List Edge) (ends : List EdgeEnds) (m : Measured) : Type 0 where
  pub known : AreRings edges m
  pub rings : m.rings ≡ rings_of (spans_of edges ends)
  pub faces : (f : ℕ) → rings_in m.rings m.groups f ≡ of_face (spans_of edges ends) f m.rings

-- ---- where inner rings lie

-- a segment within the limits of a map that is not vertical
pub record IsLeaning (s : Seg) : Type 0 where
  pub near : HasNearEnds s
  pub leaning : s.a.x ≢ s.b.x

-- the abscissa of a point is one of the box
pub record HoldsPoint (box : Window) (p : Point) : Type 0 where
  pub left : box.x0 ≤ℤ p.x
  pub right : p.x ≤ℤ box.x1

-- the first box has the abscissas of the second, and its ordinates
pub record IsWider (a b : Window) : Type 0 where
  pub left : a.x0 ≤ℤ b.x0
  pub right : b.x1 ≤ℤ a.x1
  pub low : a.y0 ≡ b.y0
  pub high : a.y1 ≡ b.y1

-- the abscissas of the points of a ring are those of the box, whose ordinate is 0
pub record HoldsRing (lines : List (List Point)) (ring : List Side) (box : Window) : Type 0 where
  pub points : All (λ s. All (HoldsPoint box) (slice_index_or lines s.span [])) ring
  pub low : box.y0 ≡ pos 0
  pub high : box.y1 ≡ pos 0

-- the box of the line of a probe
abbrev pub column_of : Seg → Window
column_of s = record { x0 = int_min s.a.x s.b.x; y0 = pos 0; x1 = int_min s.a.x s.b.x; y1 = pos 0 }

-- such boxes of the rings at some places
pub record AreColumns (lines : List (List Point)) (rings : List (List Side)) (places : List ℕ) (boxes : List Window) : Type 0 where
  pub long : length boxes ≡ length places
  pub each : (k : ℕ) (d : Window) → k < length places → HoldsRing lines (ring_at rings (get_or places k 0)) (get_or boxes k d)

-- The home that is known after the outer ring at place j, which goes round the probe or does not.
abbrev pub home_after : List (List Point) → List (List Side) → Seg → Option Home → ℕ → Option Home
home_after lines outer s found j =
    if are_round s (ring_segments lines (ring_at outer j)) then Some (nearer found (record { place = j; area = ring_area lines (ring_at outer j) })) else found

-- By the places of outer rings, the places of those inner ones that belong to them.
pub record AreHeld (lines : List (List Point)) (rings : List (List Side)) (outer inner : List ℕ) (held : List (List ℕ)) : Type 0 where
  pub count : length outer ≤ length held
  pub each : (j : ℕ) → j < length outer → map (λ i. get_or inner i 0) (get_or held j []) ≡ filter (λ p. home_of lines (map (ring_at rings) outer) (ring_at rings p) == j) inner
  pub within : All (All (λ i. i < length inner)) held

-- ---- parts

-- the places of a part are those of so many rings
abbrev pub HasPlaces : ℕ → Part → Type 0
HasPlaces n part = All (λ p. p < n) part.rings

-- the polygons of a face with these outer and inner rings
abbrev pub ring_polygons : List (List Point) → FaceRow → List (List Side) → List (List Side) → List Polygon
ring_polygons lines row outer inner = polygons_from row (home_of lines outer) inner 0 outer

-- a part of its outer ring, and of those among the inner ones that it holds
abbrev pub part_with : FaceRow → List ℕ → ℕ → List ℕ → Part
part_with row inner outer held = record { row = row; rings = outer ∷ map (λ k. get_or inner k 0) held }

-- the part of the outer ring at place j among these
abbrev pub part_at : FaceRow → List ℕ → List ℕ → List (List ℕ) → ℕ → Part
part_at row outer inner held j = part_with row inner (get_or outer j 0) (get_or held j [])
