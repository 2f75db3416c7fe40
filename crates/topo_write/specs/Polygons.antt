-- The polygons of a slice: the rings of positive area of its faces, each with those of negative area that lie in it.
use Rattle.std.specs.Prelude.{ℕ, ◌+◌, ◌==◌, Bool, false, pos, int_lt, List, [], ◌∷◌, map, flat_map, filter, find, slice_index_or, Option, Some, None, option_map, unwrap_or, Result, Ok, Err, if◌then◌else◌}
use Rattle.std.specs.Ordering.{int_eq}
use Rattle.std.specs.List.{list_any, zip}
use Rattle.tgap_model.specs.declared.geometry.Point.{Point}
use Rattle.tgap_model.specs.declared.geometry.Seg.{Seg}
use Rattle.tgap_model.specs.declared.slice.Edge.{Edge}
use Rattle.tgap_model.specs.declared.slice.FaceRow.{FaceRow}
use Rattle.tgap_model.specs.Chains.{first_point, last_point}
use Rattle.ring_walk.specs.declared.span.Span.{Span}
use Rattle.ring_walk.specs.declared.span.EdgeEnds.{EdgeEnds}
use Rattle.ring_walk.specs.declared.side.Side.{Side}
use Rattle.ring_walk.specs.Rings.{rings_of, ring_face}
use Rattle.ring_walk.specs.Areas.{ring_area, ring_segments, first_leaning, are_round}
use Rattle.topo_write.specs.declared.flat.FlatRing.{FlatRing}
use Rattle.topo_write.specs.declared.home.Home.{Home}

-- ---- the rings of a slice

-- an edge with the directions of its ends in the base map
abbrev pub span_of : Edge × EdgeEnds → Span
span_of e = record { first = first_point e.0.points; last = last_point e.0.points; ends = e.1; left = e.0.left; right = e.0.right }

abbrev pub spans_of : List Edge → List EdgeEnds → List Span
spans_of edges ends = map span_of (zip edges ends)

-- the points of each edge
abbrev pub lines_of : List Edge → List (List Point)
lines_of edges = map (λ e. e.points) edges

-- the rings of a face
abbrev pub of_face : List Span → ℕ → List (List Side) → List (List Side)
of_face spans f rings = filter (λ r. ring_face spans r == f) rings

-- ---- flat rings

abbrev pub is_flat : List (List Point) → List Side → Bool
is_flat lines r = int_eq (ring_area lines r) (pos 0)

-- the ring goes round its face counter-clockwise: it is the outer one of a part
abbrev pub is_outer : List (List Point) → List Side → Bool
is_outer lines r = int_lt (pos 0) (ring_area lines r)

-- the ring goes round a hole of its face
abbrev pub is_inner : List (List Point) → List Side → Bool
is_inner lines r = int_lt (ring_area lines r) (pos 0)

abbrev pub first_ring : List (List Side) → List Side
first_ring [] = []
first_ring (r ∷ rings) = r

-- Of the rings of one face, the one by which the face is no polygon: the first of area 0, or the first of all where none is an outer one.
abbrev pub flat_among : List (List Point) → List (List Side) → Option (List Side)
flat_among lines rings = elim (find (is_flat lines) rings) [
  | Some r ↦ Some r
  | None ↦ if list_any (is_outer lines) rings then None else Some (first_ring rings)
]

-- the least key of a ring: that of the edge with which it begins
abbrev pub ring_key : List Edge → List Side → ℕ
ring_key edges [] = 0
ring_key edges (s ∷ ring) = (slice_index_or edges s.span (record { key = 0; left = 0; right = 0; points = [] })).key

-- the first face of these with such a ring
abbrev pub flat_of : List Edge → (ℕ → List (List Side)) → List FaceRow → Option FlatRing
flat_of edges rings [] = None
flat_of edges rings (row ∷ rows) = elim (flat_among (lines_of edges) (rings row.face)) [
  | Some r ↦ Some (record { face = row.face; key = ring_key edges r })
  | None ↦ flat_of edges rings rows
]

-- ---- where an inner ring lies

-- the segment of a ring by which its place is found: its first one that is not vertical
abbrev pub probe_of : List (List Point) → List Side → Option Seg
probe_of lines r = first_leaning (ring_segments lines r)

-- the inner ring lies within the outer one: an odd number of segments of the outer one cross the line of its probe above that
abbrev pub is_within : List (List Point) → List Side → List Side → Bool
is_within lines inner outer = elim (probe_of lines inner) [
  | Some s ↦ are_round s (ring_segments lines outer)
  | None ↦ false
]

-- of two outer rings the one of less area, or else the first
abbrev pub nearer : Option Home → Home → Home
nearer None h = h
nearer (Some g) h = if int_lt h.area g.area then h else g

-- Of these outer rings, the first at place j, the one of least area that an inner ring lies within, or else what was found before;
-- of equal areas the first.
abbrev pub home_from : List (List Point) → List Side → Option Home → ℕ → List (List Side) → Option Home
home_from lines inner found j [] = found
home_from lines inner found j (r ∷ rings) =
    home_from lines inner (if is_within lines inner r then Some (nearer found (record { place = j; area = ring_area lines r })) else found) (j + 1) rings

-- the place of the outer ring to which an inner one belongs: the first, where it lies within none
abbrev pub home_of : List (List Point) → List (List Side) → List Side → ℕ
home_of lines outer inner = unwrap_or (option_map (λ h. h.place) (home_from lines inner None 0 outer)) 0

-- ---- polygons

-- a part of a face: its outer ring, and then its inner ones
pub record Polygon : Type 0 where
  pub row : FaceRow
  pub rings : List (List Side)

-- the polygons of these outer rings of a face, the first at place j, whose inner rings have homes
abbrev pub polygons_from : FaceRow → (List Side → ℕ) → List (List Side) → ℕ → List (List Side) → List Polygon
polygons_from row home inner j [] = []
polygons_from row home inner j (r ∷ outer) =
    record { row = row; rings = r ∷ filter (λ i. home i == j) inner } ∷ polygons_from row home inner (j + 1) outer

-- the polygons of a face with these rings
abbrev pub face_polygons : List (List Point) → FaceRow → List (List Side) → List Polygon
face_polygons lines row rings =
    let outer = filter (is_outer lines) rings in
    polygons_from row (home_of lines outer) (filter (is_inner lines) rings) 0 outer

-- The polygons of the faces, face by face and ring by ring; or the first face that is none.
unfoldable pub polygons_of : List Edge → List EdgeEnds → List FaceRow → Result (List Polygon) FlatRing
polygons_of edges ends rows =
    let spans = spans_of edges ends in
    let rings = rings_of spans in
    elim (flat_of edges (λ f. of_face spans f rings) rows) [
      | Some flat ↦ Err flat
      | None ↦ Ok (flat_map (λ row. face_polygons (lines_of edges) row (of_face spans row.face rings)) rows)
    ]
