-- A face that is cut in two by a new arc.
use Rattle.std.specs.Prelude.{ℕ, ◌+◌, ◌-◌, ◌==◌, Bool, true, false, ◌&&◌, ◌||◌, not, nat_lt, ℤ, pos, ◌+ℤ◌, int_lt, List, [], ◌∷◌, ◌++◌, map, flat_map, length, take, drop, slice_index_or, Option, Some, None, option_and_then, option_map, Result, Ok, if◌then◌else◌}
use Rattle.std.specs.List.{list_any, range_with_len}
use Rattle.std.specs.Option.{ok_or}
use Rattle.tgap_model.specs.declared.geometry.Point.{Point}
use Rattle.tgap_model.specs.declared.geometry.Seg.{Seg}
use Rattle.tgap_model.specs.declared.base.BaseArc.{BaseArc}
use Rattle.tgap_model.specs.Point.{shoelace}
use Rattle.tgap_model.specs.Base.{BaseMap, same_point}
use Rattle.tgap_model.specs.Chains.{first_point, last_point}
use Rattle.ring_walk.specs.declared.span.Span.{Span}
use Rattle.ring_walk.specs.declared.side.Side.{Side}
use Rattle.ring_walk.specs.declared.side.Way.TheVariants.{Along, Against}
use Rattle.ring_walk.specs.Sides.{same_side, face_of}
use Rattle.ring_walk.specs.Rings.{ring_from}
use Rattle.ring_walk.specs.Areas.{ring_area, segments_of, ring_segments, first_leaning, are_round}
use Rattle.face_cuts.specs.Outcomes.{◌>>=◌, ensured, has_room}
use Rattle.face_cuts.specs.Nodes.{passes}
use Rattle.face_cuts.specs.Fusions.{is_face}
use Rattle.face_cuts.specs.Sectors.{point_at, spans_of, sector_of_face}
use Rattle.face_cuts.specs.Walks.{walk_between}

-- ---- the points of the arc

-- no two of the points are one
abbrev pub all_different : List Point → Bool
all_different [] = true
all_different (p ∷ points) = not (list_any (same_point p) points) && all_different points

-- the points between the first and the last
abbrev pub inner_points : List Point → List Point
inner_points points = take (length points - 2) (drop 1 points)

-- some arc has the point
abbrev pub has_point : List BaseArc → Point → Bool
has_point arcs p = list_any (passes p) arcs

-- the points are all different, and the inner ones are no points of the arcs
abbrev pub are_free : List BaseArc → List Point → Bool
are_free arcs points = all_different points && not (list_any (has_point arcs) (inner_points points))

-- the spokes with which the sectors of a face begin in which the arc starts and ends
abbrev pub sectors_of : List Span → ℕ → List Point → Option (Side × Side)
sectors_of spans f points =
    option_and_then (λ start. option_map (λ end. (start, end)) (sector_of_face spans f (last_point points) (point_at points (length points - 2))))
    (sector_of_face spans f (first_point points) (point_at points 1))

-- ---- the sides beside the walk

-- the points of each arc
abbrev pub lines_of : List BaseArc → List (List Point)
lines_of arcs = map (λ a. a.points) arcs

-- The new ring: the arc, and then the walk. Its segments, and twice its area, positive where it goes round counter-clockwise.
abbrev pub new_ring : List (List Point) → List Point → List Side → List Seg
new_ring lines points walk = segments_of points ++ ring_segments lines walk

abbrev pub new_area : List (List Point) → List Point → List Side → ℤ
new_area lines points walk = shoelace points +ℤ ring_area lines walk

-- of the segments of the arcs along which a row of sides goes, the one of least number that is not vertical
abbrev pub least_leaning : List (List Point) → List Side → Option Seg
least_leaning lines row =
    first_leaning (flat_map (λ i. if list_any (λ s. s.span == i) row then segments_of (slice_index_or lines i []) else []) (range_with_len 0 (length lines)))

-- some side of the one row is in the other
abbrev pub have_common : List Side → List Side → Bool
have_common row walk = list_any (λ s. list_any (same_side s) walk) row

-- The segment lies at the left of the new ring: an odd number of the segments of the ring are above it where the ring goes round counter-clockwise, and an even number
-- where it does not.
abbrev pub is_at_left : List (List Point) → List Point → List Side → Seg → Bool
is_at_left lines points walk s =
    if int_lt (pos 0) (new_area lines points walk) then are_round s (new_ring lines points walk) else not (are_round s (new_ring lines points walk))

-- A side beside the walk goes over to the new face, by its row of next sides: no side of the walk is on it, and its segment of least number that is not vertical
-- is at the left of the new ring.
abbrev pub goes_over : List (List Point) → List Point → List Side → List Side → Bool
goes_over lines points walk row =
    if have_common row walk then false
    else elim (least_leaning lines row) [ None ↦ false | Some s ↦ is_at_left lines points walk s ]

-- ---- the map

-- the face of a side after the cut
abbrev pub face_after : List BaseArc → ℕ → ℕ → List Point → List Side → Side → ℕ
face_after arcs f new points walk s =
    if (face_of (spans_of arcs) s == f) && (list_any (same_side s) walk || goes_over (lines_of arcs) points walk (ring_from (spans_of arcs) s))
    then new else face_of (spans_of arcs) s

-- the arcs, numbered from i on, with faces that are told of their sides
abbrev pub with_faces : (Side → ℕ) → ℕ → List BaseArc → List BaseArc
with_faces face i [] = []
with_faces face i (a ∷ arcs) =
    record a { left = face (record { span = i; way = Along }); right = face (record { span = i; way = Against }) } ∷ with_faces face (i + 1) arcs

-- The map in which a new last arc cuts face f. At its left there is a new last face, of class k, and at its right f. Cause 2: there is no face f or no class k;
-- 11: a limit would be passed; 10: the points are not all different, or an inner one is a point of the map; 9: an end is no node, or the arc
-- leaves it in no sector of f; 12: no walk along f comes from the arc's end to its start.
unfoldable pub cut_face : BaseMap → ℕ → ℕ → List Point → Result BaseMap ℕ
cut_face m f k points = do
  named ← ensured (is_face m f && nat_lt k (length m.rules.weights)) 2
  room ← ensured (has_room m 1 1 (length points)) 11
  free ← ensured (are_free m.arcs points) 10
  sectors ← ok_or (sectors_of (spans_of m.arcs) f points) 9
  walk ← ok_or (walk_between (spans_of m.arcs) f sectors.0 sectors.1) 12
  Ok (record m {
    classes = m.classes ++ k ∷ [];
    arcs = with_faces (face_after m.arcs f (length m.classes + 1) points walk) 0 m.arcs
        ++ record { left = length m.classes + 1; right = f; points = points } ∷ [];
  })
