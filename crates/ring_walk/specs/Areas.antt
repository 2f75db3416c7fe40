-- The points and the segments of a ring, twice its area, and what of it is above a segment.
use Rattle.std.specs.Prelude.{Bool, ◌&&◌, ℤ, pos, ◌+ℤ◌, List, [], ◌∷◌, flat_map, reverse, count_by, slice_index_or, Option, Some, None, if◌then◌else◌}
use Rattle.std.specs.Int.{int_min}
use Rattle.std.specs.Ordering.{int_eq}
use Rattle.lemmas.specs.Parity.{is_odd}
use Rattle.tgap_model.specs.declared.geometry.Point.{Point}
use Rattle.tgap_model.specs.declared.geometry.Seg.{Seg}
use Rattle.tgap_model.specs.Point.{shoelace}
use Rattle.tgap_model.specs.Segment.{Line, line_after, crosses, is_higher}
use Rattle.ring_walk.specs.declared.side.Side.{Side}
use Rattle.ring_walk.specs.declared.side.Way.{Way}
use Rattle.ring_walk.specs.declared.side.Way.TheVariants.{Along, Against}

-- the points of a span on a way
abbrev pub points_by : Way → List Point → List Point
points_by Along points = points
points_by Against points = reverse points

-- the points of a side, of spans with these points
abbrev pub points_of : List (List Point) → Side → List Point
points_of lines s = points_by s.way (slice_index_or lines s.span [])

-- twice the area of a ring: positive where it goes round counter-clockwise
abbrev pub ring_area : List (List Point) → List Side → ℤ
ring_area lines [] = pos 0
ring_area lines (s ∷ ring) = shoelace (points_of lines s) +ℤ ring_area lines ring

-- ---- segments

abbrev pub segments_of : List Point → List Seg
segments_of [] = []
segments_of (a ∷ []) = []
segments_of (a ∷ b ∷ points) = record { a = a; b = b } ∷ segments_of (b ∷ points)

-- the segments of a ring, in its direction
abbrev pub ring_segments : List (List Point) → List Side → List Seg
ring_segments lines ring = flat_map (λ s. segments_of (points_of lines s)) ring

-- the first segment that is not vertical
abbrev pub first_leaning : List Seg → Option Seg
first_leaning [] = None
first_leaning (s ∷ segments) = if int_eq s.a.x s.b.x then first_leaning segments else Some s

-- the line at one half above the least abscissa of a segment
abbrev pub line_of : Seg → Line
line_of s = line_after (int_min s.a.x s.b.x)

-- A segment crosses the line of s above s.
abbrev pub is_over : Seg → Seg → Bool
is_over s t = crosses (line_of s) t && is_higher (line_of s) t s

-- an odd number of these segments cross the line of s above s
abbrev pub are_round : Seg → List Seg → Bool
are_round s segments = is_odd (count_by (is_over s) segments)
