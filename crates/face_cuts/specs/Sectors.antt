-- The arcs as spans, and the sectors round a node: a sector is what lies strictly between a spoke and the next one.
use Rattle.std.specs.Prelude.{ℕ, ◌-◌, ◌==◌, Bool, ◌&&◌, not, List, map, filter, length, slice_index_or, Option, Some, None, option_and_then, if◌then◌else◌}
use Rattle.std.specs.List.{list_any, last_or}
use Rattle.tgap_model.specs.declared.geometry.Point.{Point}
use Rattle.tgap_model.specs.declared.base.BaseArc.{BaseArc}
use Rattle.tgap_model.specs.Segment.{turns_before}
use Rattle.tgap_model.specs.Chains.{first_point, last_point}
use Rattle.ring_walk.specs.declared.span.Span.{Span}
use Rattle.ring_walk.specs.declared.side.Side.{Side}
use Rattle.ring_walk.specs.Sides.{origin, sides, toward_of, face_of, spokes_at}

-- the point at a position of a row
abbrev pub point_at : List Point → ℕ → Point
point_at points k = slice_index_or points k origin

-- what a walk has to know of an arc
abbrev pub span_of : BaseArc → Span
span_of a = record {
  first = first_point a.points;
  last = last_point a.points;
  ends = record { after_first = point_at a.points 1; before_last = point_at a.points (length a.points - 2) };
  left = a.left;
  right = a.right;
}

abbrev pub spans_of : List BaseArc → List Span
spans_of arcs = map span_of arcs

-- the spokes of a node, counter-clockwise from the direction of positive x
abbrev pub spokes : List Span → Point → List Side
spokes spans v = spokes_at spans (sides (length spans)) v

-- the spoke leaves in the direction of a point, or before it
abbrev pub leaves_along : List Span → Point → Point → Side → Bool
leaves_along spans v p s = not (turns_before v (toward_of spans s) p) && not (turns_before v p (toward_of spans s))

abbrev pub leaves_before : List Span → Point → Point → Side → Bool
leaves_before spans v p s = turns_before v (toward_of spans s) p

-- The spoke with which the sector begins in which the direction from v toward p lies: the last one before the direction, or the last of all where
-- none is before it. There is none where a spoke has the direction, and where v is no node.
abbrev pub sector_at : List Span → Point → Point → Option Side
sector_at spans v p =
    if list_any (leaves_along spans v p) (spokes spans v) then None
    else last_or (last_or None (spokes spans v)) (filter (leaves_before spans v p) (spokes spans v))

-- the same for a sector of a face: the left face of the spoke with which it begins
abbrev pub sector_of_face : List Span → ℕ → Point → Point → Option Side
sector_of_face spans f v p = option_and_then (λ s. if face_of spans s == f then Some s else None) (sector_at spans v p)
