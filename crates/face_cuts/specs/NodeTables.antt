-- What the table of this crate is made of: spans, next sides, and all sides by their nodes and by their faces.
use Rattle.std.specs.Prelude.{◌≡◌, Bool, List, length, map, get_or}
use Rattle.std.specs.List.Sorted.{IsSortedBy, IsStableBy}
use Rattle.std.specs.Ordering.{is_lt, nat_cmp}
use Rattle.tgap_model.specs.declared.base.BaseArc.{BaseArc}
use Rattle.ring_walk.specs.declared.span.Span.{Span}
use Rattle.ring_walk.specs.declared.side.Side.{Side}
use Rattle.ring_walk.specs.Sides.{face_of, side_number, sides, start_of}
use Rattle.ring_walk.specs.Rings.{next_side}
use Rattle.ring_walk.specs.Spans.{AreNext, IsSide}
use Rattle.face_cuts.specs.PointSets.{point_cmp}
use Rattle.face_cuts.specs.Sectors.{spans_of}
use Rattle.face_cuts.specs.declared.node_sides.NodeSide.{NodeSide}
use Rattle.face_cuts.specs.declared.face_sides.FaceSide.{FaceSide}

abbrev pub node_side : List Span → Side → NodeSide
node_side spans s = record { node = start_of spans s; side = s }

abbrev pub face_side : List Span → Side → FaceSide
face_side spans s = record { face = face_of spans s; side = s }

abbrev pub node_before : NodeSide → NodeSide → Bool
node_before a b = is_lt (point_cmp a.node b.node)

abbrev pub face_before : FaceSide → FaceSide → Bool
face_before a b = is_lt (nat_cmp a.face b.face)

-- the row of next sides, by number, has that of this side
pub record IsToldAt (spans : List Span) (next : List Side) (s : Side) : Type 0 where
  pub is : (d : Side) → get_or next (side_number s) d ≡ next_side spans s
  pub within : IsSide (length spans) (next_side spans s)

-- all sides by their nodes, and those of one node in the order of their numbers
pub record AreByNode (spans : List Span) (rows : List NodeSide) : Type 0 where
  pub ascend : IsSortedBy node_before rows
  pub stable : IsStableBy node_before (map (node_side spans) (sides (length spans))) rows

-- all sides by their faces, and those of one face in the order of their numbers
pub record AreByFace (spans : List Span) (rows : List FaceSide) : Type 0 where
  pub ascend : IsSortedBy face_before rows
  pub stable : IsStableBy face_before (map (face_side spans) (sides (length spans))) rows

-- the table of these arcs
pub record IsNodeTable (arcs : List BaseArc) (spans : List Span) (next : List Side) (nodes : List NodeSide) (faces : List FaceSide) : Type 0 where
  pub spans_are : spans ≡ spans_of arcs
  pub next_are : AreNext spans next
  pub by_node : AreByNode spans nodes
  pub by_face : AreByFace spans faces
