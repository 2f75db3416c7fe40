-- Worked slices as topologies, computed from the definitions.
use Rattle.std.proofs.Common.{◌≡◌, ℕ, pos, List, [], ◌∷◌, codes, Ok, Err, refl}
use Rattle.std.specs.Fmt.{digits}
use Rattle.serde_json.proofs.OnLiterals.{serde_json_on_literals}
use Rattle.tgap_model.specs.declared.geometry.Point.{Point}
use Rattle.tgap_model.specs.declared.base.Transform.{Transform}
use Rattle.tgap_model.specs.declared.slice.Edge.{Edge}
use Rattle.tgap_model.specs.declared.slice.FaceRow.{FaceRow}
use Rattle.tgap_model.specs.declared.slice.Slice.{Slice}
use Rattle.tgap_model.specs.Segment.{turns_before, is_higher}
use Rattle.ring_walk.specs.declared.span.EdgeEnds.{EdgeEnds}
use Rattle.ring_walk.specs.declared.side.Side.{Side}
use Rattle.ring_walk.specs.declared.side.Way.TheVariants.{Along, Against}
use Rattle.ring_walk.specs.Sides.{spokes_at}
use Rattle.ring_walk.specs.Rings.{rings_of}
use Rattle.topo_write.specs.Polygons.{polygons_of}
use Rattle.topo_write.specs.Topology.{topology_text, export}

abbrev pub point : ℕ → ℕ → Point
point x y = record { x = pos x; y = pos y }

abbrev pub points : List ℕ → List Point
points (x ∷ y ∷ more) = point x y ∷ points more
points more = []

abbrev pub edge : ℕ → ℕ → ℕ → List ℕ → Edge
edge key left right coordinates = record { key = key; left = left; right = right; points = points coordinates }

abbrev pub ends : ℕ → ℕ → ℕ → ℕ → EdgeEnds
ends x y z w = record { after_first = point x y; before_last = point z w }

abbrev pub face : ℕ → FaceRow
face f = record { face = f; class = 0 }

abbrev pub plain : Transform
plain = record { sx = pos 1; sy = pos 1; tx = pos 0; ty = pos 0 }

-- ---- two squares side by side

abbrev two_squares : Slice
two_squares = record {
  step = 0;
  faces = face 1 ∷ face 2 ∷ [];
  edges =
      edge 0 1 0 (10 ∷ 10 ∷ 0 ∷ 10 ∷ 0 ∷ 0 ∷ 10 ∷ 0 ∷ [])
      ∷ edge 1 2 0 (10 ∷ 0 ∷ 20 ∷ 0 ∷ 20 ∷ 10 ∷ 10 ∷ 10 ∷ [])
      ∷ edge 2 1 2 (10 ∷ 0 ∷ 10 ∷ 10 ∷ []) ∷ [];
}

two_squares_text : export two_squares (ends 0 10 0 0 ∷ ends 20 0 20 10 ∷ ends 10 10 10 0 ∷ []) plain
    ≡ Ok (codes "{\"arcs\":[[[10,10],[-10,0],[0,-10],[10,0]],[[10,0],[10,0],[0,10],[-10,0]],[[10,0],[0,10]]],\"objects\":{\"map\":{\"geometries\":[{\"arcs\":[[0,2]],\"properties\":{\"class\":0,\"face\":1},\"type\":\"Polygon\"},{\"arcs\":[[1,-3]],\"properties\":{\"class\":0,\"face\":2},\"type\":\"Polygon\"}],\"type\":\"GeometryCollection\"}},\"transform\":{\"scale\":[1,1],\"translate\":[0,0]},\"type\":\"Topology\"}")
unfolding export topology_text polygons_of rings_of spokes_at turns_before digits serde_json_on_literals
two_squares_text = refl

-- ---- a face with a hole, in which another face lies

abbrev hole_with_face : Slice
hole_with_face = record {
  step = 0;
  faces = face 1 ∷ face 2 ∷ [];
  edges =
      edge 0 1 0 (0 ∷ 0 ∷ 30 ∷ 0 ∷ 30 ∷ 30 ∷ 0 ∷ 30 ∷ 0 ∷ 0 ∷ [])
      ∷ edge 1 2 1 (10 ∷ 10 ∷ 20 ∷ 10 ∷ 20 ∷ 20 ∷ 10 ∷ 20 ∷ 10 ∷ 10 ∷ []) ∷ [];
}

hole_with_face_text : export hole_with_face (ends 30 0 0 30 ∷ ends 20 10 10 20 ∷ []) plain
    ≡ Ok (codes "{\"arcs\":[[[0,0],[30,0],[0,30],[-30,0],[0,-30]],[[10,10],[10,0],[0,10],[-10,0],[0,-10]]],\"objects\":{\"map\":{\"geometries\":[{\"arcs\":[[0],[-2]],\"properties\":{\"class\":0,\"face\":1},\"type\":\"Polygon\"},{\"arcs\":[[1]],\"properties\":{\"class\":0,\"face\":2},\"type\":\"Polygon\"}],\"type\":\"GeometryCollection\"}},\"transform\":{\"scale\":[1,1],\"translate\":[0,0]},\"type\":\"Topology\"}")
unfolding export topology_text polygons_of rings_of spokes_at turns_before is_higher digits serde_json_on_literals
hole_with_face_text = refl

-- ---- a hole in a hole, and parts of one face

abbrev pub along : ℕ → Side
along i = record { span = i; way = Along }

abbrev pub against : ℕ → Side
against i = record { span = i; way = Against }

-- a square with the lower left corner (a, a) and the upper right one (b, b), counter-clockwise, and its ends
abbrev square : ℕ → ℕ → ℕ → ℕ → ℕ → Edge
square key left right a b = edge key left right (a ∷ a ∷ b ∷ a ∷ b ∷ b ∷ a ∷ b ∷ a ∷ a ∷ [])

abbrev corners : ℕ → ℕ → EdgeEnds
corners a b = ends b a a b

-- face 1 in the hole of face 2 in the hole of face 1, and in it face 3
abbrev islands : List Edge
islands = square 0 1 0 0 50 ∷ square 1 2 1 10 40 ∷ square 4 1 2 20 30 ∷ square 6 3 1 22 24 ∷ []

abbrev island_ends : List EdgeEnds
island_ends = corners 0 50 ∷ corners 10 40 ∷ corners 20 30 ∷ corners 22 24 ∷ []

island_polygons : polygons_of islands island_ends (face 1 ∷ face 2 ∷ face 3 ∷ [])
    ≡ Ok (
    record { row = face 1; rings = (along 0 ∷ []) ∷ (against 1 ∷ []) ∷ [] }
    ∷ record { row = face 1; rings = (along 2 ∷ []) ∷ (against 3 ∷ []) ∷ [] }
    ∷ record { row = face 2; rings = (along 1 ∷ []) ∷ (against 2 ∷ []) ∷ [] }
    ∷ record { row = face 3; rings = (along 3 ∷ []) ∷ [] } ∷ []
    )
unfolding polygons_of rings_of spokes_at turns_before is_higher
island_polygons = refl

-- the parts of a face stand in the order of their least keys, the inner one first where its key is less
island_turned : polygons_of (square 0 1 2 20 30 ∷ square 2 1 0 0 50 ∷ square 3 3 1 22 24 ∷ square 5 2 1 10 40 ∷ [])
    (corners 20 30 ∷ corners 0 50 ∷ corners 22 24 ∷ corners 10 40 ∷ []) (face 1 ∷ [])
    ≡ Ok (
    record { row = face 1; rings = (along 0 ∷ []) ∷ (against 2 ∷ []) ∷ [] }
    ∷ record { row = face 1; rings = (along 1 ∷ []) ∷ (against 3 ∷ []) ∷ [] } ∷ []
    )
unfolding polygons_of rings_of spokes_at turns_before is_higher
island_turned = refl

-- of two outer rings of one area, which hold an inner ring alike, it belongs to the first; and where none holds it, to the first of all
tied_polygons : polygons_of (square 0 1 0 60 70 ∷ square 1 1 0 0 50 ∷ edge 2 1 0 (50 ∷ 50 ∷ 0 ∷ 50 ∷ 0 ∷ 0 ∷ 50 ∷ 0 ∷ 50 ∷ 50 ∷ []) ∷ square 3 2 1 10 20 ∷ square 4 2 1 80 90 ∷ [])
    (corners 60 70 ∷ corners 0 50 ∷ ends 0 50 50 0 ∷ corners 10 20 ∷ corners 80 90 ∷ []) (face 1 ∷ [])
    ≡ Ok (
    record { row = face 1; rings = (along 0 ∷ []) ∷ (against 4 ∷ []) ∷ [] }
    ∷ record { row = face 1; rings = (along 1 ∷ []) ∷ (against 3 ∷ []) ∷ [] }
    ∷ record { row = face 1; rings = (along 2 ∷ []) ∷ [] } ∷ []
    )
unfolding polygons_of rings_of spokes_at turns_before is_higher
tied_polygons = refl

-- ---- two squares of one face that touch at a corner: two polygons, and one ring of the outside

corner_polygons : polygons_of
    (edge 0 1 0 (10 ∷ 10 ∷ 0 ∷ 10 ∷ 0 ∷ 0 ∷ 10 ∷ 0 ∷ 10 ∷ 10 ∷ []) ∷ edge 1 1 0 (10 ∷ 10 ∷ 20 ∷ 10 ∷ 20 ∷ 20 ∷ 10 ∷ 20 ∷ 10 ∷ 10 ∷ []) ∷ [])
    (ends 0 10 10 0 ∷ ends 20 10 10 20 ∷ []) (face 1 ∷ [])
    ≡ Ok (record { row = face 1; rings = (along 0 ∷ []) ∷ [] } ∷ record { row = face 1; rings = (along 1 ∷ []) ∷ [] } ∷ [])
unfolding polygons_of rings_of spokes_at turns_before is_higher
corner_polygons = refl

-- ---- flat rings

-- a face whose edges lie on one another, which in the base map they do not; a face after it is flat too
area_of_zero : polygons_of (square 0 3 0 0 50 ∷ edge 5 2 0 (0 ∷ 10 ∷ 20 ∷ 10 ∷ []) ∷ edge 7 2 1 (20 ∷ 10 ∷ 0 ∷ 10 ∷ []) ∷ edge 8 3 0 (90 ∷ 0 ∷ 99 ∷ 0 ∷ 90 ∷ 0 ∷ []) ∷ [])
    (corners 0 50 ∷ ends 5 5 15 5 ∷ ends 15 15 5 15 ∷ ends 99 0 99 1 ∷ []) (face 2 ∷ face 3 ∷ [])
    ≡ Err (record { face = 2; key = 5 })
unfolding polygons_of rings_of spokes_at turns_before is_higher
area_of_zero = refl

-- a face whose only ring goes round clockwise; one of area 0 goes before it
no_outer_ring : polygons_of (square 2 0 1 0 50 ∷ square 4 0 1 60 70 ∷ []) (corners 0 50 ∷ corners 60 70 ∷ []) (face 1 ∷ [])
    ≡ Err (record { face = 1; key = 2 })
unfolding polygons_of rings_of spokes_at turns_before is_higher
no_outer_ring = refl

flat_before_inner : polygons_of (square 2 0 1 0 50 ∷ edge 4 1 0 (60 ∷ 0 ∷ 70 ∷ 0 ∷ 60 ∷ 0 ∷ []) ∷ []) (corners 0 50 ∷ ends 70 0 70 1 ∷ []) (face 1 ∷ [])
    ≡ Err (record { face = 1; key = 4 })
unfolding polygons_of rings_of spokes_at turns_before is_higher
flat_before_inner = refl
