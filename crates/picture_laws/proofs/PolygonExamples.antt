-- Computed from the definitions: which of the polygons of worked faces have a point, and how often they go round it.
use Rattle.std.proofs.Common.{◌≡◌, ℕ, ◌+◌, Bool, true, false, ℤ, pos, List, [], ◌∷◌, map, Ok, refl}
use Rattle.tgap_model.specs.declared.geometry.Fraction.{Fraction}
use Rattle.tgap_model.specs.declared.slice.Edge.{Edge}
use Rattle.tgap_model.specs.Segment.{turns_before, is_above, is_higher}
use Rattle.tgap_model.specs.Partition.{edge_segments}
use Rattle.map_laws.specs.Inside.{is_inside}
use Rattle.ring_walk.specs.Sides.{spokes_at}
use Rattle.ring_walk.specs.Rings.{rings_of}
use Rattle.ring_walk.specs.declared.span.EdgeEnds.{EdgeEnds}
use Rattle.topo_write.specs.Polygons.{Polygon, polygons_of}
use Rattle.topo_write.proofs.Examples.{edge, ends, face, along, against}
use Rattle.picture_laws.specs.FaceRings.{winding}
use Rattle.picture_laws.specs.FacePolygons.{polygon_segments, parts_of, is_in_polygon}

-- a square with the lower left corner (a, a) and the upper right one (b, b), counter-clockwise, and its ends
abbrev square : ℕ → ℕ → ℕ → ℕ → ℕ → Edge
square key left right a b = edge key left right (a ∷ a ∷ b ∷ a ∷ b ∷ b ∷ a ∷ b ∷ a ∷ a ∷ [])

abbrev corners : ℕ → ℕ → EdgeEnds
corners a b = ends b a a b

-- the point one half right of (x, y)
abbrev at : ℕ → ℕ → Fraction
at x y = record { nx = pos (x + x + 1); ny = pos (y + y); d = pos 2 }

-- the polygons that have a point, and how often each goes round it
abbrev having : List Edge → List Polygon → Fraction → List Bool
having edges polygons q = map (is_in_polygon edges q) polygons

abbrev turns : List Edge → List Polygon → Fraction → List ℤ
turns edges polygons q = map (λ p. winding q (polygon_segments edges p)) polygons

-- ---- a square with a hole

abbrev with_hole : List Edge
with_hole = square 0 1 0 0 50 ∷ square 1 2 1 10 40 ∷ []

abbrev hole_polygons : List Polygon
hole_polygons =
    record { row = face 1; rings = (along 0 ∷ []) ∷ (against 1 ∷ []) ∷ [] }
    ∷ record { row = face 2; rings = (along 1 ∷ []) ∷ [] } ∷ []

hole_made : polygons_of with_hole (corners 0 50 ∷ corners 10 40 ∷ []) (face 1 ∷ face 2 ∷ []) ≡ Ok hole_polygons
unfolding polygons_of rings_of spokes_at turns_before is_higher
hole_made = refl

beside_hole : having with_hole hole_polygons (at 5 5) ≡ true ∷ false ∷ []
unfolding is_above
beside_hole = refl

in_hole : having with_hole hole_polygons (at 25 25) ≡ false ∷ true ∷ []
unfolding is_above
in_hole = refl

-- below the hole four segments of the face are over the point
below_hole : turns with_hole hole_polygons (at 25 5) ≡ pos 1 ∷ pos 0 ∷ []
unfolding is_above
below_hole = refl

hole_turns : turns with_hole hole_polygons (at 25 25) ≡ pos 0 ∷ pos 1 ∷ []
unfolding is_above
hole_turns = refl

-- ---- a face in a hole of itself

abbrev islands : List Edge
islands = square 0 1 0 0 50 ∷ square 1 2 1 10 40 ∷ square 4 1 2 20 30 ∷ []

abbrev island_polygons : List Polygon
island_polygons =
    record { row = face 1; rings = (along 0 ∷ []) ∷ (against 1 ∷ []) ∷ [] }
    ∷ record { row = face 1; rings = (along 2 ∷ []) ∷ [] }
    ∷ record { row = face 2; rings = (along 1 ∷ []) ∷ (against 2 ∷ []) ∷ [] } ∷ []

islands_made : polygons_of islands (corners 0 50 ∷ corners 10 40 ∷ corners 20 30 ∷ []) (face 1 ∷ face 2 ∷ []) ≡ Ok island_polygons
unfolding polygons_of rings_of spokes_at turns_before is_higher
islands_made = refl

on_land : having islands island_polygons (at 5 25) ≡ true ∷ false ∷ false ∷ []
unfolding is_above
on_land = refl

on_water : having islands island_polygons (at 15 25) ≡ false ∷ false ∷ true ∷ []
unfolding is_above
on_water = refl

on_island : having islands island_polygons (at 25 25) ≡ false ∷ true ∷ false ∷ []
unfolding is_above
on_island = refl

island_turns : turns islands (parts_of 1 island_polygons) (at 25 25) ≡ pos 0 ∷ pos 1 ∷ []
unfolding is_above
island_turns = refl

inside_island : is_inside (edge_segments islands) 1 (at 25 25) ≡ true
unfolding is_inside is_above
inside_island = refl

-- ---- a face of two parts, each with a hole

abbrev two_parts : List Edge
two_parts = square 0 1 0 0 50 ∷ square 1 2 1 10 40 ∷ square 2 1 0 60 110 ∷ square 3 3 1 70 100 ∷ []

abbrev part_polygons : List Polygon
part_polygons =
    record { row = face 1; rings = (along 0 ∷ []) ∷ (against 1 ∷ []) ∷ [] }
    ∷ record { row = face 1; rings = (along 2 ∷ []) ∷ (against 3 ∷ []) ∷ [] } ∷ []

parts_made : polygons_of two_parts (corners 0 50 ∷ corners 10 40 ∷ corners 60 110 ∷ corners 70 100 ∷ []) (face 1 ∷ []) ≡ Ok part_polygons
unfolding polygons_of rings_of spokes_at turns_before is_higher
parts_made = refl

in_second : having two_parts part_polygons (at 65 80) ≡ false ∷ true ∷ []
unfolding is_above
in_second = refl

in_second_hole : turns two_parts part_polygons (at 80 80) ≡ pos 0 ∷ pos 0 ∷ []
unfolding is_above
in_second_hole = refl
