-- A worked map: a square with a hole and a face in it, a hole and a polygon that are collapsed, an arc of one point and one that no ring names.
use Rattle.std.proofs.Common.{◌≡◌, ℕ, true, false, pos, negsuc, ℤ, List, [], ◌∷◌, Some, Ok, refl, IsTrue}
use Rattle.tgap_model.specs.declared.geometry.Point.{Point}
use Rattle.tgap_model.specs.declared.topology.NamedRules.{NamedRules}
use Rattle.tgap_model.specs.declared.topology.RawPolygon.{RawPolygon}
use Rattle.tgap_model.specs.declared.topology.RawMap.{RawMap}
use Rattle.tgap_model.specs.declared.fault.MapFault.TheVariants.{RingOpen, RingFlat, SideTaken, SameSides}
use Rattle.tgap_model.specs.Base.{BaseMap}
use Rattle.topology_forms.specs.Rings.{based, face_taken, ring_taken, side_taken, is_raw_map}
use Rattle.ring_sides.specs.Places.{sides_taken}
use Rattle.ring_sides.specs.Sides.{HasRingSides}
use Rattle.ring_sides.specs.RingFaults.{IsRingFault}
use Rattle.ring_sides.proofs.Takings.{taking}
use Rattle.ring_sides.proofs.RingSides.{based_has_sides, based_fault_is_first}
use Rattle.ring_sides.proofs.OneBase.{one_base}

abbrev points_of : List ℕ → List Point
points_of [] = []
points_of (x ∷ []) = []
points_of (x ∷ y ∷ more) = record { x = pos x; y = pos y } ∷ points_of more

-- the arcs: a large square, a small one within, one point of that, and a line elsewhere
abbrev squares : List (List Point)
squares =
    points_of (0 ∷ 0 ∷ 30 ∷ 0 ∷ 30 ∷ 30 ∷ 0 ∷ 30 ∷ 0 ∷ 0 ∷ []) ∷ points_of (10 ∷ 10 ∷ 20 ∷ 10 ∷ 20 ∷ 20 ∷ 10 ∷ 20 ∷ 10 ∷ 10 ∷ [])
    ∷ points_of (10 ∷ 10 ∷ []) ∷ points_of (40 ∷ 40 ∷ 50 ∷ 50 ∷ []) ∷ []

abbrev polygon : ℕ → ℕ → List (List ℤ) → RawPolygon
polygon name first_ring rings = record { kind = Some (name ∷ []); first_ring = first_ring; rings = rings }

abbrev map_of : List RawPolygon → RawMap
map_of polygons = record { transform = record { sx = pos 1; sy = pos 1; tx = pos 0; ty = pos 0 }; arcs = squares; polygons = polygons }

-- two classes, named w and l
abbrev two_names : NamedRules
two_names = record {
  property = 107 ∷ [];
  names = (119 ∷ []) ∷ (108 ∷ []) ∷ [];
  default = 0;
  rules = record { ratio = 16; weights = 1 ∷ 1 ∷ []; compat = 1 ∷ 1 ∷ 1 ∷ 1 ∷ [] };
}

-- The exterior of face 1 is clockwise, by its arc from the last point to the first; its hole is counter-clockwise.
abbrev lake : RawMap
lake = map_of (
    polygon 119 0 ((negsuc 0 ∷ []) ∷ (pos 1 ∷ []) ∷ (pos 2 ∷ []) ∷ []) ∷ polygon 108 3 ((pos 2 ∷ []) ∷ []) ∷ polygon 108 4 ((pos 1 ∷ pos 2 ∷ []) ∷ []) ∷ [])

lake_formed : IsTrue (is_raw_map lake)
unfolding is_raw_map
lake_formed = refl

-- what its rings take, place by place
lake_sides : sides_taken lake ≡ taking 0 true 1 ∷ taking 1 false 1 ∷ taking 1 true 2 ∷ []
lake_sides = refl

abbrev lake_base : BaseMap
lake_base = record {
  transform = lake.transform;
  rules = two_names.rules;
  classes = 0 ∷ 1 ∷ [];
  arcs =
      record { left = 1; right = 0; points = points_of (0 ∷ 0 ∷ 30 ∷ 0 ∷ 30 ∷ 30 ∷ 0 ∷ 30 ∷ 0 ∷ 0 ∷ []) }
      ∷ record { left = 2; right = 1; points = points_of (10 ∷ 10 ∷ 20 ∷ 10 ∷ 20 ∷ 20 ∷ 10 ∷ 20 ∷ 10 ∷ 10 ∷ []) } ∷ [];
}

lake_based : based lake two_names ≡ Ok lake_base
unfolding based face_taken ring_taken side_taken
lake_based = refl

lake_has_sides : HasRingSides lake two_names lake_base
lake_has_sides = based_has_sides lake two_names lake_base lake_formed lake_based

-- no other base map has them
only_lake : (other : BaseMap) → HasRingSides lake two_names other → other ≡ lake_base
only_lake other h = one_base lake two_names other lake_base h lake_has_sides

-- ---- faults

-- a ring whose arc does not end where it starts; ring 0 is passed over
abbrev open_line : RawMap
open_line = map_of (polygon 119 0 ((pos 2 ∷ []) ∷ []) ∷ polygon 119 1 ((pos 3 ∷ []) ∷ []) ∷ [])

open_line_fault : IsRingFault open_line (RingOpen 1 0)
unfolding based face_taken ring_taken side_taken is_raw_map
open_line_fault = based_fault_is_first open_line two_names (RingOpen 1 0) refl refl

-- a hole that goes along a line and back
abbrev flat_hole : RawMap
flat_hole = map_of (polygon 119 0 ((pos 0 ∷ []) ∷ (pos 3 ∷ negsuc 3 ∷ []) ∷ []) ∷ [])

flat_hole_fault : IsRingFault flat_hole (RingFlat 1)
unfolding based face_taken ring_taken side_taken is_raw_map
flat_hole_fault = based_fault_is_first flat_hole two_names (RingFlat 1) refl refl

-- two faces with one exterior, which is turned round the second time
abbrev same_exterior : RawMap
same_exterior = map_of (polygon 119 0 ((pos 0 ∷ []) ∷ []) ∷ polygon 119 1 ((negsuc 0 ∷ []) ∷ []) ∷ [])

same_exterior_fault : IsRingFault same_exterior (SideTaken 0 0 1 2)
unfolding based face_taken ring_taken side_taken is_raw_map
same_exterior_fault = based_fault_is_first same_exterior two_names (SideTaken 0 0 1 2) refl refl

-- a face whose exterior is its hole too
abbrev hole_is_exterior : RawMap
hole_is_exterior = map_of (polygon 119 0 ((pos 0 ∷ []) ∷ (pos 0 ∷ []) ∷ []) ∷ [])

hole_is_exterior_fault : IsRingFault hole_is_exterior (SameSides 0 1)
unfolding based face_taken ring_taken side_taken is_raw_map
hole_is_exterior_fault = based_fault_is_first hole_is_exterior two_names (SameSides 0 1) refl refl
