-- Worked maps that are read back, computed from the definitions: a face with a hole in which another face lies, and a face of two parts.
use Rattle.std.proofs.Common.{◌≡◌, ℕ, pos, negsuc, List, [], ◌∷◌, map, Some, Ok, refl}
use Rattle.std.specs.Prelude.{decimal, codes}
use Rattle.std.specs.Fmt.{digits}
use Rattle.tgap_model.specs.declared.geometry.Point.{Point}
use Rattle.tgap_model.specs.declared.slice.FaceRow.{FaceRow}
use Rattle.tgap_model.specs.declared.topology.NamedRules.{NamedRules}
use Rattle.topology_forms.specs.Rings.{based, face_taken, ring_taken, side_taken}
use Rattle.topo_write.specs.Polygons.{Polygon}
use Rattle.topo_write.proofs.Examples.{points, plain, along, against}
use Rattle.topo_laws.specs.Told.{told, told_from}
use Rattle.topo_laws.specs.ReadBack.{part_from, part_face}

abbrev row : ℕ → ℕ → FaceRow
row face class = record { face = face; class = class }

-- two classes, named by their numbers
abbrev numbers : NamedRules
numbers = record {
  property = codes "class";
  names = map decimal (0 ∷ 1 ∷ []);
  default = 0;
  rules = record { ratio = 16; weights = 1 ∷ 1 ∷ []; compat = 1 ∷ 1 ∷ 1 ∷ 1 ∷ [] };
}

abbrev squares : List (List Point)
squares = points (0 ∷ 0 ∷ 30 ∷ 0 ∷ 30 ∷ 30 ∷ 0 ∷ 30 ∷ 0 ∷ 0 ∷ []) ∷ points (10 ∷ 10 ∷ 20 ∷ 10 ∷ 20 ∷ 20 ∷ 10 ∷ 20 ∷ 10 ∷ 10 ∷ []) ∷ []

-- ---- face 4 with a hole, in which face 7 lies

abbrev hole_with_face : List Polygon
hole_with_face =
    record { row = row 4 1; rings = (along 0 ∷ []) ∷ (against 1 ∷ []) ∷ [] }
    ∷ record { row = row 7 0; rings = (along 1 ∷ []) ∷ [] } ∷ []

told_hole : told_from 0 hole_with_face
    ≡ record { kind = Some (codes "1"); first_ring = 0; rings = (pos 0 ∷ []) ∷ (negsuc 1 ∷ []) ∷ [] }
    ∷ record { kind = Some (codes "0"); first_ring = 2; rings = (pos 1 ∷ []) ∷ [] } ∷ []
unfolding digits
told_hole = refl

parts_hole : map (part_from 1 hole_with_face) (along 0 ∷ against 0 ∷ along 1 ∷ against 1 ∷ []) ≡ 1 ∷ 0 ∷ 2 ∷ 1 ∷ []
parts_hole = refl

faces_hole : map (part_face hole_with_face) (0 ∷ 1 ∷ 2 ∷ []) ≡ 0 ∷ 4 ∷ 7 ∷ []
faces_hole = refl

read_hole : based (told plain squares hole_with_face) numbers ≡ Ok (record {
  transform = plain;
  rules = numbers.rules;
  classes = 1 ∷ 0 ∷ [];
  arcs =
      record { left = 1; right = 0; points = points (0 ∷ 0 ∷ 30 ∷ 0 ∷ 30 ∷ 30 ∷ 0 ∷ 30 ∷ 0 ∷ 0 ∷ []) }
      ∷ record { left = 2; right = 1; points = points (10 ∷ 10 ∷ 20 ∷ 10 ∷ 20 ∷ 20 ∷ 10 ∷ 20 ∷ 10 ∷ 10 ∷ []) } ∷ [];
})
unfolding based face_taken ring_taken side_taken digits
read_hole = refl

-- ---- face 4 has two parts, which are faces 1 and 2

abbrev two_parts : List Polygon
two_parts =
    record { row = row 4 1; rings = (along 0 ∷ []) ∷ [] }
    ∷ record { row = row 4 1; rings = (along 1 ∷ []) ∷ [] } ∷ []

parts_two : map (part_from 1 two_parts) (along 0 ∷ against 0 ∷ along 1 ∷ against 1 ∷ []) ≡ 1 ∷ 0 ∷ 2 ∷ 0 ∷ []
parts_two = refl

faces_two : map (part_face two_parts) (0 ∷ 1 ∷ 2 ∷ []) ≡ 0 ∷ 4 ∷ 4 ∷ []
faces_two = refl
