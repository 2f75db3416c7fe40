-- Nodes, cuts and fusions of small maps, computed from the definitions.
use Rattle.std.proofs.Common.{◌≡◌, ℕ, pos, Bool, true, false, ◌&&◌, nat_lt, List, [], ◌∷◌, length, map, Some, Result, Ok, Err, refl}
use Rattle.std.specs.Option.{ok_or}
use Rattle.tgap_model.specs.declared.geometry.Point.{Point}
use Rattle.tgap_model.specs.declared.base.BaseArc.{BaseArc}
use Rattle.tgap_model.specs.Base.{BaseMap}
use Rattle.tgap_model.specs.Segment.{turns_before, is_higher}
use Rattle.ring_walk.specs.Sides.{spokes_at}
use Rattle.face_cuts.specs.Outcomes.{◌>>=◌, ensured, has_room}
use Rattle.face_cuts.specs.Nodes.{is_node, place_of, add_node}
use Rattle.face_cuts.specs.Fusions.{is_face, fuse_faces}
use Rattle.face_cuts.specs.Sectors.{spans_of}
use Rattle.face_cuts.specs.Walks.{walk_between}
use Rattle.face_cuts.specs.Cuts.{are_free, sectors_of, cut_face}
use Rattle.face_cuts.proofs.CutsKeep.{cut_map}

-- a row of points from their coordinates
abbrev points : List ℕ → List Point
points [] = []
points (x ∷ []) = []
points (x ∷ y ∷ more) = record { x = pos x; y = pos y } ∷ points more

abbrev at : ℕ → ℕ → Point
at x y = record { x = pos x; y = pos y }

abbrev arc : ℕ → ℕ → List ℕ → BaseArc
arc left right coordinates = record { left = left; right = right; points = points coordinates }

-- a map of three classes
abbrev map_of : List ℕ → List BaseArc → BaseMap
map_of classes arcs = record {
  transform = record { sx = pos 1; sy = pos 1; tx = pos 0; ty = pos 0 };
  rules = record { ratio = 16; weights = 1 ∷ 1 ∷ 1 ∷ []; compat = 1 ∷ 1 ∷ 1 ∷ 1 ∷ 1 ∷ 1 ∷ 1 ∷ 1 ∷ 1 ∷ [] };
  classes = classes;
  arcs = arcs;
}

-- two squares side by side
abbrev two : BaseMap
two = map_of (1 ∷ 2 ∷ []) (arc 1 0 (10 ∷ 10 ∷ 0 ∷ 10 ∷ 0 ∷ 0 ∷ 10 ∷ 0 ∷ []) ∷ arc 2 0 (10 ∷ 0 ∷ 20 ∷ 0 ∷ 20 ∷ 10 ∷ 10 ∷ 10 ∷ []) ∷ arc 1 2 (10 ∷ 0 ∷ 10 ∷ 10 ∷ []) ∷ [])

-- one square
abbrev one : BaseMap
one = map_of (1 ∷ []) (arc 1 0 (0 ∷ 0 ∷ 10 ∷ 0 ∷ 10 ∷ 10 ∷ 0 ∷ 10 ∷ 0 ∷ 0 ∷ []) ∷ [])

-- a square within a square
abbrev nested : BaseMap
nested = map_of (0 ∷ 0 ∷ []) (arc 1 0 (0 ∷ 0 ∷ 30 ∷ 0 ∷ 30 ∷ 30 ∷ 0 ∷ 30 ∷ 0 ∷ 0 ∷ []) ∷ arc 2 1 (10 ∷ 10 ∷ 20 ∷ 10 ∷ 20 ∷ 20 ∷ 10 ∷ 20 ∷ 10 ∷ 10 ∷ []) ∷ [])

-- ---- a node, a cut between two nodes, and the fusion of the two parts

with_node : add_node two (at 0 0)
    ≡ Ok (map_of (1 ∷ 2 ∷ []) (arc 1 0 (10 ∷ 10 ∷ 0 ∷ 10 ∷ 0 ∷ 0 ∷ []) ∷ arc 2 0 (10 ∷ 0 ∷ 20 ∷ 0 ∷ 20 ∷ 10 ∷ 10 ∷ 10 ∷ []) ∷ arc 1 2 (10 ∷ 0 ∷ 10 ∷ 10 ∷ [])
    ∷ arc 1 0 (0 ∷ 0 ∷ 10 ∷ 0 ∷ []) ∷ []))
unfolding add_node
with_node = refl

cut_in_two : add_node two (at 0 0) >>= (λ m. cut_face m 1 0 (points (0 ∷ 0 ∷ 10 ∷ 10 ∷ [])))
    ≡ Ok (map_of (1 ∷ 2 ∷ 0 ∷ []) (arc 3 0 (10 ∷ 10 ∷ 0 ∷ 10 ∷ 0 ∷ 0 ∷ []) ∷ arc 2 0 (10 ∷ 0 ∷ 20 ∷ 0 ∷ 20 ∷ 10 ∷ 10 ∷ 10 ∷ []) ∷ arc 1 2 (10 ∷ 0 ∷ 10 ∷ 10 ∷ [])
    ∷ arc 1 0 (0 ∷ 0 ∷ 10 ∷ 0 ∷ []) ∷ arc 3 1 (0 ∷ 0 ∷ 10 ∷ 10 ∷ []) ∷ []))
unfolding add_node cut_face spokes_at turns_before is_higher
cut_in_two = refl

fused_again : (add_node two (at 0 0) >>= (λ m. cut_face m 1 0 (points (0 ∷ 0 ∷ 10 ∷ 10 ∷ [])))) >>= (λ m. fuse_faces m 1 3) ≡ add_node two (at 0 0)
unfolding add_node cut_face fuse_faces spokes_at turns_before is_higher
fused_again = refl

-- the walk has the least segment of the old ring; the other arc stays with the face
square_in_two : add_node one (at 10 10) >>= (λ m. cut_face m 1 2 (points (10 ∷ 10 ∷ 0 ∷ 0 ∷ [])))
    ≡ Ok (map_of (1 ∷ 2 ∷ []) (arc 2 0 (0 ∷ 0 ∷ 10 ∷ 0 ∷ 10 ∷ 10 ∷ []) ∷ arc 1 0 (10 ∷ 10 ∷ 0 ∷ 10 ∷ 0 ∷ 0 ∷ []) ∷ arc 2 1 (10 ∷ 10 ∷ 0 ∷ 0 ∷ []) ∷ []))
unfolding add_node cut_face spokes_at turns_before is_higher
square_in_two = refl

-- ---- other rings of the face

-- a field with an island at each side of the cut
abbrev islands : BaseMap
islands = map_of (0 ∷ 1 ∷ 2 ∷ []) (arc 1 0 (20 ∷ 0 ∷ 40 ∷ 0 ∷ 40 ∷ 20 ∷ 20 ∷ 20 ∷ []) ∷ arc 1 0 (20 ∷ 20 ∷ 0 ∷ 20 ∷ 0 ∷ 0 ∷ 20 ∷ 0 ∷ [])
    ∷ arc 2 1 (5 ∷ 5 ∷ 10 ∷ 5 ∷ 10 ∷ 10 ∷ 5 ∷ 10 ∷ 5 ∷ 5 ∷ []) ∷ arc 3 1 (25 ∷ 5 ∷ 30 ∷ 5 ∷ 30 ∷ 10 ∷ 25 ∷ 10 ∷ 25 ∷ 5 ∷ []) ∷ [])

-- going up, the west is at the left
island_at_left : cut_face islands 1 1 (points (20 ∷ 0 ∷ 20 ∷ 20 ∷ []))
    ≡ Ok (map_of (0 ∷ 1 ∷ 2 ∷ 1 ∷ []) (arc 1 0 (20 ∷ 0 ∷ 40 ∷ 0 ∷ 40 ∷ 20 ∷ 20 ∷ 20 ∷ []) ∷ arc 4 0 (20 ∷ 20 ∷ 0 ∷ 20 ∷ 0 ∷ 0 ∷ 20 ∷ 0 ∷ [])
    ∷ arc 2 4 (5 ∷ 5 ∷ 10 ∷ 5 ∷ 10 ∷ 10 ∷ 5 ∷ 10 ∷ 5 ∷ 5 ∷ []) ∷ arc 3 1 (25 ∷ 5 ∷ 30 ∷ 5 ∷ 30 ∷ 10 ∷ 25 ∷ 10 ∷ 25 ∷ 5 ∷ []) ∷ arc 4 1 (20 ∷ 0 ∷ 20 ∷ 20 ∷ []) ∷ []))
unfolding cut_face spokes_at turns_before is_higher
island_at_left = refl

-- going down, the east is
island_at_other_side : cut_face islands 1 1 (points (20 ∷ 20 ∷ 15 ∷ 12 ∷ 20 ∷ 0 ∷ []))
    ≡ Ok (map_of (0 ∷ 1 ∷ 2 ∷ 1 ∷ []) (arc 4 0 (20 ∷ 0 ∷ 40 ∷ 0 ∷ 40 ∷ 20 ∷ 20 ∷ 20 ∷ []) ∷ arc 1 0 (20 ∷ 20 ∷ 0 ∷ 20 ∷ 0 ∷ 0 ∷ 20 ∷ 0 ∷ [])
    ∷ arc 2 1 (5 ∷ 5 ∷ 10 ∷ 5 ∷ 10 ∷ 10 ∷ 5 ∷ 10 ∷ 5 ∷ 5 ∷ []) ∷ arc 3 4 (25 ∷ 5 ∷ 30 ∷ 5 ∷ 30 ∷ 10 ∷ 25 ∷ 10 ∷ 25 ∷ 5 ∷ []) ∷ arc 4 1 (20 ∷ 20 ∷ 15 ∷ 12 ∷ 20 ∷ 0 ∷ []) ∷ []))
unfolding cut_face spokes_at turns_before is_higher
island_at_other_side = refl

-- A cut from an island round to it again, with the rest of the field at its left: the new ring goes round clockwise, and what no segment of it
-- is above lies at its left.
abbrev bay : BaseMap
bay = map_of (0 ∷ 1 ∷ []) (arc 1 0 (0 ∷ 0 ∷ 40 ∷ 0 ∷ 40 ∷ 40 ∷ 0 ∷ 40 ∷ 0 ∷ 0 ∷ []) ∷ arc 2 1 (10 ∷ 10 ∷ 20 ∷ 10 ∷ []) ∷ arc 2 1 (20 ∷ 10 ∷ 20 ∷ 20 ∷ 10 ∷ 20 ∷ 10 ∷ 10 ∷ []) ∷ [])

round_outside : cut_face bay 1 2 (points (20 ∷ 10 ∷ 15 ∷ 5 ∷ 10 ∷ 10 ∷ []))
    ≡ Ok (map_of (0 ∷ 1 ∷ 2 ∷ []) (arc 3 0 (0 ∷ 0 ∷ 40 ∷ 0 ∷ 40 ∷ 40 ∷ 0 ∷ 40 ∷ 0 ∷ 0 ∷ []) ∷ arc 2 1 (10 ∷ 10 ∷ 20 ∷ 10 ∷ []) ∷ arc 2 3 (20 ∷ 10 ∷ 20 ∷ 20 ∷ 10 ∷ 20 ∷ 10 ∷ 10 ∷ [])
    ∷ arc 3 1 (20 ∷ 10 ∷ 15 ∷ 5 ∷ 10 ∷ 10 ∷ []) ∷ []))
unfolding cut_face spokes_at turns_before is_higher
round_outside = refl

-- the same cut, the other way round
round_inside : cut_face bay 1 2 (points (10 ∷ 10 ∷ 15 ∷ 5 ∷ 20 ∷ 10 ∷ []))
    ≡ Ok (map_of (0 ∷ 1 ∷ 2 ∷ []) (arc 1 0 (0 ∷ 0 ∷ 40 ∷ 0 ∷ 40 ∷ 40 ∷ 0 ∷ 40 ∷ 0 ∷ 0 ∷ []) ∷ arc 2 3 (10 ∷ 10 ∷ 20 ∷ 10 ∷ []) ∷ arc 2 1 (20 ∷ 10 ∷ 20 ∷ 20 ∷ 10 ∷ 20 ∷ 10 ∷ 10 ∷ [])
    ∷ arc 3 1 (10 ∷ 10 ∷ 15 ∷ 5 ∷ 20 ∷ 10 ∷ []) ∷ []))
unfolding cut_face spokes_at turns_before is_higher
round_inside = refl

-- Two islands touch the border of the field: one in the middle of the walk, which goes round it, and one at the arc's end, beside the walk but on its ring.
abbrev touching : BaseMap
touching = map_of (0 ∷ 1 ∷ 2 ∷ []) (arc 1 0 (20 ∷ 0 ∷ 40 ∷ 0 ∷ 40 ∷ 20 ∷ 20 ∷ 20 ∷ []) ∷ arc 1 0 (20 ∷ 20 ∷ 0 ∷ 20 ∷ 0 ∷ 10 ∷ []) ∷ arc 1 0 (0 ∷ 10 ∷ 0 ∷ 0 ∷ 20 ∷ 0 ∷ [])
    ∷ arc 2 1 (0 ∷ 10 ∷ 5 ∷ 8 ∷ 5 ∷ 12 ∷ 0 ∷ 10 ∷ []) ∷ arc 3 1 (20 ∷ 20 ∷ 25 ∷ 10 ∷ 30 ∷ 15 ∷ 20 ∷ 20 ∷ []) ∷ [])

touched : cut_face touching 1 0 (points (20 ∷ 0 ∷ 20 ∷ 20 ∷ []))
    ≡ Ok (map_of (0 ∷ 1 ∷ 2 ∷ 0 ∷ []) (arc 1 0 (20 ∷ 0 ∷ 40 ∷ 0 ∷ 40 ∷ 20 ∷ 20 ∷ 20 ∷ []) ∷ arc 4 0 (20 ∷ 20 ∷ 0 ∷ 20 ∷ 0 ∷ 10 ∷ []) ∷ arc 4 0 (0 ∷ 10 ∷ 0 ∷ 0 ∷ 20 ∷ 0 ∷ [])
    ∷ arc 2 4 (0 ∷ 10 ∷ 5 ∷ 8 ∷ 5 ∷ 12 ∷ 0 ∷ 10 ∷ []) ∷ arc 3 1 (20 ∷ 20 ∷ 25 ∷ 10 ∷ 30 ∷ 15 ∷ 20 ∷ 20 ∷ []) ∷ arc 4 1 (20 ∷ 0 ∷ 20 ∷ 20 ∷ []) ∷ []))
unfolding cut_face spokes_at turns_before is_higher
touched = refl

-- a face of two squares that are apart: the other one stays
abbrev apart : BaseMap
apart = map_of (1 ∷ []) (arc 1 0 (0 ∷ 0 ∷ 10 ∷ 0 ∷ 10 ∷ 10 ∷ []) ∷ arc 1 0 (10 ∷ 10 ∷ 0 ∷ 10 ∷ 0 ∷ 0 ∷ []) ∷ arc 1 0 (20 ∷ 0 ∷ 30 ∷ 0 ∷ 30 ∷ 10 ∷ 20 ∷ 10 ∷ 20 ∷ 0 ∷ []) ∷ [])

one_of_two_parts : cut_face apart 1 0 (points (10 ∷ 10 ∷ 0 ∷ 0 ∷ []))
    ≡ Ok (map_of (1 ∷ 0 ∷ []) (arc 2 0 (0 ∷ 0 ∷ 10 ∷ 0 ∷ 10 ∷ 10 ∷ []) ∷ arc 1 0 (10 ∷ 10 ∷ 0 ∷ 10 ∷ 0 ∷ 0 ∷ []) ∷ arc 1 0 (20 ∷ 0 ∷ 30 ∷ 0 ∷ 30 ∷ 10 ∷ 20 ∷ 10 ∷ 20 ∷ 0 ∷ [])
    ∷ arc 2 1 (10 ∷ 10 ∷ 0 ∷ 0 ∷ []) ∷ []))
unfolding cut_face spokes_at turns_before is_higher
one_of_two_parts = refl

-- ---- fusions

-- three squares in a row
abbrev three : BaseMap
three = map_of (0 ∷ 1 ∷ 2 ∷ []) (arc 1 0 (10 ∷ 10 ∷ 0 ∷ 10 ∷ 0 ∷ 0 ∷ 10 ∷ 0 ∷ []) ∷ arc 2 0 (10 ∷ 0 ∷ 20 ∷ 0 ∷ []) ∷ arc 1 2 (10 ∷ 0 ∷ 10 ∷ 10 ∷ [])
    ∷ arc 0 2 (10 ∷ 10 ∷ 20 ∷ 10 ∷ []) ∷ arc 3 0 (20 ∷ 0 ∷ 30 ∷ 0 ∷ 30 ∷ 10 ∷ 20 ∷ 10 ∷ []) ∷ arc 2 3 (20 ∷ 0 ∷ 20 ∷ 10 ∷ []) ∷ [])

-- the last face gets the number that is free, with its class
last_renamed : fuse_faces three 2 1 ≡ Ok (map_of (2 ∷ 1 ∷ []) (arc 2 0 (10 ∷ 10 ∷ 0 ∷ 10 ∷ 0 ∷ 0 ∷ 10 ∷ 0 ∷ []) ∷ arc 2 0 (10 ∷ 0 ∷ 20 ∷ 0 ∷ [])
    ∷ arc 0 2 (10 ∷ 10 ∷ 20 ∷ 10 ∷ []) ∷ arc 1 0 (20 ∷ 0 ∷ 30 ∷ 0 ∷ 30 ∷ 10 ∷ 20 ∷ 10 ∷ []) ∷ arc 2 1 (20 ∷ 0 ∷ 20 ∷ 10 ∷ []) ∷ []))
unfolding fuse_faces
last_renamed = refl

-- also where the last face is the one that is left
kept_renamed : fuse_faces three 3 2 ≡ Ok (map_of (0 ∷ 2 ∷ []) (arc 1 0 (10 ∷ 10 ∷ 0 ∷ 10 ∷ 0 ∷ 0 ∷ 10 ∷ 0 ∷ []) ∷ arc 2 0 (10 ∷ 0 ∷ 20 ∷ 0 ∷ []) ∷ arc 1 2 (10 ∷ 0 ∷ 10 ∷ 10 ∷ [])
    ∷ arc 0 2 (10 ∷ 10 ∷ 20 ∷ 10 ∷ []) ∷ arc 2 0 (20 ∷ 0 ∷ 30 ∷ 0 ∷ 30 ∷ 10 ∷ 20 ∷ 10 ∷ []) ∷ []))
unfolding fuse_faces
kept_renamed = refl

-- where the last face is gone, no other gets a new number
last_gone : fuse_faces three 2 3 ≡ Ok (map_of (0 ∷ 1 ∷ []) (arc 1 0 (10 ∷ 10 ∷ 0 ∷ 10 ∷ 0 ∷ 0 ∷ 10 ∷ 0 ∷ []) ∷ arc 2 0 (10 ∷ 0 ∷ 20 ∷ 0 ∷ []) ∷ arc 1 2 (10 ∷ 0 ∷ 10 ∷ 10 ∷ [])
    ∷ arc 0 2 (10 ∷ 10 ∷ 20 ∷ 10 ∷ []) ∷ arc 2 0 (20 ∷ 0 ∷ 30 ∷ 0 ∷ 30 ∷ 10 ∷ 20 ∷ 10 ∷ []) ∷ []))
unfolding fuse_faces
last_gone = refl

-- ---- when an edit is refused

abbrev each_node : BaseMap → List Point → List (Result BaseMap ℕ)
each_node m vertices = map (add_node m) vertices

no_such_point : each_node two (at 5 5 ∷ at 10 5 ∷ []) ≡ Err 3 ∷ Err 3 ∷ []
unfolding add_node
no_such_point = refl

node_already : each_node two (at 10 0 ∷ at 10 10 ∷ []) ≡ Err 6 ∷ Err 6 ∷ []
unfolding add_node
node_already = refl

abbrev each_fusion : BaseMap → List (ℕ × ℕ) → List (Result BaseMap ℕ)
each_fusion m pairs = map (λ p. fuse_faces m p.0 p.1) pairs

fusion_of_no_face : each_fusion two ((0, 1) ∷ (1, 0) ∷ (3, 1) ∷ (1, 3) ∷ (2147483648, 1) ∷ []) ≡ Err 2 ∷ Err 2 ∷ Err 2 ∷ Err 2 ∷ Err 2 ∷ []
unfolding fuse_faces
fusion_of_no_face = refl

nothing_between : each_fusion three ((1, 1) ∷ (3, 3) ∷ (1, 3) ∷ (3, 1) ∷ []) ≡ Err 13 ∷ Err 13 ∷ Err 13 ∷ Err 13 ∷ []
unfolding fuse_faces
nothing_between = refl

-- the only border of a face is that of the other
nothing_left : fuse_faces (map_of (0 ∷ 0 ∷ []) (arc 1 2 (0 ∷ 0 ∷ 10 ∷ 0 ∷ 0 ∷ 10 ∷ 0 ∷ 0 ∷ []) ∷ [])) 1 2 ≡ Err 14
unfolding fuse_faces
nothing_left = refl

abbrev cuts_of : BaseMap → List (ℕ × ℕ × List ℕ) → List (Result BaseMap ℕ)
cuts_of m cuts = map (λ c. cut_face m c.0 c.1 (points c.2)) cuts

-- no face 0 or 3, no class 3; and this comes first
cut_of_no_face : cuts_of two ((0, 0, 10 ∷ 0 ∷ 10 ∷ 10 ∷ []) ∷ (3, 0, 10 ∷ 0 ∷ 10 ∷ 10 ∷ []) ∷ (1, 3, 10 ∷ 0 ∷ 10 ∷ 10 ∷ []) ∷ (1, 3, 10 ∷ 0 ∷ 10 ∷ 0 ∷ []) ∷ [])
    ≡ Err 2 ∷ Err 2 ∷ Err 2 ∷ Err 2 ∷ []
unfolding cut_face
cut_of_no_face = refl

-- a point twice, the first one as the last, an inner point that is a point of the map; and this before an end that is no node
points_taken : cuts_of two ((1, 0, 10 ∷ 0 ∷ 5 ∷ 5 ∷ 5 ∷ 5 ∷ 10 ∷ 10 ∷ []) ∷ (1, 0, 10 ∷ 0 ∷ 5 ∷ 5 ∷ 10 ∷ 0 ∷ []) ∷ (1, 0, 10 ∷ 0 ∷ 0 ∷ 0 ∷ 10 ∷ 10 ∷ []) ∷ (1, 0, 5 ∷ 5 ∷ 5 ∷ 5 ∷ []) ∷ [])
    ≡ Err 10 ∷ Err 10 ∷ Err 10 ∷ Err 10 ∷ []
unfolding cut_face
points_taken = refl

-- an end that is an inner vertex or no point of the map, a direction along an arc, and a direction into another face, at the start and at the end
no_sector : cuts_of two ((1, 0, 0 ∷ 0 ∷ 10 ∷ 10 ∷ []) ∷ (1, 0, 10 ∷ 10 ∷ 5 ∷ 5 ∷ []) ∷ (1, 0, 10 ∷ 0 ∷ 5 ∷ 0 ∷ 10 ∷ 10 ∷ []) ∷ (1, 0, 10 ∷ 0 ∷ 5 ∷ 10 ∷ 10 ∷ 10 ∷ [])
    ∷ (1, 0, 10 ∷ 0 ∷ 15 ∷ 5 ∷ 10 ∷ 10 ∷ []) ∷ (1, 0, 10 ∷ 0 ∷ 5 ∷ 5 ∷ 5 ∷ 15 ∷ 10 ∷ 10 ∷ []) ∷ [])
    ≡ Err 9 ∷ Err 9 ∷ Err 9 ∷ Err 9 ∷ Err 9 ∷ Err 9 ∷ []
unfolding cut_face spokes_at turns_before
no_sector = refl

-- the ends stand on two rings
no_walk : cut_face nested 1 0 (points (0 ∷ 0 ∷ 10 ∷ 10 ∷ [])) ≡ Err 12
unfolding cut_face spokes_at turns_before
no_walk = refl

-- ---- a map that is as large as it may be

-- a node wants room for an arc and a point more
no_room_for_node : (m : BaseMap) (v : Point) (place : ℕ × ℕ) → place_of v m.arcs ≡ Some place → is_node v m.arcs ≡ false → has_room m 0 1 1 ≡ false → add_node m v ≡ Err 11
unfolding add_node
no_room_for_node m v place found inner full = rw (found, inner, full) refl

-- a cut for a face and an arc more, and its points; that is told before what is wrong with the points
no_room_for_cut : (m : BaseMap) (f k : ℕ) (line : List Point) → is_face m f ≡ true → nat_lt k (length m.rules.weights) ≡ true → has_room m 1 1 (length line) ≡ false → cut_face m f k line ≡ Err 11
unfolding cut_face
no_room_for_cut m f k line face class full = by (is_face m f) (nat_lt k (length m.rules.weights)) (has_room m 1 1 (length line)) face class full
  where
    rest : Result BaseMap ℕ
    rest = ensured (are_free m.arcs line) 10 >>= λ free. ok_or (sectors_of (spans_of m.arcs) f line) 9 >>= λ sectors.
        ok_or (walk_between (spans_of m.arcs) f sectors.0 sectors.1) 12 >>= λ walk. Ok (cut_map m f k line walk)

    by : (a b c : Bool) → a ≡ true → b ≡ true → c ≡ false → (let cut : Result BaseMap ℕ = ensured (a && b) 2 >>= λ named. ensured c 11 >>= λ room. rest in cut) ≡ Err 11
    by true true false e f g = refl
    by true true true e f g = absurd cc
    by true false c e f g = absurd cc
    by false b c e f g = absurd cc
