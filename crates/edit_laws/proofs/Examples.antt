-- Edits of two squares and of some other maps, and the first faults of others, computed from the definitions.
use Rattle.std.proofs.Common.{◌≡◌, ℕ, true, false, pos, List, [], ◌∷◌, ◌++◌, map, Some, Result, Ok, Err, refl, codes}
use Rattle.std.specs.Prelude.{replicate}
use Rattle.std.specs.Fmt.{digits}
use Rattle.tgap_model.specs.declared.geometry.Point.{Point}
use Rattle.tgap_model.specs.declared.base.BaseArc.{BaseArc}
use Rattle.tgap_model.specs.declared.limits.TheConstants.{MAX_FACES, MAX_POINTS}
use Rattle.tgap_model.specs.Base.{BaseMap, count_points}
use Rattle.tgap_model.specs.Segment.{turns_before, is_higher}
use Rattle.line_forms.specs.Texts.{number_of}
use Rattle.line_forms.specs.ListingLines.{points_at}
use Rattle.ring_walk.specs.Sides.{spokes_at}
use Rattle.face_cuts.specs.Outcomes.{has_room}
use Rattle.face_cuts.specs.Nodes.{place_of, add_node}
use Rattle.face_cuts.specs.Fusions.{fuse_faces}
use Rattle.face_cuts.specs.Cuts.{cut_face}
use Rattle.edit_laws.specs.Edits.{Node, has_point, is_node, put_between, change_first, set_class, move_point, add_point, drop_point}
use Rattle.edit_laws.specs.Edits.{cut_named, fuse_named, apply, edited}
use Rattle.edit_laws.specs.EditLaws.{ends_line, joined_entry}

-- an arc from the numbers of its line
abbrev points_of : List ℕ → List Point
points_of [] = []
points_of (x ∷ []) = []
points_of (x ∷ y ∷ more) = record { x = pos x; y = pos y } ∷ points_of more

abbrev arc : ℕ → ℕ → List ℕ → BaseArc
arc left right coordinates = record { left = left; right = right; points = points_of coordinates }

-- a map of two classes
abbrev map_of : List ℕ → List BaseArc → BaseMap
map_of classes arcs = record {
  transform = record { sx = pos 1; sy = pos 1; tx = pos 0; ty = pos 0 };
  rules = record { ratio = 0; weights = 1 ∷ 1 ∷ []; compat = 1 ∷ 1 ∷ 1 ∷ 1 ∷ [] };
  classes = classes;
  arcs = arcs;
}

-- two squares side by side
abbrev left_arc : BaseArc
left_arc = arc 1 0 (10 ∷ 10 ∷ 0 ∷ 10 ∷ 0 ∷ 0 ∷ 10 ∷ 0 ∷ [])

abbrev right_arc : BaseArc
right_arc = arc 2 0 (10 ∷ 0 ∷ 20 ∷ 0 ∷ 20 ∷ 10 ∷ 10 ∷ 10 ∷ [])

abbrev between : List ℕ → BaseArc
between coordinates = arc 1 2 coordinates

abbrev squares : BaseMap
squares = map_of (0 ∷ 0 ∷ []) (left_arc ∷ right_arc ∷ between (10 ∷ 0 ∷ 10 ∷ 10 ∷ []) ∷ [])

-- the two squares with other arcs
abbrev with_arcs : List BaseArc → BaseMap
with_arcs arcs = map_of (0 ∷ 0 ∷ []) arcs

-- the squares with a point more between them
abbrev bent : BaseMap
bent = with_arcs (left_arc ∷ right_arc ∷ between (10 ∷ 0 ∷ 11 ∷ 5 ∷ 10 ∷ 10 ∷ []) ∷ [])

-- an arc that goes back and forth
abbrev twice : BaseArc
twice = arc 1 2 (0 ∷ 0 ∷ 50 ∷ 0 ∷ 0 ∷ 0 ∷ 90 ∷ 90 ∷ [])

-- the left square with a node at its lower left corner, where its border is two arcs
abbrev upper_border : ℕ → BaseArc
upper_border face = arc face 0 (10 ∷ 10 ∷ 0 ∷ 10 ∷ 0 ∷ 0 ∷ [])

abbrev lower_border : BaseArc
lower_border = arc 1 0 (0 ∷ 0 ∷ 10 ∷ 0 ∷ [])

abbrev with_node : BaseMap
with_node = with_arcs (upper_border 1 ∷ right_arc ∷ between (10 ∷ 0 ∷ 10 ∷ 10 ∷ []) ∷ lower_border ∷ [])

-- one square, a square within a square, and a triangle that is all that two faces have
abbrev square : BaseMap
square = map_of (0 ∷ []) (arc 1 0 (0 ∷ 0 ∷ 10 ∷ 0 ∷ 10 ∷ 10 ∷ 0 ∷ 10 ∷ 0 ∷ 0 ∷ []) ∷ [])

abbrev nested : BaseMap
nested = with_arcs (arc 1 0 (0 ∷ 0 ∷ 30 ∷ 0 ∷ 30 ∷ 30 ∷ 0 ∷ 30 ∷ 0 ∷ 0 ∷ []) ∷ arc 2 1 (10 ∷ 10 ∷ 20 ∷ 10 ∷ 20 ∷ 20 ∷ 10 ∷ 20 ∷ 10 ∷ 10 ∷ []) ∷ [])

abbrev triangle : BaseMap
triangle = with_arcs (arc 1 2 (0 ∷ 0 ∷ 10 ∷ 0 ∷ 0 ∷ 10 ∷ 0 ∷ 0 ∷ []) ∷ [])

-- ---- what each line does

no_line : edited squares [] ≡ Ok squares
no_line = refl

class_line : edited squares (codes "class 2 1\n") ≡ Ok (map_of (0 ∷ 1 ∷ []) squares.arcs)
unfolding set_class number_of digits
class_line = refl

-- each arc that has the point has the other one
move_line : edited squares (codes "move 10 0 12 1\n") ≡ Ok (with_arcs (
    arc 1 0 (10 ∷ 10 ∷ 0 ∷ 10 ∷ 0 ∷ 0 ∷ 12 ∷ 1 ∷ []) ∷ arc 2 0 (12 ∷ 1 ∷ 20 ∷ 0 ∷ 20 ∷ 10 ∷ 10 ∷ 10 ∷ []) ∷ between (12 ∷ 1 ∷ 10 ∷ 10 ∷ []) ∷ []))
unfolding move_point number_of digits
move_line = refl

-- the ends of a segment may be named in either order
add_line : edited squares (codes "add 10 0 10 10 11 5\n") ≡ Ok bent
unfolding add_point number_of digits
add_line = refl

add_line_turned : edited squares (codes "add 10 10 10 0 11 5\n") ≡ Ok bent
unfolding add_point number_of digits
add_line_turned = refl

-- of two segments with these ends the first one has the new point
add_to_first : edited (with_arcs (left_arc ∷ twice ∷ twice ∷ [])) (codes "add 50 0 0 0 20 0\n")
    ≡ Ok (with_arcs (left_arc ∷ arc 1 2 (0 ∷ 0 ∷ 20 ∷ 0 ∷ 50 ∷ 0 ∷ 0 ∷ 0 ∷ 90 ∷ 90 ∷ []) ∷ twice ∷ []))
unfolding add_point number_of digits
add_to_first = refl

drop_line : edited bent (codes "drop 11 5\n") ≡ Ok squares
unfolding drop_point number_of digits
drop_line = refl

-- the arc ends at its new node, and a new last arc has the rest
node_line : edited squares (codes "node 0 0\n") ≡ Ok with_node
unfolding add_node number_of digits
node_line = refl

-- the new face is at the left of the new arc
cut_line : edited squares (codes "node 0 0\ncut 1 0 2 0 0 10 10\n")
    ≡ Ok (map_of (0 ∷ 0 ∷ 0 ∷ []) (upper_border 3 ∷ right_arc ∷ between (10 ∷ 0 ∷ 10 ∷ 10 ∷ []) ∷ lower_border ∷ arc 3 1 (0 ∷ 0 ∷ 10 ∷ 10 ∷ []) ∷ []))
unfolding add_node cut_named cut_face spokes_at turns_before is_higher points_at number_of digits
cut_line = refl

-- an arc that ends where it begins has two nodes after the first line
square_in_two : edited square (codes "node 10 10\ncut 1 0 2 10 10 0 0\n")
    ≡ Ok (with_arcs (arc 2 0 (0 ∷ 0 ∷ 10 ∷ 0 ∷ 10 ∷ 10 ∷ []) ∷ arc 1 0 (10 ∷ 10 ∷ 0 ∷ 10 ∷ 0 ∷ 0 ∷ []) ∷ arc 2 1 (10 ∷ 10 ∷ 0 ∷ 0 ∷ []) ∷ []))
unfolding add_node cut_named cut_face spokes_at turns_before is_higher points_at number_of digits
square_in_two = refl

-- a cut is taken back, and its node stays
fuse_line : edited squares (codes "node 0 0\ncut 1 0 2 0 0 10 10\nfuse 1 3\n") ≡ Ok with_node
unfolding add_node cut_named cut_face fuse_named fuse_faces spokes_at turns_before is_higher points_at number_of digits
fuse_line = refl

-- the fused face has the class of the one that is named first, and here the number that is free
fuse_line_turned : edited squares (codes "node 0 0\ncut 1 1 2 0 0 10 10\nfuse 3 1\n") ≡ Ok (map_of (1 ∷ 0 ∷ []) with_node.arcs)
unfolding add_node cut_named cut_face fuse_named fuse_faces spokes_at turns_before is_higher points_at number_of digits
fuse_line_turned = refl

-- a line sees what the lines before it left
lines_in_a_row : edited squares (codes "add 10 0 10 10 11 5\nclass 1 1\nmove 11 5 11 6\ndrop 11 6\n") ≡ Ok (map_of (1 ∷ 0 ∷ []) squares.arcs)
unfolding add_point set_class move_point drop_point number_of digits
lines_in_a_row = refl

all_lines_in_a_row : edited squares (codes "add 10 0 10 10 11 5\nclass 1 1\nnode 0 0\ncut 1 0 3 0 0 5 6 10 10\nmove 5 6 4 6\ndrop 11 5\nfuse 1 3\n")
    ≡ Ok (map_of (1 ∷ 0 ∷ []) with_node.arcs)
unfolding add_point set_class add_node cut_named cut_face move_point drop_point fuse_named fuse_faces
    spokes_at turns_before is_higher points_at number_of digits
all_lines_in_a_row = refl

-- ---- when a line is refused

-- what comes of each of these batches
abbrev each : BaseMap → List (List ℕ) → List (Result BaseMap (ℕ × ℕ))
each m batches = map (edited m) batches

-- the same fault of so many batches
abbrev all_at : ℕ → ℕ → ℕ → List (Result BaseMap (ℕ × ℕ))
all_at count line cause = replicate count (Err (line, cause))

of_no_form : each squares (
    codes "\n" ∷ codes "class 1 1" ∷ codes "clas 1 1\n" ∷ codes "class 1\n" ∷ codes "class 1 1 1\n" ∷ codes "class  1 1\n" ∷ codes "class 01 1\n"
    ∷ codes "class 1 -0\n" ∷ codes "class +1 1\n" ∷ codes "class 1 1\r\n" ∷ codes "move 10 0 12\n" ∷ codes "drop 0 2147483649\n" ∷ codes "drop -0 0\n" ∷ [])
    ≡ all_at 13 1 1
unfolding number_of digits
of_no_form = refl

node_of_no_form : each squares (
    codes "node 0\n" ∷ codes "node 0 0 0\n" ∷ codes "node 0 2147483649\n" ∷ codes "node 0 -0\n" ∷ codes "nodes 0 0\n" ∷ codes "node 0 0" ∷ [])
    ≡ all_at 6 1 1
unfolding number_of digits
node_of_no_form = refl

-- a count that is none or out of its range, and other points than it says
cut_of_no_form : each squares (
    codes "cut 1 0\n" ∷ codes "cut 1 0 1 0 0\n" ∷ codes "cut 1 0 65536 0 0 10 10\n" ∷ codes "cut 1 0 02 0 0 10 10\n" ∷ codes "cut 1 0 -2 0 0 10 10\n"
    ∷ codes "cut 1 0 65535 0 0 10 10\n" ∷ codes "cut 1 0 2 0 0 10\n" ∷ codes "cut 1 0 2 0 0 10 10 5\n" ∷ codes "cut 1 0 2 0 0 10 10 5 5\n"
    ∷ codes "cut 1 0 2 0 0 10 2147483649\n" ∷ codes "cut 01 0 2 0 0 10 10\n" ∷ codes "cut 1 -0 2 0 0 10 10\n" ∷ codes "cut 1 0 2 0 0 10 10" ∷ [])
    ≡ all_at 13 1 1
unfolding points_at number_of digits
cut_of_no_form = refl

fuse_of_no_form : each squares (
    codes "fuse 1\n" ∷ codes "fuse 1 2 3\n" ∷ codes "fuse 1 +2\n" ∷ codes "fuse 1 02\n" ∷ codes "fuse  1 2\n" ∷ codes "fuse 1 2" ∷ []) ≡ all_at 6 1 1
unfolding number_of digits
fuse_of_no_form = refl

no_such_face_or_class : each squares (
    codes "class 0 0\n" ∷ codes "class 3 0\n" ∷ codes "class -1 0\n" ∷ codes "class 1 2\n" ∷ codes "class 1 -1\n" ∷ codes "class 123456789012345678901234567890 0\n" ∷ [])
    ≡ all_at 6 1 2
unfolding set_class number_of digits
no_such_face_or_class = refl

-- this comes before what is wrong with the points
cut_of_no_such_face_or_class : each squares (
    codes "cut 0 0 2 10 0 10 10\n" ∷ codes "cut 3 0 2 10 0 10 10\n" ∷ codes "cut -1 0 2 10 0 10 10\n"
    ∷ codes "cut 1180591620717411303424 0 2 10 0 10 10\n" ∷ codes "cut 1 2 2 10 0 10 10\n" ∷ codes "cut 1 -1 2 10 0 10 10\n"
    ∷ codes "cut 1 1180591620717411303424 2 10 0 10 10\n" ∷ codes "cut 1 2 2 10 0 10 0\n" ∷ [])
    ≡ all_at 8 1 2
unfolding cut_named points_at number_of digits
cut_of_no_such_face_or_class = refl

fuse_of_no_such_face : each squares (
    codes "fuse 0 1\n" ∷ codes "fuse 1 0\n" ∷ codes "fuse 3 1\n" ∷ codes "fuse 1 3\n" ∷ codes "fuse -1 2\n"
    ∷ codes "fuse 1 1180591620717411303424\n" ∷ [])
    ≡ all_at 6 1 2
unfolding fuse_named number_of digits
fuse_of_no_such_face = refl

no_such_point : each squares (codes "move 1 1 0 0\n" ∷ codes "drop 1 1\n" ∷ []) ≡ all_at 2 1 3
unfolding move_point drop_point number_of digits
no_such_point = refl

no_such_vertex : each squares (codes "node 1 1\n" ∷ codes "node 10 5\n" ∷ []) ≡ all_at 2 1 3
unfolding add_node number_of digits
no_such_vertex = refl

already_there : each squares (codes "move 10 0 10 0\n" ∷ codes "move 10 0 20 0\n" ∷ codes "add 10 0 10 10 0 0\n" ∷ []) ≡ all_at 3 1 4
unfolding move_point add_point number_of digits
already_there = refl

no_such_segment : each squares (codes "add 10 0 20 10 0 0\n" ∷ codes "add 0 0 0 0 1 1\n" ∷ codes "add 1 1 2 2 3 3\n" ∷ []) ≡ all_at 3 1 5
unfolding add_point number_of digits
no_such_segment = refl

a_node : each squares (codes "drop 10 0\n" ∷ codes "drop 10 10\n" ∷ []) ≡ all_at 2 1 6
unfolding drop_point number_of digits
a_node = refl

a_node_already : each squares (codes "node 10 0\n" ∷ codes "node 10 10\n" ∷ []) ≡ all_at 2 1 6
unfolding add_node number_of digits
a_node_already = refl

-- the first place of the point counts
between_equal_points : edited (with_arcs (twice ∷ [])) (codes "drop 50 0\n") ≡ Err (1, 7)
unfolding drop_point number_of digits
between_equal_points = refl

-- a base with as many points as there may be
no_room : (m : BaseMap) (a b new : Point) (arcs : List BaseArc) → change_first (put_between a b new) m.arcs ≡ Some arcs → has_point new m.arcs ≡ false
    → count_points m.arcs ≡ MAX_POINTS → add_point m a b new ≡ Err 8
unfolding add_point
no_room m a b new arcs segment free full = rw (segment, free, full) refl

-- An end that is no node, a direction along an arc, and one into another face. The first of these lines is no fault behind one that makes its node.
no_sector : each squares (codes "cut 1 0 2 0 0 10 10\n" ∷ codes "cut 1 0 3 10 0 5 0 10 10\n" ∷ codes "cut 1 0 3 10 0 15 5 10 10\n" ∷ [])
    ≡ all_at 3 1 9
unfolding cut_named cut_face spokes_at turns_before points_at number_of digits
no_sector = refl

-- a point twice, the first one as the last, and an inner one that is a point of the map; this comes before an end that is no node
point_taken : each squares (
    codes "cut 1 0 4 10 0 5 5 5 5 10 10\n" ∷ codes "cut 1 0 3 10 0 5 5 10 0\n" ∷ codes "cut 1 0 3 10 0 0 0 10 10\n"
    ∷ codes "cut 1 0 2 5 5 5 5\n" ∷ [])
    ≡ all_at 4 1 10
unfolding cut_named cut_face points_at number_of digits
point_taken = refl

-- as many faces as there may be; this comes before a point that stands twice
no_room_for_cut : each (map_of (replicate MAX_FACES 0) squares.arcs) (codes "cut 1 0 2 10 0 10 10\n" ∷ codes "cut 1 0 2 10 0 10 0\n" ∷ [])
    ≡ all_at 2 1 11
unfolding cut_named cut_face points_at number_of digits
no_room_for_cut = refl

-- a map in which there is no room for an arc and a point more
no_room_for_node : (m : BaseMap) (v : Point) (place : ℕ × ℕ) → place_of v m.arcs ≡ Some place → is_node v m.arcs ≡ false → has_room m 0 1 1 ≡ false
    → apply m (Node v) ≡ Err 11
unfolding add_node
no_room_for_node m v place found inner full = rw (found, inner, full) refl

-- the ends stand on two rings
no_walk : edited nested (codes "cut 1 0 2 0 0 10 10\n") ≡ Err (1, 12)
unfolding cut_named cut_face spokes_at turns_before points_at number_of digits
no_walk = refl

nothing_between : each squares (codes "fuse 1 1\n" ∷ codes "fuse 2 2\n" ∷ []) ≡ all_at 2 1 13
unfolding fuse_named fuse_faces number_of digits
nothing_between = refl

nothing_left : each triangle (codes "fuse 1 2\n" ∷ codes "fuse 2 1\n" ∷ []) ≡ all_at 2 1 14
unfolding fuse_named fuse_faces number_of digits
nothing_left = refl

first_fault : edited squares (codes "class 1 1\ndrop 10 0\nx\n") ≡ Err (2, 6)
unfolding set_class drop_point number_of digits
first_fault = refl

-- ---- batches that are joined

ends : map ends_line ([] ∷ codes "\n" ∷ codes "class 1 1\nclass 2 1\n" ∷ codes "class 1 1" ∷ codes "class 1 1\nclass 2 " ∷ []) ≡ true ∷ true ∷ true ∷ false ∷ false ∷ []
ends = refl

-- two halves of a line, each of which is refused by itself
halves : each squares (codes "class 1 " ∷ codes "1\n" ∷ []) ≡ all_at 2 1 1
unfolding number_of digits
halves = refl

halves_joined : edited squares (codes "class 1 " ++ codes "1\n") ≡ Ok (map_of (1 ∷ 0 ∷ []) squares.arcs)
unfolding set_class number_of digits
halves_joined = refl

-- of three entries the second does not count, since the third makes its version anew
three_joined : joined_entry (record { number = 1; batch = codes "class 1 1\n" } ∷ record { number = 2; batch = codes "class 1 0\n" } ∷ record { number = 2; batch = codes "class 2 1\n" } ∷ [])
    ≡ record { number = 1; batch = codes "class 1 1\nclass 2 1\n" }
three_joined = refl
