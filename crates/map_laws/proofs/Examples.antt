-- Worked maps, computed from the definitions: two squares, four squares round one node, a square with a hole and a face in it,
-- and maps with barriers.
use Rattle.std.proofs.Common.{◌≡◌, ℕ, true, pos, List, [], ◌∷◌, refl}
use Rattle.tgap_model.specs.declared.geometry.Point.{Point}
use Rattle.tgap_model.specs.declared.base.BaseArc.{BaseArc}
use Rattle.tgap_model.specs.declared.merge.MergeStep.{MergeStep}
use Rattle.tgap_model.specs.Base.{BaseMap, is_transform, is_rules, is_arc, is_base}
use Rattle.tgap_model.specs.History.{classes_after, next_step, history_of}

-- an arc from the numbers of its line
abbrev pub points_of : List ℕ → List Point
points_of [] = []
points_of (x ∷ []) = []
points_of (x ∷ y ∷ more) = record { x = pos x; y = pos y } ∷ points_of more

abbrev pub arc : ℕ → ℕ → List ℕ → BaseArc
arc left right coordinates = record { left = left; right = right; points = points_of coordinates }

-- a map of one class with weight and compatibility 1
abbrev pub plain_map : ℕ → List ℕ → List BaseArc → BaseMap
plain_map ratio classes arcs = record {
  transform = record { sx = pos 1; sy = pos 1; tx = pos 0; ty = pos 0 };
  rules = record { ratio = ratio; weights = 1 ∷ []; compat = 1 ∷ [] };
  classes = classes;
  arcs = arcs;
}

abbrev pub step : ℕ → ℕ → ℕ → MergeStep
step loser winner made = record { loser = loser; winner = winner; made = made }

-- ---- two squares

abbrev pub two_squares : BaseMap
two_squares = plain_map 16 (0 ∷ 0 ∷ []) (
    arc 1 0 (10 ∷ 10 ∷ 0 ∷ 10 ∷ 0 ∷ 0 ∷ 10 ∷ 0 ∷ []) ∷ arc 2 0 (10 ∷ 0 ∷ 20 ∷ 0 ∷ 20 ∷ 10 ∷ 10 ∷ 10 ∷ [])
    ∷ arc 1 2 (10 ∷ 0 ∷ 10 ∷ 10 ∷ []) ∷ [])

two_squares_base : is_base two_squares ≡ true
unfolding is_base is_transform is_rules is_arc
two_squares_base = refl

two_squares_history : history_of two_squares ≡ step 1 2 3 ∷ []
unfolding history_of next_step
two_squares_history = refl

-- ---- four squares round one node

abbrev pub four_squares : BaseMap
four_squares = plain_map 0 (0 ∷ 0 ∷ 0 ∷ 0 ∷ []) (
    arc 1 0 (0 ∷ 10 ∷ 0 ∷ 0 ∷ 10 ∷ 0 ∷ []) ∷ arc 2 0 (10 ∷ 0 ∷ 20 ∷ 0 ∷ 20 ∷ 10 ∷ [])
    ∷ arc 4 0 (20 ∷ 10 ∷ 20 ∷ 20 ∷ 10 ∷ 20 ∷ []) ∷ arc 3 0 (10 ∷ 20 ∷ 0 ∷ 20 ∷ 0 ∷ 10 ∷ [])
    ∷ arc 1 2 (10 ∷ 0 ∷ 10 ∷ 10 ∷ []) ∷ arc 2 4 (20 ∷ 10 ∷ 10 ∷ 10 ∷ [])
    ∷ arc 4 3 (10 ∷ 20 ∷ 10 ∷ 10 ∷ []) ∷ arc 3 1 (0 ∷ 10 ∷ 10 ∷ 10 ∷ []) ∷ [])

four_squares_history : history_of four_squares ≡ step 1 2 5 ∷ step 3 4 6 ∷ step 5 6 7 ∷ []
unfolding history_of next_step
four_squares_history = refl

-- ---- a square with a hole, and a face in it

abbrev pub hole_with_face : BaseMap
hole_with_face = plain_map 0 (0 ∷ 0 ∷ []) (
    arc 1 0 (0 ∷ 0 ∷ 30 ∷ 0 ∷ 30 ∷ 30 ∷ 0 ∷ 30 ∷ 0 ∷ 0 ∷ []) ∷ arc 2 1 (10 ∷ 10 ∷ 20 ∷ 10 ∷ 20 ∷ 20 ∷ 10 ∷ 20 ∷ 10 ∷ 10 ∷ []) ∷ [])

hole_with_face_history : history_of hole_with_face ≡ step 2 1 3 ∷ []
unfolding history_of next_step
hole_with_face_history = refl

-- ---- three squares in a row: the first has a heavier class, and the others suit each other better

abbrev pub three_squares : BaseMap
three_squares = record {
  transform = record { sx = pos 1; sy = pos 1; tx = pos 0; ty = pos 0 };
  rules = record { ratio = 0; weights = 3 ∷ 1 ∷ []; compat = 1 ∷ 1 ∷ 1 ∷ 5 ∷ [] };
  classes = 0 ∷ 1 ∷ 1 ∷ [];
  arcs =
      arc 1 0 (10 ∷ 10 ∷ 0 ∷ 10 ∷ 0 ∷ 0 ∷ 10 ∷ 0 ∷ []) ∷ arc 2 0 (10 ∷ 0 ∷ 20 ∷ 0 ∷ [])
      ∷ arc 3 0 (20 ∷ 0 ∷ 30 ∷ 0 ∷ 30 ∷ 10 ∷ 20 ∷ 10 ∷ []) ∷ arc 2 0 (20 ∷ 10 ∷ 10 ∷ 10 ∷ [])
      ∷ arc 1 2 (10 ∷ 0 ∷ 10 ∷ 10 ∷ []) ∷ arc 2 3 (20 ∷ 0 ∷ 20 ∷ 10 ∷ []) ∷ [];
}

three_squares_history : history_of three_squares ≡ step 2 3 4 ∷ step 4 1 5 ∷ []
unfolding history_of next_step
three_squares_history = refl

-- ---- barriers: a compatibility of 0 forbids a merge

-- two squares of classes that do not suit each other, nor any its own: there is no step
abbrev pub barred_squares : BaseMap
barred_squares = record {
  transform = two_squares.transform;
  rules = record { ratio = 16; weights = 1 ∷ []; compat = 0 ∷ [] };
  classes = 0 ∷ 0 ∷ [];
  arcs = two_squares.arcs;
}

barred_squares_history : history_of barred_squares ≡ []
unfolding history_of next_step
barred_squares_history = refl

-- a square may go to the other, but not the other to it: the one that may loses, though its number is the greater
abbrev pub one_way_squares : BaseMap
one_way_squares = record {
  transform = two_squares.transform;
  rules = record { ratio = 16; weights = 1 ∷ 1 ∷ []; compat = 0 ∷ 1 ∷ 0 ∷ 0 ∷ [] };
  classes = 1 ∷ 0 ∷ [];
  arcs = two_squares.arcs;
}

one_way_squares_history : history_of one_way_squares ≡ step 2 1 3 ∷ []
unfolding history_of next_step
one_way_squares_history = refl

-- the new face has the class of the winner
one_way_squares_classes : classes_after (step 2 1 3) one_way_squares.classes ≡ 1 ∷ 0 ∷ 1 ∷ []
one_way_squares_classes = refl

-- three squares in a row, the first of class 0, the second of class 1, the third of class 2, by the compatibilities of a table
abbrev row_of_classes : List ℕ → BaseMap
row_of_classes compat = record {
  transform = three_squares.transform;
  rules = record { ratio = 0; weights = 1 ∷ 1 ∷ 1 ∷ []; compat = compat };
  classes = 0 ∷ 1 ∷ 2 ∷ [];
  arcs = three_squares.arcs;
}

-- no two of them suit each other, though each would take its own kind: the history ends at once
no_step : history_of (row_of_classes (5 ∷ 0 ∷ 0 ∷ 0 ∷ 5 ∷ 0 ∷ 0 ∷ 0 ∷ 5 ∷ [])) ≡ []
unfolding history_of next_step
no_step = refl

-- the third does not go to the second, but it goes to what the second becomes in the first
comes_to_permit : history_of (row_of_classes (0 ∷ 0 ∷ 0 ∷ 1 ∷ 0 ∷ 0 ∷ 1 ∷ 0 ∷ 0 ∷ [])) ≡ step 2 1 4 ∷ step 3 4 5 ∷ []
unfolding history_of next_step
comes_to_permit = refl

-- the third would go to the second, but not to what the second becomes
permits_no_more : history_of (row_of_classes (0 ∷ 0 ∷ 0 ∷ 1 ∷ 0 ∷ 0 ∷ 0 ∷ 1 ∷ 0 ∷ [])) ≡ step 2 1 4 ∷ []
unfolding history_of next_step
permits_no_more = refl

-- four squares round one node, two of each class, and no class suits the other: two faces stay, side by side
abbrev pub two_roots : BaseMap
two_roots = record {
  transform = four_squares.transform;
  rules = record { ratio = 0; weights = 1 ∷ 1 ∷ []; compat = 1 ∷ 0 ∷ 0 ∷ 1 ∷ [] };
  classes = 0 ∷ 1 ∷ 0 ∷ 1 ∷ [];
  arcs = four_squares.arcs;
}

two_roots_history : history_of two_roots ≡ step 1 3 5 ∷ step 2 4 6 ∷ []
unfolding history_of next_step
two_roots_history = refl
