-- Planar partitions: the first fault of worked maps, and when a point is inside a face, computed from the definitions.
use Rattle.std.proofs.Common.{◌≡◌, ℕ, true, false, pos, [], ◌∷◌, refl, Some, None}
use Rattle.tgap_model.specs.declared.geometry.Point.{Point}
use Rattle.tgap_model.specs.declared.geometry.Fraction.{Fraction}
use Rattle.tgap_model.specs.declared.geometry.Seg.{Seg}
use Rattle.tgap_model.specs.declared.geometry.Shared.{Shared}
use Rattle.tgap_model.specs.declared.fault.MapFault.TheVariants.{Meets, NodeDisagrees, StackDisagrees}
use Rattle.tgap_model.specs.Base.{BaseMap}
use Rattle.tgap_model.specs.Segment.{any_common, common_point, turns_before, is_higher, is_above, line_after}
use Rattle.tgap_model.specs.Partition.{base_segments, arc_fault, map_fault}
use Rattle.map_laws.specs.Inside.{is_inside}
use Rattle.map_laws.proofs.Examples.{two_squares, four_squares, hole_with_face, arc, plain_map}

abbrev point : ℕ → ℕ → Point
point x y = record { x = pos x; y = pos y }

abbrev seg : ℕ → ℕ → ℕ → ℕ → Seg
seg ax ay bx by = record { a = point ax ay; b = point bx by }

abbrev fraction : ℕ → ℕ → ℕ → Fraction
fraction nx ny d = record { nx = pos nx; ny = pos ny; d = pos d }

abbrev no_shared : Shared
no_shared = record { aa = false; ab = false; ba = false; bb = false }

-- ---- two segments

crossing_segments : common_point (seg 0 0 5 5) (seg 0 5 5 0) no_shared ≡ Some (fraction 125 125 50)
unfolding common_point any_common
crossing_segments = refl

crossing_backwards : common_point (seg 5 5 0 0) (seg 0 5 5 0) no_shared ≡ Some (fraction 125 125 50)
unfolding common_point any_common
crossing_backwards = refl

touching_segments : common_point (seg 0 0 10 0) (seg 5 0 5 5) no_shared ≡ Some (fraction 250 0 50)
unfolding common_point any_common
touching_segments = refl

apart_segments : common_point (seg 0 0 10 0) (seg 5 1 5 5) no_shared ≡ None
unfolding common_point any_common
apart_segments = refl

parallel_segments : common_point (seg 0 0 10 0) (seg 0 1 10 1) no_shared ≡ None
unfolding common_point any_common
parallel_segments = refl

-- from (4,0) to (10,0), with the middle (7,0)
overlapping_segments : common_point (seg 0 0 10 0) (seg 14 0 4 0) no_shared ≡ Some (fraction 14 0 2)
unfolding common_point any_common
overlapping_segments = refl

apart_on_one_line : common_point (seg 0 0 10 0) (seg 11 0 14 0) no_shared ≡ None
unfolding common_point any_common
apart_on_one_line = refl

one_end_in_common : common_point (seg 0 0 10 0) (seg 10 0 14 0) no_shared ≡ Some (fraction 20 0 2)
unfolding common_point any_common
one_end_in_common = refl

permitted_end : common_point (seg 0 0 10 0) (seg 10 0 14 0) (record no_shared { ba = true }) ≡ None
unfolding common_point any_common
permitted_end = refl

permitted_end_of_an_overlap : common_point (seg 0 0 10 0) (seg 10 0 4 0) (record no_shared { ba = true }) ≡ Some (fraction 14 0 2)
unfolding common_point any_common
permitted_end_of_an_overlap = refl

-- ---- directions round the point (5,5): to the right, up, to the left, down

right_before_up : turns_before (point 5 5) (point 6 5) (point 5 6) ≡ true
unfolding turns_before
right_before_up = refl

up_before_left : turns_before (point 5 5) (point 5 6) (point 4 5) ≡ true
unfolding turns_before
up_before_left = refl

left_before_down : turns_before (point 5 5) (point 4 5) (point 5 4) ≡ true
unfolding turns_before
left_before_down = refl

right_before_down : turns_before (point 5 5) (point 6 5) (point 5 4) ≡ true
unfolding turns_before
right_before_down = refl

down_after_left : turns_before (point 5 5) (point 5 4) (point 4 5) ≡ false
unfolding turns_before
down_after_left = refl

-- ---- heights on the line x = 1/2

-- from (0,0) to (1,4) the height is 2; from (0,1) to (4,2) it is 9/8
higher_at_the_line : is_higher (line_after (pos 0)) (seg 0 0 1 4) (seg 4 2 0 1) ≡ true
unfolding is_higher
higher_at_the_line = refl

lower_at_the_column : is_higher (line_after (pos 0)) (seg 4 2 0 1) (seg 0 0 1 4) ≡ false
unfolding is_higher
lower_at_the_column = refl

-- ---- maps without a fault

abbrev pub empty_map : BaseMap
empty_map = plain_map 16 [] []

empty_map_sound : map_fault empty_map ≡ None
unfolding map_fault arc_fault common_point any_common turns_before is_higher
empty_map_sound = refl

two_squares_sound : map_fault two_squares ≡ None
unfolding map_fault arc_fault common_point any_common turns_before is_higher
two_squares_sound = refl

four_squares_sound : map_fault four_squares ≡ None
unfolding map_fault arc_fault common_point any_common turns_before is_higher
four_squares_sound = refl

hole_sound : map_fault hole_with_face ≡ None
unfolding map_fault arc_fault common_point any_common turns_before is_higher
hole_sound = refl

abbrev pub face_round_a_gap : BaseMap
face_round_a_gap = plain_map 0 (0 ∷ []) (arc 1 0 (0 ∷ 0 ∷ 30 ∷ 0 ∷ 30 ∷ 30 ∷ 0 ∷ 30 ∷ 0 ∷ 0 ∷ []) ∷ arc 0 1 (10 ∷ 10 ∷ 20 ∷ 10 ∷ 20 ∷ 20 ∷ 10 ∷ 20 ∷ 10 ∷ 10 ∷ []) ∷ [])

gap_sound : map_fault face_round_a_gap ≡ None
unfolding map_fault arc_fault common_point any_common turns_before is_higher
gap_sound = refl

-- ---- maps with a fault

abbrev pub crossing : BaseMap
crossing = plain_map 16 (0 ∷ 0 ∷ []) (arc 1 0 (0 ∷ 0 ∷ 5 ∷ 5 ∷ []) ∷ arc 2 0 (0 ∷ 5 ∷ 5 ∷ 0 ∷ []) ∷ [])

crossing_fault : map_fault crossing ≡ Some (Meets 0 1 (fraction 125 125 50))
unfolding map_fault arc_fault common_point any_common turns_before is_higher
crossing_fault = refl

abbrev pub touching : BaseMap
touching = plain_map 16 (0 ∷ 0 ∷ []) (arc 1 0 (0 ∷ 0 ∷ 10 ∷ 0 ∷ []) ∷ arc 2 0 (5 ∷ 0 ∷ 5 ∷ 5 ∷ []) ∷ [])

touching_fault : map_fault touching ≡ Some (Meets 0 1 (fraction 250 0 50))
unfolding map_fault arc_fault common_point any_common turns_before is_higher
touching_fault = refl

abbrev pub exchanged_sides : BaseMap
exchanged_sides = plain_map 16 (0 ∷ 0 ∷ []) (arc 1 0 (10 ∷ 10 ∷ 0 ∷ 10 ∷ 0 ∷ 0 ∷ 10 ∷ 0 ∷ []) ∷ arc 2 0 (10 ∷ 0 ∷ 20 ∷ 0 ∷ 20 ∷ 10 ∷ 10 ∷ 10 ∷ []) ∷ arc 2 1 (10 ∷ 0 ∷ 10 ∷ 10 ∷ []) ∷ [])

exchanged_sides_fault : map_fault exchanged_sides ≡ Some (NodeDisagrees (point 10 0) 0 1 2 1)
unfolding map_fault arc_fault common_point any_common turns_before is_higher
exchanged_sides_fault = refl

abbrev pub nested : BaseMap
nested = plain_map 0 (0 ∷ 0 ∷ []) (arc 1 0 (0 ∷ 0 ∷ 30 ∷ 0 ∷ 30 ∷ 30 ∷ 0 ∷ 30 ∷ 0 ∷ 0 ∷ []) ∷ arc 2 0 (10 ∷ 10 ∷ 20 ∷ 10 ∷ 20 ∷ 20 ∷ 10 ∷ 20 ∷ 10 ∷ 10 ∷ []) ∷ [])

nested_fault : map_fault nested ≡ Some (StackDisagrees (pos 10) 1 1 0)
unfolding map_fault arc_fault common_point any_common turns_before is_higher
nested_fault = refl

abbrev pub passing_through_a_node : BaseMap
passing_through_a_node = plain_map 16 (0 ∷ 0 ∷ []) (arc 1 0 (0 ∷ 0 ∷ 5 ∷ 5 ∷ 10 ∷ 10 ∷ []) ∷ arc 2 0 (5 ∷ 5 ∷ 5 ∷ 9 ∷ []) ∷ [])

-- an inner vertex of the first arc is an end of the second
passing_fault : map_fault passing_through_a_node ≡ Some (Meets 0 2 (fraction 100 100 20))
unfolding map_fault arc_fault common_point any_common turns_before is_higher
passing_fault = refl

abbrev pub there_and_back : BaseMap
there_and_back = plain_map 16 (0 ∷ []) (arc 1 0 (0 ∷ 0 ∷ 5 ∷ 5 ∷ 0 ∷ 0 ∷ []) ∷ [])

there_and_back_fault : map_fault there_and_back ≡ Some (Meets 0 1 (fraction 5 5 2))
unfolding map_fault arc_fault common_point any_common turns_before is_higher
there_and_back_fault = refl

-- ---- points inside

inside_left : is_inside (base_segments two_squares) 1 (fraction 5 10 2) ≡ true
unfolding is_inside is_above
inside_left = refl

not_inside_right : is_inside (base_segments two_squares) 2 (fraction 5 10 2) ≡ false
unfolding is_inside is_above
not_inside_right = refl

inside_right : is_inside (base_segments two_squares) 2 (fraction 25 10 2) ≡ true
unfolding is_inside is_above
inside_right = refl

inside_none : is_inside (base_segments two_squares) 1 (fraction 5 30 2) ≡ false
unfolding is_inside is_above
inside_none = refl

inside_the_hole : is_inside (base_segments hole_with_face) 2 (fraction 31 30 2) ≡ true
unfolding is_inside is_above
inside_the_hole = refl

not_inside_round_the_hole : is_inside (base_segments hole_with_face) 1 (fraction 31 30 2) ≡ false
unfolding is_inside is_above
not_inside_round_the_hole = refl

-- without the fourth property a point may be inside two faces
inside_two_nested : is_inside (base_segments nested) 1 (fraction 31 30 2) ≡ true
unfolding is_inside is_above
inside_two_nested = refl

inside_the_other : is_inside (base_segments nested) 2 (fraction 31 30 2) ≡ true
unfolding is_inside is_above
inside_the_other = refl
