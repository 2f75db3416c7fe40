-- The laws of slices on a worked map: four squares round one node, after two steps an upper half and a lower one.
use Rattle.std.proofs.Common.{◌≡◌, true, false, pos, refl, None}
use Rattle.std.specs.List.{list_any}
use Rattle.tgap_model.specs.declared.geometry.Fraction.{Fraction}
use Rattle.tgap_model.specs.Base.{is_transform, is_rules, is_arc, is_base}
use Rattle.tgap_model.specs.Segment.{any_common, common_point, turns_before, is_higher, is_above}
use Rattle.tgap_model.specs.Partition.{base_segments, edge_segments, arc_fault, map_fault, IsPartition}
use Rattle.map_laws.specs.Inside.{is_inside}
use Rattle.tgap_model.specs.History.{is_between, next_step, history_of}
use Rattle.tgap_model.specs.Merged.{merged, label_at, labelled_at}
use Rattle.tgap_model.specs.Chains.{chains_at}
use Rattle.tgap_model.specs.Removals.{removals_to, sweep}
use Rattle.tgap_model.specs.Records.{is_edge_between}
use Rattle.tgap_model.specs.Slice.{IsSlice, slice}
use Rattle.map_laws.proofs.Examples.{four_squares}
use Rattle.slice_laws.proofs.EvenSides.{slices_are_slices}
use Rattle.slice_laws.proofs.SlicesPlanar.{slices_are_partitions}
use Rattle.slice_laws.proofs.Sound.{partition_from_no_fault}

-- the map is a planar partition, and so is each of its slices
four_squares_base : is_base four_squares ≡ true
unfolding is_base is_transform is_rules is_arc
four_squares_base = refl

four_squares_sound : map_fault four_squares ≡ None
unfolding map_fault arc_fault common_point any_common turns_before is_higher
four_squares_sound = refl

four_squares_planar : IsPartition (base_segments four_squares)
four_squares_planar = partition_from_no_fault four_squares four_squares_base four_squares_sound

halves_are_a_slice : IsSlice (merged four_squares) 2 (removals_to (merged four_squares) 2) (slice four_squares 2)
halves_are_a_slice = slices_are_slices four_squares four_squares_base four_squares_planar 2

halves_are_planar : IsPartition (edge_segments (slice four_squares 2).edges)
halves_are_planar = slices_are_partitions four_squares four_squares_base four_squares_planar refl 2

-- the two halves are adjacent, as squares of theirs are
halves_adjacent : list_any (is_edge_between 5 6) (slice four_squares 2).edges ≡ true
unfolding slice removals_to sweep chains_at history_of next_step
halves_adjacent = refl

squares_adjacent : list_any (λ a. is_between 5 6 (labelled_at (merged four_squares) 2 a)) four_squares.arcs ≡ true
unfolding history_of next_step
squares_adjacent = refl

-- a point of square 1 is inside the lower half, and not inside the upper one
abbrev corner : Fraction
corner = record { nx = pos 5; ny = pos 5; d = pos 2 }

inside_half : is_inside (edge_segments (slice four_squares 2).edges) 5 corner ≡ true
unfolding is_inside is_above slice removals_to sweep chains_at history_of next_step
inside_half = refl

outside_half : is_inside (edge_segments (slice four_squares 2).edges) 6 corner ≡ false
unfolding is_inside is_above slice removals_to sweep chains_at history_of next_step
outside_half = refl

inside_square : is_inside (base_segments four_squares) 1 corner ≡ true
unfolding is_inside is_above
inside_square = refl

label_of_square : label_at (merged four_squares) 2 1 ≡ 5
unfolding history_of next_step
label_of_square = refl
