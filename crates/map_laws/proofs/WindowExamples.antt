-- Refinement records of windows of worked maps, computed from the definitions: what they hold, when they fit, and what undoing them
-- gives.
use Rattle.std.proofs.Common.{◌≡◌, ℕ, false, pos, [], ◌∷◌, refl, Some, None}
use Rattle.tgap_model.specs.declared.geometry.Window.{Window}
use Rattle.tgap_model.specs.declared.slice.Slice.{Slice}
use Rattle.tgap_model.specs.declared.slice.FaceRow.{FaceRow}
use Rattle.tgap_model.specs.declared.record.Put.{Put}
use Rattle.tgap_model.specs.declared.record.Piece.{Piece}
use Rattle.tgap_model.specs.declared.window_record.WindowStep.{WindowStep}
use Rattle.tgap_model.specs.Merged.{merged}
use Rattle.tgap_model.specs.Chains.{chains_at}
use Rattle.tgap_model.specs.Clear.{is_clear}
use Rattle.tgap_model.specs.Removals.{is_removable, sweep, removals_to}
use Rattle.tgap_model.specs.Slice.{slice, window_of}
use Rattle.tgap_model.specs.WindowRecords.{window_at, window_step, window_packet_of, undo_in, replayed_in, broken_rule_in}
use Rattle.tgap_model.specs.History.{next_step, history_of}
use Rattle.map_laws.proofs.Examples.{two_squares}
use Rattle.map_laws.proofs.SliceExamples.{four_squares_merged, two_triangles, edge}

abbrev area : ℕ → ℕ → ℕ → ℕ → Window
area x0 y0 x1 y1 = record { x0 = pos x0; y0 = pos y0; x1 = pos x1; y1 = pos y1 }

abbrev face : ℕ → FaceRow
face f = record { face = f; class = 0 }

abbrev put : ℕ → ℕ → ℕ → Put
put at x y = record { at = at; point = record { x = pos x; y = pos y } }

abbrev piece : ℕ → ℕ → ℕ → Piece
piece key last side = record { key = key; last = last; side = side; turned = false }

-- ---- two squares, and a window in the right one

abbrev pub right_part : Window
right_part = area 12 2 30 4

abbrev right_before : Slice
right_before = record { step = 0; faces = face 2 ∷ []; edges = edge 1 2 0 (10 ∷ 0 ∷ 20 ∷ 0 ∷ 20 ∷ 10 ∷ 10 ∷ 10 ∷ []) ∷ [] }

abbrev right_after : Slice
right_after = record { step = 1; faces = face 3 ∷ []; edges = edge 0 3 0 (10 ∷ 10 ∷ 0 ∷ 10 ∷ 0 ∷ 0 ∷ 20 ∷ 0 ∷ 20 ∷ 10 ∷ 10 ∷ 10 ∷ []) ∷ [] }

abbrev right_record : WindowStep
right_record = record {
  step = 1;
  loser = 1;
  winner = 2;
  made = 3;
  faces = face 2 ∷ [];
  mends = record { key = 0; puts = put 3 10 0 ∷ []; pieces = piece 0 3 1 ∷ piece 1 6 2 ∷ [] } ∷ [];
  comes = [];
}

right_window_before : window_at (merged two_squares) right_part 0 ≡ right_before
unfolding window_of removals_to sweep is_removable is_clear chains_at history_of next_step
right_window_before = refl

right_window_after : window_at (merged two_squares) right_part 1 ≡ right_after
unfolding window_of removals_to sweep is_removable is_clear chains_at history_of next_step
right_window_after = refl

right_step : window_step (merged two_squares) right_part 1 ≡ right_record
unfolding window_of removals_to sweep is_removable is_clear chains_at history_of next_step
right_step = refl

right_fits : broken_rule_in right_part right_after right_record ≡ None
unfolding broken_rule_in undo_in
right_fits = refl

-- one of the two pieces does not meet the window, so its face has no row
right_undone : undo_in right_part right_after right_record ≡ right_before
unfolding undo_in
right_undone = refl

-- the window before the step is no place for the record
other_step : broken_rule_in right_part right_before right_record ≡ Some 1
unfolding broken_rule_in undo_in
other_step = refl

other_slice : broken_rule_in right_part (slice two_squares 0) right_record ≡ Some 1
unfolding broken_rule_in undo_in slice removals_to sweep is_removable is_clear chains_at history_of next_step
other_slice = refl

-- the winner is one of the faces of the slice already
winner_there : broken_rule_in right_part (record right_after { faces = face 2 ∷ face 3 ∷ [] }) right_record ≡ Some 2
unfolding broken_rule_in undo_in
winner_there = refl

no_such_edge : broken_rule_in right_part right_after (record right_record { mends = record { key = 1; puts = []; pieces = piece 0 3 1 ∷ [] } ∷ [] }) ≡ Some 3
unfolding broken_rule_in undo_in
no_such_edge = refl

put_onto_a_point : broken_rule_in right_part right_after (record right_record { mends = record { key = 0; puts = put 3 0 0 ∷ []; pieces = piece 0 3 1 ∷ piece 1 6 2 ∷ [] } ∷ [] }) ≡ Some 4
unfolding broken_rule_in undo_in
put_onto_a_point = refl

without_its_put : broken_rule_in right_part right_after (record right_record { mends = record { key = 0; puts = []; pieces = piece 0 3 1 ∷ piece 1 6 2 ∷ [] } ∷ [] }) ≡ Some 5
unfolding broken_rule_in undo_in
without_its_put = refl

-- a row of the outside
row_of_outside : broken_rule_in right_part right_after (record right_record { faces = face 0 ∷ face 2 ∷ [] }) ≡ Some 6
unfolding broken_rule_in undo_in
row_of_outside = refl

-- the edge that comes has the key of a piece
key_twice : broken_rule_in right_part right_after (record right_record { comes = edge 1 2 0 (10 ∷ 0 ∷ 20 ∷ 0 ∷ []) ∷ [] }) ≡ Some 7
unfolding broken_rule_in undo_in
key_twice = refl

-- the winner stands beside an edge, and has no row
row_missing : broken_rule_in right_part right_after (record right_record { faces = [] }) ≡ Some 8
unfolding broken_rule_in undo_in
row_missing = refl

-- ---- two triangles that make one ring: a vertex that comes back makes the window grow, which was empty

abbrev pub upper_part : Window
upper_part = area 0 8 2 12

abbrev upper_record : WindowStep
upper_record = record {
  step = 1;
  loser = 1;
  winner = 2;
  made = 3;
  faces = face 2 ∷ [];
  mends = [];
  comes = edge 1 2 0 (6 ∷ 6 ∷ 0 ∷ 12 ∷ 0 ∷ 0 ∷ []) ∷ [];
}

abbrev upper_before : Slice
upper_before = record { step = 0; faces = face 2 ∷ []; edges = edge 1 2 0 (6 ∷ 6 ∷ 0 ∷ 12 ∷ 0 ∷ 0 ∷ []) ∷ [] }

abbrev upper_after : Slice
upper_after = record { step = 1; faces = []; edges = [] }

upper_window_before : window_at (merged two_triangles) upper_part 0 ≡ upper_before
unfolding window_of removals_to sweep is_removable is_clear chains_at history_of next_step
upper_window_before = refl

upper_window_after : window_at (merged two_triangles) upper_part 1 ≡ upper_after
unfolding window_of removals_to sweep is_removable is_clear chains_at history_of next_step
upper_window_after = refl

upper_step : window_step (merged two_triangles) upper_part 1 ≡ upper_record
unfolding window_of removals_to sweep is_removable is_clear chains_at history_of next_step
upper_step = refl

upper_fits : broken_rule_in upper_part upper_after upper_record ≡ None
unfolding broken_rule_in undo_in
upper_fits = refl

upper_undone : undo_in upper_part upper_after upper_record ≡ upper_before
unfolding undo_in
upper_undone = refl

-- with the ended edges alone, of which none is in the window, nothing comes
upper_of_ended_alone : undo_in upper_part upper_after (record upper_record { comes = [] }) ≡ record { step = 0; faces = []; edges = [] }
unfolding undo_in
upper_of_ended_alone = refl

-- ---- four squares round one node, and a window over the two at the left, over three steps

abbrev left_part : Window
left_part = area 1 1 9 12

left_window : window_at four_squares_merged left_part 0 ≡ record {
  step = 0;
  faces = face 1 ∷ face 3 ∷ [];
  edges =
      edge 0 1 0 (0 ∷ 10 ∷ 0 ∷ 0 ∷ 10 ∷ 0 ∷ []) ∷ edge 3 3 0 (10 ∷ 20 ∷ 0 ∷ 20 ∷ 0 ∷ 10 ∷ [])
      ∷ edge 7 3 1 (0 ∷ 10 ∷ 10 ∷ 10 ∷ []) ∷ [];
}
unfolding window_of removals_to sweep is_removable is_clear chains_at
left_window = refl

left_replayed : replayed_in (window_at four_squares_merged left_part 3) (window_packet_of four_squares_merged left_part 3 0)
    ≡ window_at four_squares_merged left_part 0
unfolding undo_in window_packet_of window_of removals_to sweep is_removable is_clear chains_at
left_replayed = refl
