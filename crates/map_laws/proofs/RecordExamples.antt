-- Refinement records of worked maps, computed from the definitions: what they hold, when they fit, and what
-- undoing them gives.
use Rattle.std.proofs.Common.{◌≡◌, ℕ, true, false, pos, [], ◌∷◌, refl, Some, None}
use Rattle.tgap_model.specs.declared.geometry.Point.{Point}
use Rattle.tgap_model.specs.declared.record.Put.{Put}
use Rattle.tgap_model.specs.declared.record.Piece.{Piece}
use Rattle.tgap_model.specs.declared.record.StepRecord.{StepRecord}
use Rattle.tgap_model.specs.Base.{BaseMap}
use Rattle.tgap_model.specs.Merged.{merged}
use Rattle.tgap_model.specs.Chains.{chains_at}
use Rattle.tgap_model.specs.Clear.{is_clear}
use Rattle.tgap_model.specs.Removals.{is_removable, sweep, removals_to}
use Rattle.tgap_model.specs.Slice.{slice, slice_at}
use Rattle.tgap_model.specs.Records.{step_record, packet_of, undo, replayed, broken_rule}
use Rattle.tgap_model.specs.History.{next_step, history_of}
use Rattle.map_laws.proofs.Examples.{two_squares, hole_with_face, arc, plain_map}
use Rattle.map_laws.proofs.SliceExamples.{four_squares_merged, two_triangles, edge}

abbrev point : ℕ → ℕ → Point
point x y = record { x = pos x; y = pos y }

abbrev put : ℕ → ℕ → ℕ → Put
put at x y = record { at = at; point = point x y }

abbrev piece : ℕ → ℕ → ℕ → Piece
piece key last side = record { key = key; last = last; side = side; turned = false }

-- ---- two squares

abbrev two_squares_record : StepRecord
two_squares_record = record {
  step = 1;
  loser = 1;
  loser_class = 0;
  winner = 2;
  winner_class = 0;
  made = 3;
  mends = record { key = 0; puts = put 3 10 0 ∷ []; pieces = piece 0 3 1 ∷ piece 1 6 2 ∷ [] } ∷ [];
  ended = edge 2 1 2 (10 ∷ 0 ∷ 10 ∷ 10 ∷ []) ∷ [];
}

two_squares_step : step_record (merged two_squares) 1 ≡ two_squares_record
unfolding removals_to sweep is_removable is_clear chains_at history_of next_step
two_squares_step = refl

two_squares_fit : broken_rule (slice two_squares 1) two_squares_record ≡ None
unfolding broken_rule undo slice removals_to sweep is_removable is_clear chains_at history_of next_step
two_squares_fit = refl

two_squares_undone : undo (slice two_squares 1) two_squares_record ≡ slice two_squares 0
unfolding undo slice removals_to sweep is_removable is_clear chains_at history_of next_step
two_squares_undone = refl

abbrev without_put : StepRecord
without_put = record two_squares_record { mends = record { key = 0; puts = []; pieces = piece 0 3 1 ∷ piece 1 6 2 ∷ [] } ∷ [] }

-- without its put the last piece ends beyond the edge
without_put_unfit : broken_rule (slice two_squares 1) without_put ≡ Some 5
unfolding broken_rule undo slice removals_to sweep is_removable is_clear chains_at history_of next_step
without_put_unfit = refl

abbrev put_onto_a_point : StepRecord
put_onto_a_point = record two_squares_record { mends = record { key = 0; puts = put 3 0 0 ∷ []; pieces = piece 0 3 1 ∷ piece 1 6 2 ∷ [] } ∷ [] }

put_onto_a_point_unfit : broken_rule (slice two_squares 1) put_onto_a_point ≡ Some 4
unfolding broken_rule undo slice removals_to sweep is_removable is_clear chains_at history_of next_step
put_onto_a_point_unfit = refl

abbrev all_to_the_winner : StepRecord
all_to_the_winner = record two_squares_record { mends = record { key = 0; puts = put 3 10 0 ∷ []; pieces = piece 0 3 2 ∷ piece 1 6 2 ∷ [] } ∷ [] }

-- where each piece is given to the winner, the first edge has the wrong face
undone_otherwise : undo (slice two_squares 1) all_to_the_winner ≡ record (slice two_squares 0) {
  edges =
      edge 0 2 0 (10 ∷ 10 ∷ 0 ∷ 10 ∷ 0 ∷ 0 ∷ 10 ∷ 0 ∷ [])
      ∷ edge 1 2 0 (10 ∷ 0 ∷ 20 ∷ 0 ∷ 20 ∷ 10 ∷ 10 ∷ 10 ∷ [])
      ∷ edge 2 1 2 (10 ∷ 0 ∷ 10 ∷ 10 ∷ []) ∷ [];
}
unfolding undo slice removals_to sweep is_removable is_clear chains_at history_of next_step
undone_otherwise = refl

abbrev pub one_square : BaseMap
one_square = plain_map 16 (0 ∷ []) (arc 1 0 (0 ∷ 0 ∷ 10 ∷ 0 ∷ 10 ∷ 10 ∷ 0 ∷ 10 ∷ 0 ∷ 0 ∷ []) ∷ [])

other_step : broken_rule (slice one_square 0) two_squares_record ≡ Some 1
unfolding broken_rule undo slice removals_to sweep is_removable is_clear chains_at history_of next_step
other_step = refl

-- the edge has six points after the put
other_map : broken_rule (slice hole_with_face 1) two_squares_record ≡ Some 5
unfolding broken_rule undo slice removals_to sweep is_removable is_clear chains_at history_of next_step
other_map = refl

-- ---- four squares round one node

abbrev first_record : StepRecord
first_record = record {
  step = 1;
  loser = 1;
  loser_class = 0;
  winner = 2;
  winner_class = 0;
  made = 5;
  mends = record { key = 0; puts = []; pieces = piece 0 2 1 ∷ piece 1 4 2 ∷ [] } ∷ record { key = 7; puts = []; pieces = piece 7 1 1 ∷ [] } ∷ [];
  ended = edge 4 1 2 (10 ∷ 0 ∷ 10 ∷ 10 ∷ []) ∷ [];
}

abbrev second_record : StepRecord
second_record = record {
  step = 2;
  loser = 3;
  loser_class = 0;
  winner = 4;
  winner_class = 0;
  made = 6;
  mends = record { key = 2; puts = []; pieces = piece 2 2 4 ∷ piece 3 4 3 ∷ [] } ∷ record { key = 5; puts = []; pieces = piece 5 1 4 ∷ record (piece 7 2 3) { turned = true } ∷ [] } ∷ [];
  ended = edge 6 4 3 (10 ∷ 20 ∷ 10 ∷ 10 ∷ []) ∷ [];
}

abbrev third_record : StepRecord
third_record = record {
  step = 3;
  loser = 5;
  loser_class = 0;
  winner = 6;
  winner_class = 0;
  made = 7;
  mends = record { key = 0; puts = []; pieces = piece 2 4 6 ∷ piece 0 8 5 ∷ [] } ∷ [];
  ended = edge 5 5 6 (20 ∷ 10 ∷ 10 ∷ 10 ∷ 0 ∷ 10 ∷ []) ∷ [];
}

four_squares_packet : packet_of four_squares_merged 3 0
    ≡ record { from = 3; to = 0; steps = third_record ∷ second_record ∷ first_record ∷ [] }
unfolding packet_of removals_to sweep is_removable is_clear chains_at
four_squares_packet = refl

four_squares_replayed : replayed (slice_at four_squares_merged 3) (packet_of four_squares_merged 3 0) ≡ slice_at four_squares_merged 0
unfolding undo packet_of removals_to sweep is_removable is_clear chains_at
four_squares_replayed = refl

third_fits : broken_rule (slice_at four_squares_merged 3) third_record ≡ None
unfolding broken_rule undo removals_to sweep is_removable is_clear chains_at
third_fits = refl

second_fits : broken_rule (slice_at four_squares_merged 2) second_record ≡ None
unfolding broken_rule undo removals_to sweep is_removable is_clear chains_at
second_fits = refl

first_fits : broken_rule (slice_at four_squares_merged 1) first_record ≡ None
unfolding broken_rule undo removals_to sweep is_removable is_clear chains_at
first_fits = refl

-- ---- others

abbrev hole_record : StepRecord
hole_record = record {
  step = 1;
  loser = 2;
  loser_class = 0;
  winner = 1;
  winner_class = 0;
  made = 3;
  mends = [];
  ended = edge 1 2 1 (10 ∷ 10 ∷ 20 ∷ 10 ∷ 20 ∷ 20 ∷ 10 ∷ 20 ∷ 10 ∷ 10 ∷ []) ∷ [];
}

-- the ring round both keeps its points and gets the winner, so it has no mend
hole_step : step_record (merged hole_with_face) 1 ≡ hole_record
unfolding removals_to sweep is_removable is_clear chains_at history_of next_step
hole_step = refl

abbrev triangles_record : StepRecord
triangles_record = record {
  step = 1;
  loser = 1;
  loser_class = 0;
  winner = 2;
  winner_class = 0;
  made = 3;
  mends = record { key = 0; puts = put 1 0 12 ∷ []; pieces = piece 1 2 2 ∷ piece 0 4 1 ∷ [] } ∷ [];
  ended = edge 2 2 1 (0 ∷ 0 ∷ 6 ∷ 6 ∷ []) ∷ [];
}

triangles_step : step_record (merged two_triangles) 1 ≡ triangles_record
unfolding removals_to sweep is_removable is_clear chains_at history_of next_step
triangles_step = refl
