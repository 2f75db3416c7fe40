-- Records of a window that break one rule each, and no other: computed from the definitions.
use Rattle.std.proofs.Common.{◌≡◌, ℕ, Bool, true, false, pos, List, [], ◌∷◌, refl, Some, None}
use Rattle.tgap_model.specs.declared.geometry.Window.{Window}
use Rattle.tgap_model.specs.declared.slice.FaceRow.{FaceRow}
use Rattle.tgap_model.specs.declared.slice.Slice.{Slice}
use Rattle.tgap_model.specs.declared.record.Put.{Put}
use Rattle.tgap_model.specs.declared.record.Piece.{Piece}
use Rattle.tgap_model.specs.declared.record.Mend.{Mend}
use Rattle.tgap_model.specs.declared.window_record.WindowStep.{WindowStep}
use Rattle.tgap_model.specs.History.{next_step, history_of}
use Rattle.tgap_model.specs.Merged.{merged}
use Rattle.tgap_model.specs.Chains.{chains_at}
use Rattle.tgap_model.specs.Clear.{is_clear}
use Rattle.tgap_model.specs.Removals.{is_removable, sweep, removals_to}
use Rattle.tgap_model.specs.Slice.{window_of}
use Rattle.tgap_model.specs.Records.{fits_step, fits_mends, fits_puts, fits_pieces}
use Rattle.tgap_model.specs.WindowRecords.{window_at, window_step, whole_record, undo_in, fits_faces_in, fits_comes, fits_keys_in, fits_rows, broken_rule_in}
use Rattle.map_laws.proofs.Examples.{two_squares}
use Rattle.map_laws.proofs.SliceExamples.{edge}

abbrev face : ℕ → FaceRow
face f = record { face = f; class = 0 }

abbrev put : ℕ → ℕ → ℕ → Put
put at x y = record { at = at; point = record { x = pos x; y = pos y } }

abbrev piece : ℕ → ℕ → ℕ → Piece
piece key last side = record { key = key; last = last; side = side; turned = false }

abbrev mend : ℕ → List Put → List Piece → List Mend
mend key puts pieces = record { key = key; puts = puts; pieces = pieces } ∷ []

-- ---- two squares, and a window in the right one

abbrev right_part : Window
right_part = record { x0 = pos 12; y0 = pos 2; x1 = pos 30; y1 = pos 4 }

abbrev right_after : Slice
right_after = record { step = 1; faces = face 3 ∷ []; edges = edge 0 3 0 (10 ∷ 10 ∷ 0 ∷ 10 ∷ 0 ∷ 0 ∷ 20 ∷ 0 ∷ 20 ∷ 10 ∷ 10 ∷ 10 ∷ []) ∷ [] }

abbrev right_record : WindowStep
right_record = record {
  step = 1;
  loser = 1;
  winner = 2;
  made = 3;
  faces = face 2 ∷ [];
  mends = mend 0 (put 3 10 0 ∷ []) (piece 0 3 1 ∷ piece 1 6 2 ∷ []);
  comes = [];
}

the_window : window_at (merged two_squares) right_part 1 ≡ right_after
unfolding window_of removals_to sweep is_removable is_clear chains_at history_of next_step
the_window = refl

the_record : window_step (merged two_squares) right_part 1 ≡ right_record
unfolding window_of removals_to sweep is_removable is_clear chains_at history_of next_step
the_record = refl

-- what the eight rules say of a record against a window in the right square
abbrev rules : Slice → WindowStep → List Bool
rules s r =
    fits_step s (whole_record r) ∷ fits_faces_in s r ∷ fits_mends s (whole_record r) ∷ fits_puts s (whole_record r)
    ∷ fits_pieces s (whole_record r) ∷ fits_comes s r ∷ fits_keys_in right_part s r ∷ fits_rows right_part s r ∷ []

-- and which of them is told
abbrev told : WindowStep → ℕ → Type 0
told r rule = broken_rule_in right_part right_after r ≡ Some rule

all_hold : rules right_after right_record ≡ true ∷ true ∷ true ∷ true ∷ true ∷ true ∷ true ∷ true ∷ []
unfolding undo_in
all_hold = refl

-- ---- rule 1: of another step

abbrev of_step_two : WindowStep
of_step_two = record right_record { step = 2 }

step_fails : rules right_after of_step_two ≡ false ∷ true ∷ true ∷ true ∷ true ∷ true ∷ true ∷ true ∷ []
unfolding undo_in
step_fails = refl

step_told : told of_step_two 1
unfolding broken_rule_in undo_in
step_told = refl

-- ---- rule 2: the loser has a row in the window

abbrev with_loser : Slice
with_loser = record right_after { faces = face 1 ∷ face 3 ∷ [] }

faces_fail : rules with_loser right_record ≡ true ∷ false ∷ true ∷ true ∷ true ∷ true ∷ true ∷ true ∷ []
unfolding undo_in
faces_fail = refl

faces_told : broken_rule_in right_part with_loser right_record ≡ Some 2
unfolding broken_rule_in undo_in
faces_told = refl

-- the new face needs no row
without_new_face : broken_rule_in right_part (record right_after { faces = [] }) right_record ≡ None
unfolding broken_rule_in undo_in
without_new_face = refl

-- ---- rule 3: a mend of an edge that is not in the window

abbrev of_edge_one : WindowStep
of_edge_one = record right_record { mends = mend 1 [] (piece 0 3 1 ∷ []) }

mends_fail : rules right_after of_edge_one ≡ true ∷ true ∷ false ∷ true ∷ true ∷ true ∷ true ∷ true ∷ []
unfolding undo_in
mends_fail = refl

mends_told : told of_edge_one 3
unfolding broken_rule_in undo_in
mends_told = refl

-- ---- rule 4: a point is put beside itself

abbrev onto_a_point : WindowStep
onto_a_point = record right_record { mends = mend 0 (put 3 0 0 ∷ []) (piece 0 3 1 ∷ piece 1 6 2 ∷ []) }

puts_fail : rules right_after onto_a_point ≡ true ∷ true ∷ true ∷ false ∷ true ∷ true ∷ true ∷ true ∷ []
unfolding undo_in
puts_fail = refl

puts_told : told onto_a_point 4
unfolding broken_rule_in undo_in
puts_told = refl

-- ---- rule 5: a piece, which is not in the window, with a face that is neither loser nor winner

abbrev with_another_side : WindowStep
with_another_side = record right_record { mends = mend 0 (put 3 10 0 ∷ []) (piece 0 3 4 ∷ piece 1 6 2 ∷ []) }

pieces_fail : rules right_after with_another_side ≡ true ∷ true ∷ true ∷ true ∷ false ∷ true ∷ true ∷ true ∷ []
unfolding undo_in
pieces_fail = refl

pieces_told : told with_another_side 5
unfolding broken_rule_in undo_in
pieces_told = refl

-- ---- rule 6: a row of the outside

abbrev with_outside : WindowStep
with_outside = record right_record { faces = face 0 ∷ face 2 ∷ [] }

comes_fail : rules right_after with_outside ≡ true ∷ true ∷ true ∷ true ∷ true ∷ false ∷ true ∷ true ∷ []
unfolding undo_in
comes_fail = refl

comes_told : told with_outside 6
unfolding broken_rule_in undo_in
comes_told = refl

-- ---- rule 7: an edge that comes has the key of a piece

abbrev key_again : WindowStep
key_again = record right_record { comes = edge 1 2 0 (10 ∷ 0 ∷ 20 ∷ 0 ∷ []) ∷ [] }

keys_fail : rules right_after key_again ≡ true ∷ true ∷ true ∷ true ∷ true ∷ true ∷ false ∷ true ∷ []
unfolding undo_in
keys_fail = refl

keys_told : told key_again 7
unfolding broken_rule_in undo_in
keys_told = refl

-- ---- rule 8: the winner stands beside an edge, and has no row

abbrev without_rows : WindowStep
without_rows = record right_record { faces = [] }

rows_fail : rules right_after without_rows ≡ true ∷ true ∷ true ∷ true ∷ true ∷ true ∷ true ∷ false ∷ []
unfolding undo_in
rows_fail = refl

rows_told : told without_rows 8
unfolding broken_rule_in undo_in
rows_told = refl
