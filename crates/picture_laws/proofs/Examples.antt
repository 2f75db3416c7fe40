-- Faces at points of worked maps, and windows that are joined: computed from the definitions.
use Rattle.std.proofs.Common.{◌≡◌, ℕ, true, pos, negsuc, [], ◌∷◌, refl, None}
use Rattle.tgap_model.specs.declared.geometry.Fraction.{Fraction}
use Rattle.tgap_model.specs.declared.geometry.Window.{Window}
use Rattle.tgap_model.specs.declared.slice.FaceRow.{FaceRow}
use Rattle.tgap_model.specs.Merged.{merged}
use Rattle.tgap_model.specs.Chains.{chains_at}
use Rattle.tgap_model.specs.Clear.{is_clear}
use Rattle.tgap_model.specs.History.{next_step, history_of}
use Rattle.tgap_model.specs.Partition.{edge_segments}
use Rattle.tgap_model.specs.Removals.{is_removable, sweep, removals_to}
use Rattle.tgap_model.specs.Segment.{is_above}
use Rattle.tgap_model.specs.Slice.{slice, slice_at, window_of}
use Rattle.tgap_model.specs.WindowRecords.{window_at, window_packet_of, undo_in}
use Rattle.map_laws.specs.Inside.{is_inside}
use Rattle.map_laws.proofs.Examples.{two_squares, hole_with_face}
use Rattle.map_laws.proofs.SliceExamples.{edge}
use Rattle.picture_laws.specs.FaceAt.{lowest_over, face_told}
use Rattle.picture_laws.specs.Joined.{joined}
use Rattle.picture_laws.specs.JoinLaws.{refined_to}

abbrev at : ℕ → ℕ → ℕ → Fraction
at nx ny d = record { nx = pos nx; ny = pos ny; d = pos d }

abbrev area : ℕ → ℕ → ℕ → ℕ → Window
area x0 y0 x1 y1 = record { x0 = pos x0; y0 = pos y0; x1 = pos x1; y1 = pos y1 }

-- from a point up to the top of every map
abbrev upward : ℕ → ℕ → Window
upward x y = area x y x 2147483648

abbrev face : ℕ → FaceRow
face f = record { face = f; class = 0 }

-- ---- two squares: a window of width 0 has one edge, and its last segment is over the point

narrow_window : (window_at (merged two_squares) (upward 12 3) 0).edges ≡ edge 1 2 0 (10 ∷ 0 ∷ 20 ∷ 0 ∷ 20 ∷ 10 ∷ 10 ∷ 10 ∷ []) ∷ []
unfolding window_of removals_to sweep is_removable is_clear chains_at history_of next_step
narrow_window = refl

told_by_window : face_told (at 12 3 1) (window_at (merged two_squares) (upward 12 3) 0).edges ≡ 2
unfolding window_of removals_to sweep is_removable is_clear chains_at history_of next_step
told_by_window = refl

-- the same window tells the face at any point up to the next whole abscissa, and above
told_beside : face_told (at 25 7 2) (window_at (merged two_squares) (upward 12 3) 0).edges ≡ 2
unfolding window_of removals_to sweep is_removable is_clear chains_at history_of next_step
told_beside = refl

inside_there : is_inside (edge_segments (slice two_squares 0).edges) 2 (at 25 7 2) ≡ true
unfolding is_inside is_above slice removals_to sweep is_removable is_clear chains_at history_of next_step
inside_there = refl

told_left : face_told (at 5 3 1) (slice two_squares 0).edges ≡ 1
unfolding slice removals_to sweep is_removable is_clear chains_at history_of next_step
told_left = refl

told_after : face_told (at 12 3 1) (slice two_squares 1).edges ≡ 3
unfolding slice removals_to sweep is_removable is_clear chains_at history_of next_step
told_after = refl

-- with no segment over it a point is outside
told_outside : face_told (at 12 11 1) (slice two_squares 0).edges ≡ 0
unfolding slice removals_to sweep is_removable is_clear chains_at history_of next_step
told_outside = refl

-- a point below both squares is outside too, with a segment over it
told_below : (lowest_over (record { nx = pos 12; ny = negsuc 0; d = pos 1 }) (edge 1 2 0 (10 ∷ 0 ∷ 20 ∷ 0 ∷ 20 ∷ 10 ∷ 10 ∷ 10 ∷ []) ∷ []) ≡ None → ⊥)
    × (face_told (record { nx = pos 12; ny = negsuc 0; d = pos 1 }) (edge 1 2 0 (10 ∷ 0 ∷ 20 ∷ 0 ∷ 20 ∷ 10 ∷ 10 ∷ 10 ∷ []) ∷ []) ≡ 0)
told_below = ((λ e. absurd cc), refl)

-- ---- a hole, below which the abscissa is that of its corners, and the face in it

told_below_hole : face_told (at 10 5 1) (slice hole_with_face 0).edges ≡ 1
unfolding slice removals_to sweep is_removable is_clear chains_at history_of next_step
told_below_hole = refl

told_in_hole : face_told (at 15 12 1) (slice hole_with_face 0).edges ≡ 2
unfolding slice removals_to sweep is_removable is_clear chains_at history_of next_step
told_in_hole = refl

-- ---- where two segments begin at one point the less steep one is lower; and what counts is the height at the abscissa, not that of an end

one_start : face_told (at 0 5 1) (edge 0 1 2 (0 ∷ 10 ∷ 10 ∷ 10 ∷ []) ∷ edge 1 3 1 (0 ∷ 10 ∷ 10 ∷ 20 ∷ []) ∷ []) ≡ 2
one_start = refl

-- at the abscissa of their right ends neither of them counts
right_ends : face_told (at 10 5 1) (edge 0 1 2 (0 ∷ 10 ∷ 10 ∷ 10 ∷ []) ∷ edge 1 3 1 (0 ∷ 10 ∷ 10 ∷ 20 ∷ []) ∷ []) ≡ 0
right_ends = refl

lower_start : face_told (at 8 3 1) (edge 0 3 1 (0 ∷ 4 ∷ 10 ∷ 20 ∷ []) ∷ edge 1 1 2 (1 ∷ 5 ∷ 10 ∷ 6 ∷ []) ∷ []) ≡ 2
lower_start = refl

-- ---- windows of two squares: the border between them stands in the second one, and the left square in both

abbrev left_part : Window
left_part = area 1 2 5 4

abbrev middle_part : Window
middle_part = area 8 2 12 4

two_windows : joined 0 (window_at (merged two_squares) left_part 0 ∷ window_at (merged two_squares) middle_part 0 ∷ []) ≡ record {
  step = 0;
  faces = face 1 ∷ face 2 ∷ [];
  edges = edge 0 1 0 (10 ∷ 10 ∷ 0 ∷ 10 ∷ 0 ∷ 0 ∷ 10 ∷ 0 ∷ []) ∷ edge 1 2 0 (10 ∷ 0 ∷ 20 ∷ 0 ∷ 20 ∷ 10 ∷ 10 ∷ 10 ∷ [])
      ∷ edge 2 1 2 (10 ∷ 0 ∷ 10 ∷ 10 ∷ []) ∷ [];
}
unfolding window_of removals_to sweep is_removable is_clear chains_at history_of next_step
two_windows = refl

-- one was sent after the step and is led back, the other was sent before it
refined_windows : joined 0 (refined_to (merged two_squares) 0 (record { area = left_part; from = 1 }) ∷ refined_to (merged two_squares) 0 (record { area = middle_part; from = 0 }) ∷ [])
    ≡ slice_at (merged two_squares) 0
unfolding window_packet_of undo_in window_of removals_to sweep is_removable is_clear chains_at history_of next_step
refined_windows = refl

no_window : joined 3 [] ≡ record { step = 3; faces = []; edges = [] }
no_window = refl
