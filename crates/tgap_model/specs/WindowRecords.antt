-- Refinement records of a window: how the window of a slice is led back to the window of the slice one step before it.
-- From: Meijers (2011), where a coarse slice is sent first and is then refined step by step. The records are this project's.
use Rattle.std.specs.Prelude.{ℕ, zero, suc, ◌-◌, Bool, ◌&&◌, ◌||◌, not, ◌==◌, List, [], ◌∷◌, ◌++◌, map, flat_map, filter, fold, Option, Some, None, if◌then◌else◌}
use Rattle.std.specs.List.{list_all, list_any}
use Rattle.lemmas.specs.Sorting.{sort_by}
use Rattle.tgap_model.specs.declared.geometry.Window.{Window}
use Rattle.tgap_model.specs.declared.slice.Edge.{Edge}
use Rattle.tgap_model.specs.declared.slice.FaceRow.{FaceRow}
use Rattle.tgap_model.specs.declared.slice.Slice.{Slice}
use Rattle.tgap_model.specs.declared.record.StepRecord.{StepRecord}
use Rattle.tgap_model.specs.declared.window_record.WindowStep.{WindowStep}
use Rattle.tgap_model.specs.declared.window_record.WindowPacket.{WindowPacket}
use Rattle.tgap_model.specs.Merged.{MergedMap, step_number}
use Rattle.tgap_model.specs.Chains.{key, chains_at}
use Rattle.tgap_model.specs.Removals.{has_side}
use Rattle.tgap_model.specs.Slice.{slice_at, meets_window, window_of}
use Rattle.tgap_model.specs.Records.{is_edge_between, chain_of, step_record, has_step, mend_for, refined, edge_before, face_before, fits_step, has_face, keys_ascend, fits_mends, fits_puts, fits_pieces, first_failure}

-- ---- the record of a step for a window

-- the window of the slice after k steps
abbrev pub window_at : MergedMap → Window → ℕ → Slice
window_at h area k = window_of area (slice_at h k)

-- one of the edges has this key
abbrev pub has_key : List Edge → ℕ → Bool
has_key edges k = list_any (λ e. e.key == k) edges

-- the key of the edge after j steps of which this edge of the step before comes, if it is not ended
abbrev pub key_after : MergedMap → ℕ → Edge → ℕ
key_after h j e = key (chain_of (chains_at h j) e.key)

-- the edge is one that step j ends, or comes of an edge of the slice at j that is not among these
abbrev pub is_coming : MergedMap → ℕ → List Edge → Edge → Bool
is_coming h j there e =
    is_edge_between (step_number h j).loser (step_number h j).winner e || not (has_key there (key_after h j e))

-- The record of step j for a window: the mends whose edge is in the window at j, whole; the edges of the window before the step
-- that are not pieces of an edge in it; and the rows of its faces that have none in the window at j. It is meant for j from 1 to
-- the last step.
abbrev pub window_step : MergedMap → Window → ℕ → WindowStep
window_step h area j =
    let s = step_number h j in
    let there = window_at h area j in
    let finer = window_at h area (j - 1) in
    record {
      step = j;
      loser = s.loser;
      winner = s.winner;
      made = s.made;
      faces = filter (λ f. not (has_face there f.face)) finer.faces;
      mends = filter (λ m. has_key there.edges m.key) (step_record h j).mends;
      comes = filter (is_coming h j there.edges) finer.edges;
    }

-- the records of the n steps from `from` down, of those that the map has
abbrev pub window_steps_down : MergedMap → Window → ℕ → ℕ → List WindowStep
window_steps_down h area from zero = []
window_steps_down h area from (suc n) =
    if has_step h from then window_step h area from ∷ window_steps_down h area (from - 1) n
    else window_steps_down h area (from - 1) n

-- the packet from the window of one slice to that of a finer one
unfoldable pub window_packet_of : MergedMap → Window → ℕ → ℕ → WindowPacket
window_packet_of h area from to =
    record { from = from; to = to; area = area; steps = window_steps_down h area from (from - to) }

-- ---- undoing a step

-- the record of a whole slice with the same step, faces and mends, and with the edges that come as the ended ones
abbrev pub whole_record : WindowStep → StepRecord
whole_record r = record {
  step = r.step;
  loser = r.loser;
  loser_class = 0;
  winner = r.winner;
  winner_class = 0;
  made = r.made;
  mends = r.mends;
  ended = r.comes;
}

-- the edges that an edge becomes: those of its pieces whose bounding box meets the window, or where it has no mend, itself
abbrev pub refined_in : Window → WindowStep → Edge → List Edge
refined_in area r e =
    elim (mend_for (whole_record r) e) [
      | None ↦ refined (whole_record r) e
      | Some m ↦ filter (meets_window area) (refined (whole_record r) e)
    ]

-- the edges one step back, by key
abbrev pub edges_back : Window → Slice → WindowStep → List Edge
edges_back area s r = sort_by edge_before (flat_map (refined_in area r) s.edges ++ r.comes)

-- the rows, old and new, that stand beside one of the edges, by number
abbrev pub rows_beside : List Edge → List FaceRow → List FaceRow
rows_beside edges rows = sort_by face_before (filter (λ f. list_any (has_side f.face) edges) rows)

-- The window of a slice one step back: the new face becomes loser and winner, the mended edges those of their pieces that meet
-- the window, the edges that come are added, and of all rows those are kept that stand beside an edge.
unfoldable pub undo_in : Window → Slice → WindowStep → Slice
undo_in area s r = record {
  step = s.step - 1;
  faces = rows_beside (edges_back area s r) (s.faces ++ r.faces);
  edges = edges_back area s r;
}

-- the window after record upon record is undone
abbrev pub replayed_in : Slice → WindowPacket → Slice
replayed_in s packet = fold (undo_in packet.area) s packet.steps

-- ---- when a record fits the window of a slice; rules 1, 3, 4 and 5 are those of records of whole slices

-- 2. the slice has neither loser nor winner; the three faces differ, and none is 0
abbrev pub fits_faces_in : Slice → WindowStep → Bool
fits_faces_in s r =
    not (has_face s r.loser) && not (has_face s r.winner)
    && not (r.loser == r.winner) && not (r.loser == r.made) && not (r.winner == r.made)
    && not (r.loser == 0) && not (r.winner == 0) && not (r.made == 0)

-- 6. the keys of the edges that come ascend strictly, and so do the numbers of the faces, of which none is 0 and the slice has
-- none
abbrev pub fits_comes : Slice → WindowStep → Bool
fits_comes s r =
    keys_ascend (map (λ e. e.key) r.comes) && keys_ascend (map (λ f. f.face) r.faces)
    && list_all (λ f. not (f.face == 0) && not (has_face s f.face)) r.faces

-- 7. all keys differ after the change: where they ascend strictly
abbrev pub fits_keys_in : Window → Slice → WindowStep → Bool
fits_keys_in area s r = keys_ascend (map (λ e. e.key) (undo_in area s r).edges)

-- the face is the outside, or has a row
abbrev pub has_row : Slice → ℕ → Bool
has_row s f = (f == 0) || has_face s f

-- 8. after the change each face other than 0 beside an edge has a row
abbrev pub fits_rows : Window → Slice → WindowStep → Bool
fits_rows area s r =
    let back = undo_in area s r in list_all (λ e. has_row back e.left && has_row back e.right) back.edges

-- The least rule that a record breaks against the window of a slice; it fits where it breaks none.
unfoldable pub broken_rule_in : Window → Slice → WindowStep → Option ℕ
broken_rule_in area s r =
    first_failure 1
    (fits_step s (whole_record r) ∷ fits_faces_in s r ∷ fits_mends s (whole_record r) ∷ fits_puts s (whole_record r)
    ∷ fits_pieces s (whole_record r) ∷ fits_comes s r ∷ fits_keys_in area s r ∷ fits_rows area s r ∷ [])
