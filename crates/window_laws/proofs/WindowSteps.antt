-- The record of a window fits the window of the slice after its step, rule by rule, and leads it back to the window before the step.
use Rattle.std.proofs.Common.{◌≡◌, inl, inr, ℕ, ◌+◌, ◌-◌, ◌≤◌, ◌==◌, ◌&&◌, ◌||◌, Bool, true, false, not, nat_lt, cond, List, [], ◌∷◌, ◌++◌, map, filter, length, Option, Some, None, eq-eqb, refl, sym, ap, ap₂, ◌∙◌}
use Rattle.std.specs.List.{list_all, list_any}
use Rattle.std.proofs.lemmas.Bool.{and_parts, and_from, or_left, or_right, cases_eq, eqb-true, not-true, not_from_false}
use Rattle.lemmas.specs.Sorting.{is_sorted_by}
use Rattle.tgap_model.specs.declared.geometry.Window.{Window}
use Rattle.tgap_model.specs.declared.merge.MergeStep.{MergeStep}
use Rattle.tgap_model.specs.declared.slice.Edge.{Edge}
use Rattle.tgap_model.specs.declared.slice.FaceRow.{FaceRow}
use Rattle.tgap_model.specs.declared.slice.Slice.{Slice}
use Rattle.tgap_model.specs.declared.record.Mend.{Mend}
use Rattle.tgap_model.specs.declared.record.StepRecord.{StepRecord}
use Rattle.tgap_model.specs.declared.window_record.WindowStep.{WindowStep}
use Rattle.tgap_model.specs.Base.{BaseMap, is_base}
use Rattle.tgap_model.specs.Partition.{IsPartition, base_segments}
use Rattle.tgap_model.specs.History.{history_of}
use Rattle.tgap_model.specs.Merged.{MergedMap, merged, step_number, live_faces}
use Rattle.tgap_model.specs.Chains.{Chain, chains_at}
use Rattle.tgap_model.specs.Removals.{edge_of, has_side, removals_to}
use Rattle.tgap_model.specs.Slice.{face_row, slice, slice_at, meets_window, window_of}
use Rattle.tgap_model.specs.Records.{step_record, fits_step, has_face, fits_faces, fits_mends, fits_puts, fits_pieces, fits_ended, fits_keys, keys_ascend, edge_with, has_one_side, puts_fit, ends_with_place, starts_after_zero, first_failure, broken_rule}
use Rattle.tgap_model.specs.WindowRecords.{window_at, has_key, is_coming, window_step, whole_record, rows_beside, undo_in, has_row, fits_faces_in, fits_comes, fits_keys_in, fits_rows, broken_rule_in}
use Rattle.map_laws.proofs.ChainMembers.{Among, any_among, filter_among}
use Rattle.map_laws.proofs.Lists.{all_from, any_from, kept_among, map_among}
use Rattle.record_laws.proofs.Fits.{records_fit}
use Rattle.record_laws.proofs.Holders.{same_key}
use Rattle.window_laws.specs.WindowLaws.{WindowStepsFit, WindowUndoGoesBack}
use Rattle.window_laws.proofs.Filters.{find_filtered, all_filtered, keys_of, keys_kept}
use Rattle.window_laws.proofs.WindowEdges.{edges_there, back_sorted}
use Rattle.window_laws.proofs.WindowFaces.{no_row, rows_back, new_sorted, new_fit, row_there}

-- ---- tests in a row

-- where all pass none is the first that fails
none_fails : (i : ℕ) (tests : List Bool) → list_all (λ b. b) tests ≡ true → first_failure i tests ≡ None
none_fails i [] each = refl
none_fails i (test ∷ tests) each =
    let parts = and_parts test (list_all (λ b. b) tests) each in
    ap (λ (b : Bool). cond b (first_failure (i + 1) tests) (Some i)) parts.0 ∙ none_fails (i + 1) tests parts.1

-- and where none fails all pass
all_pass : (i : ℕ) (tests : List Bool) → first_failure i tests ≡ None → list_all (λ b. b) tests ≡ true
all_pass i [] none = refl
all_pass i (true ∷ tests) none = all_pass (i + 1) tests none
all_pass i (false ∷ tests) none = absurd cc

-- a test in front of another may be weakened
front_weaker : {a b : Bool} (c : Bool) → (a ≡ true → b ≡ true) → (a && c) ≡ true → (b && c) ≡ true
front_weaker {a} {b} c step both = let p = and_parts a c both in and_from b c (step p.0) p.1

module _ (m : BaseMap) (base : is_base m ≡ true) (planar : IsPartition (base_segments m)) (j : ℕ) (one : 1 ≤ j) (last : j ≤ length (history_of m)) (area : Window) where
  abbrev h : MergedMap
  h = merged m

  abbrev k : ℕ
  k = j - 1

  abbrev s : MergeStep
  s = step_number h j

  abbrev edge_here : Chain → Edge
  edge_here c = edge_of h j (removals_to h j) c

  abbrev edge_back : Chain → Edge
  edge_back c = edge_of h k (removals_to h k) c

  abbrev record_here : StepRecord
  record_here = step_record h j

  abbrev meets : Edge → Bool
  meets e = meets_window area e

  -- the window after the step, and before it
  abbrev there : List Edge
  there = filter meets (map edge_here (chains_at h j))

  abbrev before : List Edge
  before = filter meets (map edge_back (chains_at h k))

  abbrev window_there : Slice
  window_there = window_at h area j

  abbrev record_in : WindowStep
  record_in = window_step h area j

  of_slice : (e : Edge) → Among e before → Among e (map edge_back (chains_at h k))
  of_slice e o = kept_among meets (map edge_back (chains_at h k)) e o

  -- ---- the window before the step

  pub window_undone : undo_in area (window_at (merged m) area j) (window_step (merged m) area j) ≡ window_at (merged m) area (j - 1)
  unfolding undo_in window_of
  window_undone =
      ap₂ (λ (es : List Edge) (rows : List FaceRow). record { step = j - 1; faces = rows; edges = es }) (edges_there m base planar j one last area)
      (ap (λ (es : List Edge). rows_beside es (window_there.faces ++ record_in.faces)) (edges_there m base planar j one last area)
      ∙ rows_back m base planar j one last before there of_slice)

  -- ---- what is known of the record of the whole slice

  whole : list_all (λ b. b) (fits_step (slice_at h j) record_here ∷ fits_faces (slice_at h j) record_here ∷ fits_mends (slice_at h j) record_here
      ∷ fits_puts (slice_at h j) record_here ∷ fits_pieces (slice_at h j) record_here ∷ fits_ended (slice_at h j) record_here
      ∷ fits_keys (slice_at h j) record_here ∷ []) ≡ true
  unfolding broken_rule slice
  whole = all_pass 1 (fits_step (slice_at h j) record_here ∷ fits_faces (slice_at h j) record_here ∷ fits_mends (slice_at h j) record_here
      ∷ fits_puts (slice_at h j) record_here ∷ fits_pieces (slice_at h j) record_here ∷ fits_ended (slice_at h j) record_here
      ∷ fits_keys (slice_at h j) record_here ∷ []) (records_fit m base planar j one last)

  parts : (fits_step (slice_at h j) record_here ≡ true) × (fits_faces (slice_at h j) record_here ≡ true) × (fits_mends (slice_at h j) record_here ≡ true)
      × (fits_puts (slice_at h j) record_here ≡ true) × (fits_pieces (slice_at h j) record_here ≡ true)
  parts =
      let one = and_parts (fits_step (slice_at h j) record_here) _ whole in
      let two = and_parts (fits_faces (slice_at h j) record_here) _ one.1 in
      let three = and_parts (fits_mends (slice_at h j) record_here) _ two.1 in
      let four = and_parts (fits_puts (slice_at h j) record_here) _ three.1 in
      let five = and_parts (fits_pieces (slice_at h j) record_here) _ four.1 in
      (one.0, two.0, three.0, four.0, five.0)

  -- ---- rules 1 and 2

  step_fits : fits_step window_there (whole_record record_in) ≡ true
  unfolding window_of
  step_fits = parts.0

  absent : (f : ℕ) → not (has_face (slice_at h j) f) ≡ true → not (has_face window_there f) ≡ true
  unfolding window_of
  absent f none =
      not_from_false (has_face window_there f)
      (no_row (λ r. list_any (has_side r.face) there) (map (face_row h) (live_faces h j)) f (not-true (has_face (slice_at h j) f) none))

  faces_fit : fits_faces_in window_there record_in ≡ true
  faces_fit =
      front_weaker (not (s.made == 0)) (front_weaker (not (s.winner == 0)) (front_weaker (not (s.loser == 0))
      (front_weaker (not (s.winner == s.made)) (front_weaker (not (s.loser == s.made)) (front_weaker (not (s.loser == s.winner)) rows))))) parts.1
    where
      rows : (list_any (λ f. (f.face == s.made) && (f.class == record_here.winner_class)) (slice_at h j).faces
          && not (has_face (slice_at h j) s.loser) && not (has_face (slice_at h j) s.winner)) ≡ true
          → (not (has_face window_there s.loser) && not (has_face window_there s.winner)) ≡ true
      rows each =
          let winner = and_parts _ (not (has_face (slice_at h j) s.winner)) each in
          let loser = and_parts _ (not (has_face (slice_at h j) s.loser)) winner.0 in
          and_from (not (has_face window_there s.loser)) (not (has_face window_there s.winner)) (absent s.loser loser.1) (absent s.winner winner.1)

  -- ---- rules 3, 4 and 5

  -- an edge of the window is found there as in the whole slice
  edge_found : (i : ℕ) → has_key there i ≡ true → edge_with window_there i ≡ edge_with (slice_at h j) i
  unfolding window_of
  edge_found i is_there =
      let g = any_among (λ (e : Edge). e.key == i) there is_there in
      let d = map_among edge_here (chains_at h j) g.0 (kept_among meets (map edge_here (chains_at h j)) g.0 g.1) in
      find_filtered (λ e. e.key == i) meets (map edge_here (chains_at h j)) (λ e o t.
      let c = map_among edge_here (chains_at h j) e o in
      let same : d.0 ≡ c.0 = same_key h j d.0 c.0 d.1 c.1
      (ap (λ (x : Edge). x.key) d.2 ∙ eqb-true _ _ g.2 ∙ sym (eqb-true _ _ t) ∙ ap (λ (x : Edge). x.key) (sym c.2)) in
      ap meets (sym c.2 ∙ ap edge_here (sym same) ∙ d.2) ∙ filter_among meets (map edge_here (chains_at h j)) g.0 g.1)

  -- what is asked of a mend and its edge is asked of fewer
  mends_pass : (p : Option Edge → Mend → Bool) → list_all (λ w. p (edge_with (slice_at h j) w.key) w) record_here.mends ≡ true
      → list_all (λ w. p (edge_with window_there w.key) w) (filter (λ w. has_key there w.key) record_here.mends) ≡ true
  mends_pass p each =
      all_filtered (λ w. p (edge_with (slice_at h j) w.key) w) (λ w. has_key there w.key) (λ w. p (edge_with window_there w.key) w) record_here.mends
      (λ w o is_there e. ap (λ (o : Option Edge). p o w) (edge_found w.key is_there) ∙ e) each

  mends_fit : fits_mends window_there (whole_record record_in) ≡ true
  unfolding window_of
  mends_fit =
      let each = and_parts (keys_ascend (map (λ w. w.key) record_here.mends)) _ parts.2 in
      and_from (keys_ascend (map (λ w. w.key) (filter (λ w. has_key there w.key) record_here.mends))) _
      (keys_kept (λ (w : Mend). w.key) (λ w. has_key there w.key) record_here.mends each.0)
      (mends_pass (λ o w. elim o [ None ↦ false | Some e ↦ has_one_side s.made e ]) each.1)

  puts_all_fit : fits_puts window_there (whole_record record_in) ≡ true
  unfolding window_of
  puts_all_fit =
      mends_pass (λ o w. is_sorted_by nat_lt (map (λ p. p.at) w.puts) && elim o [ None ↦ true | Some e ↦ puts_fit e.points w.puts ]) parts.3

  pieces_fit : fits_pieces window_there (whole_record record_in) ≡ true
  unfolding window_of
  pieces_fit =
      mends_pass (λ o w. let places = map (λ p. p.last) w.pieces in
      is_sorted_by nat_lt places && starts_after_zero places
      && elim o [ None ↦ true | Some e ↦ ends_with_place (length e.points + length w.puts - 1) places ]
      && list_all (λ p. (p.side == s.loser) || (p.side == s.winner)) w.pieces) parts.4

  -- ---- rules 6, 7 and 8

  before_ascend : keys_ascend (map (λ e. e.key) before) ≡ true
  before_ascend = keys_of (λ (e : Edge). e.key) before (back_sorted m base planar j one last area)

  comes_fit : fits_comes window_there record_in ≡ true
  unfolding window_of
  comes_fit =
      and_from _ _
      (and_from (keys_ascend (map (λ e. e.key) record_in.comes)) (keys_ascend (map (λ f. f.face) record_in.faces))
      (keys_kept (λ (e : Edge). e.key) (is_coming h j there) before before_ascend)
      (keys_of (λ (f : FaceRow). f.face) record_in.faces (new_sorted m base planar j one last before there of_slice)))
      (new_fit m base planar j one last before there of_slice)

  keys_fit : fits_keys_in area window_there record_in ≡ true
  unfolding window_of
  keys_fit = ap (λ (t : Slice). keys_ascend (map (λ e. e.key) t.edges)) window_undone ∙ before_ascend

  rows_fit : fits_rows area window_there record_in ≡ true
  unfolding window_of
  rows_fit =
      ap (λ (t : Slice). list_all (λ e. has_row t e.left && has_row t e.right) t.edges) window_undone
      ∙ all_from (λ e. has_row (window_at h area k) e.left && has_row (window_at h area k) e.right) before (λ e o.
      and_from (has_row (window_at h area k) e.left) (has_row (window_at h area k) e.right)
      (of_side e o e.left (or_left (e.left == e.left) (e.right == e.left) (eq-eqb e.left e.left refl)))
      (of_side e o e.right (or_right (e.left == e.right) (e.right == e.right) (eq-eqb e.right e.right refl))))
    where
      of_side : (e : Edge) → Among e before → (f : ℕ) → has_side f e ≡ true → has_row (window_at h area k) f ≡ true
      of_side e o f beside = elim (cases_eq f 0) [
        | inl z ↦ or_left (f == 0) (has_face (window_at h area k) f) (eq-eqb f 0 z)
        | inr z ↦ or_right (f == 0) (has_face (window_at h area k) f)
            (row_there m base planar j one last before there of_slice f z (any_from (has_side f) before e o beside))
      ]

  pub window_fits : broken_rule_in area (window_at (merged m) area j) (window_step (merged m) area j) ≡ None
  unfolding broken_rule_in
  window_fits =
      none_fails 1
      (fits_step window_there (whole_record record_in) ∷ fits_faces_in window_there record_in ∷ fits_mends window_there (whole_record record_in)
      ∷ fits_puts window_there (whole_record record_in) ∷ fits_pieces window_there (whole_record record_in) ∷ fits_comes window_there record_in
      ∷ fits_keys_in area window_there record_in ∷ fits_rows area window_there record_in ∷ [])
      (and_from _ _ step_fits (and_from _ _ faces_fit (and_from _ _ mends_fit (and_from _ _ puts_all_fit
      (and_from _ _ pieces_fit (and_from _ _ comes_fit (and_from _ _ keys_fit (and_from _ _ rows_fit refl))))))))

pub window_steps_fit : WindowStepsFit
window_steps_fit m base planar j one last area = window_fits m base planar j one last area

pub window_undo_goes_back : WindowUndoGoesBack
window_undo_goes_back m base planar j one last area = window_undone m base planar j one last area
