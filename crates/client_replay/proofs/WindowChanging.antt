-- A record of a window undone on the tables of a slice.
use Rattle.std.proofs.Common.{◌≡◌, ℕ, ◌-◌, Bool, true, ◌&&◌, nat_cmp, List, ◌++◌, map, filter, AllPairs, IsPermutation, sym, ap, ap₂, subst, ◌∙◌}
use Rattle.std.specs.Prelude.{not}
use Rattle.std.specs.List.{list_all, list_any}
use Rattle.std.specs.BTreeSet.{BTreeSet, contains}
use Rattle.std.specs.List.Sorted.{IsNonDecreasingBy}
use Rattle.std.proofs.lemmas.List.Sorted.{IsPermutation-sym, IsPermutation-trans}
use Rattle.lemmas.specs.Sorting.{is_sorted_by, sort_by}
use Rattle.lemmas.proofs.Sorting.{sort_by-permutation}
use Rattle.tgap_model.specs.declared.geometry.Window.{Window}
use Rattle.tgap_model.specs.declared.slice.Edge.{Edge}
use Rattle.tgap_model.specs.declared.slice.FaceRow.{FaceRow}
use Rattle.tgap_model.specs.declared.record.Mend.{Mend}
use Rattle.tgap_model.specs.declared.record.StepRecord.{StepRecord}
use Rattle.tgap_model.specs.declared.window_record.WindowStep.{WindowStep}
use Rattle.tgap_model.specs.Records.{edge_before, face_before, keys_ascend}
use Rattle.tgap_model.specs.WindowRecords.{edges_back, rows_beside, undo_in, fits_keys_in, fits_rows}
use Rattle.client_replay.specs.declared.working.Working.{Working}
use Rattle.client_replay.specs.Coming.{staying, stays}
use Rattle.client_replay.specs.Rules.{are_in_order}
use Rattle.client_replay.specs.Windows.{mending_of, coming_in, AreSides, is_known}
use Rattle.client_replay.specs.Working.{slice_of, DifferInKey, DifferBy, IsSound}
use Rattle.client_replay.proofs.Changing.{lines_in_order, keys_tested, slice_with}
use Rattle.client_replay.proofs.Seventh.{all_edges_by, coming_by, all_are, both_apart, undone_are}
use Rattle.client_replay.proofs.WindowEdges.{cut_in, coming_is, edges_back_are}
use Rattle.client_replay.proofs.WindowFaces.{rows_tested, rows_are}
use Rattle.client_replay.proofs.WindowRules.{KeepsSixIn}

module _ (area : Window) (w : Working) (r : WindowStep) where
  -- these edges come by what a record of whole slices mends
  abbrev pub AreComing : StepRecord → List Edge → Type 0
  AreComing m edges = IsPermutation (coming_in area (slice_of w) m r.comes) edges

  -- what the test of their keys says of rule 7
  abbrev TellsKeys : StepRecord → Type 0
  TellsKeys m = (edges read : List Edge) → AreComing m edges → IsNonDecreasingBy (λ (e : Edge). e.key) edges → read ≡ edges → (answer told : Bool)
      → answer ≡ (are_in_order read && not (list_any (λ e. stays (slice_of w) m e.key) read)) → answer ≡ told → fits_keys_in area (slice_of w) r ≡ told

  -- all edges one step back are those that stay and these
  abbrev AreAll : StepRecord → Type 0
  AreAll m = (edges : List Edge) → AreComing m edges → IsPermutation (edges_back area (slice_of w) r) (staying m (slice_of w).edges ++ edges)

  -- they differ in their keys where the test passes
  abbrev AreApart : StepRecord → Type 0
  AreApart m = (edges read : List Edge) → AreComing m edges → read ≡ edges → (answer : Bool)
      → answer ≡ (are_in_order read && not (list_any (λ e. stays (slice_of w) m e.key) read)) → answer ≡ true → AllPairs DifferInKey (staying m (slice_of w).edges ++ edges)

  -- in the order of their keys they are the edges one step back
  abbrev AreBack : StepRecord → Type 0
  AreBack m = (edges all : List Edge) → AreComing m edges → is_sorted_by edge_before all ≡ true → IsPermutation (staying m (slice_of w).edges ++ edges) all → all ≡ edges_back area (slice_of w) r

  module _ (sound : IsSound w) (six : KeepsSixIn (slice_of w) r) where
    abbrev cut : Edge → Mend → List Edge
    cut = cut_in area (mending_of r)

    order : are_in_order (slice_of w).edges ≡ true
    order = lines_in_order w.labels w.lines.entries sound.lines

    moved : (edges : List Edge) → AreComing (mending_of r) edges → IsPermutation (coming_by (mending_of r) cut (slice_of w).edges r.comes) edges
    moved edges h = subst (λ (zs : List Edge). IsPermutation zs edges) (coming_is area (slice_of w) (mending_of r) r.comes) h

    own_keys : TellsKeys (mending_of r)
    unfolding undo_in
    own_keys edges read h rising same answer told is e =
        ap (λ (es : List Edge). keys_ascend (map (λ f. f.key) es)) (edges_back_are area r (slice_of w))
        ∙ keys_tested w (mending_of r) cut r.comes sound six.mends.mends edges read (moved edges h) rising same answer told is e

    own_all : AreAll (mending_of r)
    own_all edges h =
        let all = all_edges_by (mending_of r) cut (slice_of w).edges r.comes in
        subst (λ (zs : List Edge). IsPermutation zs (staying (mending_of r) (slice_of w).edges ++ edges)) (sym (edges_back_are area r (slice_of w)))
        (IsPermutation-trans (sort_by edge_before all) all (staying (mending_of r) (slice_of w).edges ++ edges) (IsPermutation-sym all (sort_by edge_before all) (sort_by-permutation edge_before all))
        (all_are (slice_of w) (mending_of r) cut r.comes order six.mends.mends edges (moved edges h)))

    own_apart : AreApart (mending_of r)
    own_apart edges read h same answer is e =
        both_apart (slice_of w) (mending_of r) cut r.comes order six.mends.mends edges (moved edges h)
        (ap (λ (es : List Edge). are_in_order es && not (list_any (λ f. stays (slice_of w) (mending_of r) f.key) es)) (sym same) ∙ sym is ∙ e)

    own_back : AreBack (mending_of r)
    own_back edges all h sorted perm =
        sym (edges_back_are area r (slice_of w) ∙ undone_are (slice_of w) (mending_of r) cut r.comes order six.mends.mends edges (moved edges h) all sorted perm)

    -- ---- for the record that was made so

    module _ (m : StepRecord) (made : mending_of r ≡ m) where
      pub tells_keys : TellsKeys m
      tells_keys = subst TellsKeys made own_keys

      pub are_all : AreAll m
      are_all = subst AreAll made own_all

      pub are_apart : AreApart m
      are_apart = subst AreApart made own_apart

      pub are_back : AreBack m
      are_back = subst AreBack made own_back

      -- what the test of the faces beside them says of rule 8
      pub tells_rows : (edges read : List Edge) (rows : List FaceRow) (sides : BTreeSet ℕ) → AreComing m edges → read ≡ edges → rows ≡ r.faces → AreSides sides (staying m (slice_of w).edges ++ read)
          → (answer told : Bool) → answer ≡ list_all (is_known ((slice_of w).faces ++ rows)) sides.keys → answer ≡ told → fits_rows area (slice_of w) r ≡ told
      tells_rows edges read rows sides h same own are answer told is e =
          let all = staying m (slice_of w).edges ++ edges in
          rows_tested area (slice_of w) r all sides (are_all edges h) (subst (λ (zs : List Edge). AreSides sides (staying m (slice_of w).edges ++ zs)) same are)
          ∙ ap (λ (zs : List FaceRow). list_all (is_known ((slice_of w).faces ++ zs)) sides.keys) (sym own) ∙ sym is ∙ e

      -- the rows that are kept are those beside an edge
      pub are_beside : (edges read : List Edge) (rows faces : List FaceRow) (sides : BTreeSet ℕ) → AreComing m edges → read ≡ edges → rows ≡ r.faces
          → AreSides sides (staying m (slice_of w).edges ++ read) → AllPairs (DifferBy (λ (f : FaceRow). f.face)) ((slice_of w).faces ++ rows)
          → faces ≡ filter (λ f. contains nat_cmp sides f.face) (sort_by face_before ((slice_of w).faces ++ rows))
          → faces ≡ rows_beside (edges_back area (slice_of w) r) ((slice_of w).faces ++ r.faces)
      are_beside edges read rows faces sides h same own are apart is =
          let back = edges_back area (slice_of w) r in
          let all = staying m (slice_of w).edges ++ edges in
          is
          ∙ rows_are all back ((slice_of w).faces ++ rows) sides (are_all edges h) (subst (λ (zs : List Edge). AreSides sides (staying m (slice_of w).edges ++ zs)) same are) apart
          ∙ ap (λ (zs : List FaceRow). rows_beside back ((slice_of w).faces ++ zs)) own

  -- the window one step back, by its step, faces and edges
  pub undone_in : (step : ℕ) (faces : List FaceRow) (edges : List Edge) → step ≡ w.step - 1 → edges ≡ edges_back area (slice_of w) r
      → faces ≡ rows_beside (edges_back area (slice_of w) r) ((slice_of w).faces ++ r.faces) → slice_with step faces edges ≡ undo_in area (slice_of w) r
  unfolding undo_in
  undone_in step faces edges at is rows =
      ap (λ (k : ℕ). slice_with k faces edges) at ∙ ap₂ (slice_with (w.step - 1)) rows is
