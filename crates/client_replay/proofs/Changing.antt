-- A record undone on the tables of a slice.
use Rattle.std.proofs.Common.{◌≡◌, ℕ, ◌-◌, true, nat_lt, nat_cmp, List, ◌++◌, map, filter, AllPairs, IsPermutation, refl, sym, ap, ap₂, subst, ◌∙◌, Bool, ◌&&◌}
use Rattle.std.specs.Prelude.{⊤, ◌==◌, not}
use Rattle.std.specs.List.Sorted.{IsStrictlySortedBy, IsNonDecreasingBy}
use Rattle.std.specs.Map.{keys_of}
use Rattle.std.specs.List.{list_any}
use Rattle.std.proofs.lemmas.List.Elements.{All-filter}
use Rattle.lemmas.specs.Sorting.{is_sorted_by, sort_by}
use Rattle.lemmas.proofs.Sorting.{map-is_sorted, sorted_permutation}
use Rattle.tgap_model.specs.declared.slice.Edge.{Edge}
use Rattle.tgap_model.specs.declared.slice.FaceRow.{FaceRow}
use Rattle.tgap_model.specs.declared.slice.Slice.{Slice}
use Rattle.tgap_model.specs.declared.record.Mend.{Mend}
use Rattle.tgap_model.specs.declared.record.StepRecord.{StepRecord}
use Rattle.tgap_model.specs.Records.{edge_before, keys_ascend, undo, fits_mends, fits_keys}
use Rattle.client_replay.specs.declared.labels.Labels.{Labels}
use Rattle.client_replay.specs.declared.lines.Line.{Line}
use Rattle.client_replay.specs.declared.working.Working.{Working}
use Rattle.client_replay.specs.Coming.{faces_before, pieces_of, lowered, coming, staying, stays}
use Rattle.client_replay.specs.Rules.{are_in_order}
use Rattle.client_replay.specs.Working.{edge_of, edges_of, slice_of, AreLabelled, DifferInKey, IsSound}
use Rattle.client_replay.proofs.Found.{ascend_by}
use Rattle.client_replay.proofs.Apart.{edge_order, sorted_apart}
use Rattle.client_replay.proofs.Seventh.{all_edges_by, coming_by, seventh, undone_are}
use Rattle.client_replay.proofs.Tables.{ascend, filter-map}
use Rattle.client_replay.proofs.LineTables.{is_unnamed}
use Rattle.client_replay.proofs.Relabelled.{IsLabelled}

-- the edges stand in the order of their keys
pub lines_sorted : (t : Labels) (es : List (ℕ × Line)) → IsStrictlySortedBy nat_cmp (keys_of es) → is_sorted_by edge_before (edges_of t es) ≡ true
lines_sorted t es s = map-is_sorted (λ _. ⊤) (λ p q. nat_lt p.0 q.0) edge_before (edge_of t) (λ x y p q. refl) es (λ k d l. tt) ∙ ascend es s

pub lines_in_order : (t : Labels) (es : List (ℕ × Line)) → IsStrictlySortedBy nat_cmp (keys_of es) → are_in_order (edges_of t es) ≡ true
lines_in_order t es s = ascend_by (λ (e : Edge). e.key) (edges_of t es) ∙ lines_sorted t es s

-- lines that are left are labelled
pub left_labelled : (t : Labels) (mends : List Mend) (es left : List (ℕ × Line)) → AreLabelled t es → left ≡ filter (is_unnamed mends) es → AreLabelled t left
left_labelled t mends es left h is = subst (AreLabelled t) (sym is) (All-filter (is_unnamed mends) (λ p. IsLabelled t p.1) es h)

-- the edges that stay, by the lines that are left
pub left_stay : (r : StepRecord) (t : Labels) (es left : List (ℕ × Line)) → left ≡ filter (is_unnamed r.mends) es → map (lowered r) (edges_of t left) ≡ staying r (edges_of t es)
left_stay r t es left is =
    ap (λ (ps : List (ℕ × Line)). map (lowered r) (edges_of t ps)) is
    ∙ ap (map (lowered r)) (filter-map (edge_of t) (is_unnamed r.mends) (λ e. not (list_any (λ m. m.key == e.key) r.mends)) (λ p. refl) es)

-- edges in the order of their keys differ in these
pub in_order_apart : (edges : List Edge) → are_in_order edges ≡ true → AllPairs DifferInKey edges
in_order_apart edges h = sorted_apart (λ (e : Edge). e.key) edges (sym (ascend_by (λ (e : Edge). e.key) edges) ∙ h)

-- two lists in that order, of the same edges, are one
pub same_in_order : (t : Labels) (edges : List Edge) (es : List (ℕ × Line)) → are_in_order edges ≡ true → IsStrictlySortedBy nat_cmp (keys_of es)
    → IsPermutation edges (edges_of t es) → edges_of t es ≡ edges
same_in_order t edges es h s perm =
    sym (sorted_permutation edge_order edges (edges_of t es) (λ k d l. tt) (sym (ascend_by (λ (e : Edge). e.key) edges) ∙ h) (lines_sorted t es s) perm)

-- what the test of the keys of the edges that come says of the keys of all, where a mend cuts its edge so
pub keys_tested : (w : Working) (r : StepRecord) (cut : Edge → Mend → List Edge) (more : List Edge) → IsSound w → fits_mends (slice_of w) r ≡ true → (edges read : List Edge)
    → IsPermutation (coming_by r cut (slice_of w).edges more) edges → IsNonDecreasingBy (λ (e : Edge). e.key) edges → read ≡ edges → (answer told : Bool)
    → answer ≡ (are_in_order read && not (list_any (λ e. stays (slice_of w) r e.key) read)) → answer ≡ told
    → keys_ascend (map (λ e. e.key) (sort_by edge_before (all_edges_by r cut (slice_of w).edges more))) ≡ told
keys_tested w r cut more sound mends edges read perm rising same answer told is e =
    sym (seventh (slice_of w) r cut more (lines_in_order w.labels w.lines.entries sound.lines) mends edges perm rising)
    ∙ ap (λ (es : List Edge). are_in_order es && not (list_any (λ f. stays (slice_of w) r f.key) es)) (sym same) ∙ sym is ∙ e

-- of a record of whole slices it is rule 7
pub rule_tested : (w : Working) (r : StepRecord) → IsSound w → fits_mends (slice_of w) r ≡ true → (edges read : List Edge)
    → IsPermutation (coming (slice_of w) r) edges → IsNonDecreasingBy (λ (e : Edge). e.key) edges → read ≡ edges → (answer told : Bool)
    → answer ≡ (are_in_order read && not (list_any (λ e. stays (slice_of w) r e.key) read)) → answer ≡ told → fits_keys (slice_of w) r ≡ told
unfolding coming undo
rule_tested w r = keys_tested w r (pieces_of r) r.ended

abbrev pub slice_with : ℕ → List FaceRow → List Edge → Slice
slice_with step faces edges = record { step = step; faces = faces; edges = edges }

-- the slice one step back has those that stay and those that come, in the order of their keys
pub undone_is : (w : Working) (r : StepRecord) → IsSound w → fits_mends (slice_of w) r ≡ true → (edges : List Edge) → IsPermutation (coming (slice_of w) r) edges
    → (faces : List FaceRow) (all : List Edge) → faces ≡ faces_before (slice_of w).faces r → is_sorted_by edge_before all ≡ true
    → IsPermutation (staying r (slice_of w).edges ++ edges) all → slice_with (w.step - 1) faces all ≡ undo (slice_of w) r
unfolding coming undo
undone_is w r sound mends edges moved faces all f sorted perm =
    ap₂ (slice_with (w.step - 1)) f
    (sym (undone_are (slice_of w) r (pieces_of r) r.ended (lines_in_order w.labels w.lines.entries sound.lines) mends edges moved all sorted perm))
