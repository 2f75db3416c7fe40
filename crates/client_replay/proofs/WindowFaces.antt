-- The rows of a window one step back: those beside one of its edges.
use Rattle.std.proofs.Common.{◌≡◌, ⊎_elim, ℕ, Bool, true, false, ◌&&◌, ◌||◌, cond, nat_lt, nat_cmp, List, [], ◌∷◌, ◌++◌, map, filter, get_or, All, AllPairs, IsPermutation, refl, sym, ap, ap₂, subst, ◌∙◌, true≢false, ◌<◌, length}
use Rattle.std.specs.Prelude.{◌==◌, not}
use Rattle.std.specs.List.{list_all, list_any}
use Rattle.std.specs.BTreeMap.{is_at}
use Rattle.std.specs.BTreeSet.{BTreeSet, contains}
use Rattle.std.proofs.lemmas.List.{get_or_default}
use Rattle.std.proofs.lemmas.Bool.{and_parts, eqb-true, eq-eqb, or_cases, or_right, not-true}
use Rattle.std.specs.Cmp.Derive.{both_true}
use Rattle.std.proofs.lemmas.List.Folds.{Any-from_list_any, list_any-from_Any}
use Rattle.std.proofs.lemmas.List.Sorted.{list_any-IsPermutation}
use Rattle.std.proofs.lemmas.List.Sums.{AllPass-from_list_all, list_all-from_AllPass}
use Rattle.lemmas.specs.Sorting.{is_sorted_by, sort_by}
use Rattle.lemmas.proofs.Members.{AllPairs-append, filter_agree_on}
use Rattle.lemmas.proofs.Sorting.{filter-sort_by, list_any-sort_by}
use Rattle.tgap_model.specs.declared.geometry.Window.{Window}
use Rattle.tgap_model.specs.declared.slice.Edge.{Edge}
use Rattle.tgap_model.specs.declared.slice.FaceRow.{FaceRow}
use Rattle.tgap_model.specs.declared.slice.Slice.{Slice}
use Rattle.tgap_model.specs.declared.window_record.WindowStep.{WindowStep}
use Rattle.tgap_model.specs.Removals.{has_side}
use Rattle.tgap_model.specs.Records.{face_before, has_face}
use Rattle.tgap_model.specs.WindowRecords.{edges_back, rows_beside, fits_rows, undo_in}
use Rattle.client_replay.specs.Windows.{AreSides, is_known}
use Rattle.client_replay.specs.Working.{DifferBy}
use Rattle.client_replay.proofs.Apart.{differ_in_key, sorted_apart}
use Rattle.client_replay.proofs.FaceRows.{face_order}
use Rattle.client_replay.proofs.Form.{none_has}
use Rattle.client_replay.proofs.Found.{ascend_by}
use Rattle.client_replay.proofs.Tables.{at_is}
use Rattle.client_replay.proofs.WindowRules.{ComesFacts}

-- two tests with the same outcome
same_outcome : (a b : Bool) → (a ≡ true → b ≡ true) → (b ≡ true → a ≡ true) → a ≡ b
same_outcome true b into back = sym (into refl)
same_outcome false true into back = back refl
same_outcome false false into back = refl

-- a filter keeps what a test asks for
any_filtered : {A : Type 0} (q p : A → Bool) (xs : List A) → ((x : A) → q x ≡ true → p x ≡ true) → list_any q (filter p xs) ≡ list_any q xs
any_filtered q p [] keeps = refl
any_filtered {A} q p (x ∷ xs) keeps = by (p x) (q x) refl (keeps x) (any_filtered q p xs keeps)
  where
    by : (b c : Bool) → q x ≡ c → (q x ≡ true → b ≡ true) → list_any q (filter p xs) ≡ list_any q xs → list_any q (cond b (x ∷ filter p xs) (filter p xs)) ≡ (c || list_any q xs)
    by true c e stays rest = ap₂ (λ (v w : Bool). v || w) e rest
    by false true e stays rest = absurd (true≢false (sym (stays e)))
    by false false e stays rest = rest

all_alike : {A : Type 0} (p q : A → Bool) (xs : List A) → All (λ x. p x ≡ q x) xs → list_all p xs ≡ list_all q xs
all_alike p q xs h =
    same_outcome (list_all p xs) (list_all q xs)
    (λ t. list_all-from_AllPass q xs (λ k d l. sym (h k d l) ∙ AllPass-from_list_all p xs t k d l))
    (λ t. list_all-from_AllPass p xs (λ k d l. h k d l ∙ AllPass-from_list_all q xs t k d l))

itself : (n : ℕ) → (n == n) ≡ true
itself n = eq-eqb n n refl

-- a member of some edges stands beside its faces
beside_left : (edges : List Edge) → All (λ e. list_any (has_side e.left) edges ≡ true) edges
beside_left edges k d l =
    let e = get_or edges k d in
    list_any-from_Any (has_side e.left) edges (k, e, l, get_or_default edges k e d l, ap (λ (b : Bool). b || (e.right == e.left)) (itself e.left))

beside_right : (edges : List Edge) → All (λ e. list_any (has_side e.right) edges ≡ true) edges
beside_right edges k d l =
    let e = get_or edges k d in
    list_any-from_Any (has_side e.right) edges (k, e, l, get_or_default edges k e d l, or_right (e.left == e.right) (e.right == e.right) (itself e.right))

-- a face beside an edge has a row beside one where it has any
known_beside : (edges : List Edge) (rows : List FaceRow) (f : ℕ) → list_any (has_side f) edges ≡ true → is_known (rows_beside edges rows) f ≡ is_known rows f
known_beside edges rows f beside =
    ap (λ (b : Bool). (f == 0) || b)
    (list_any-sort_by face_before (λ g. g.face == f) (filter (λ g. list_any (has_side g.face) edges) rows)
    ∙ any_filtered (λ g. g.face == f) (λ g. list_any (has_side g.face) edges) rows (λ g same. ap (λ n. list_any (has_side n) edges) (eqb-true g.face f same) ∙ beside))

-- both faces of an edge are known
abbrev both_known : List FaceRow → Edge → Bool
both_known rows e = is_known rows e.left && is_known rows e.right

rows_alike : (edges : List Edge) (rows : List FaceRow) → list_all (both_known (rows_beside edges rows)) edges ≡ list_all (both_known rows) edges
rows_alike edges rows =
    all_alike (both_known (rows_beside edges rows)) (both_known rows) edges
    (λ k d l. let e = get_or edges k d in ap₂ (λ (a b : Bool). a && b) (known_beside edges rows e.left (beside_left edges k d l)) (known_beside edges rows e.right (beside_right edges k d l)))

-- the faces of a set are those beside some edges
module _ (rows : List FaceRow) (edges : List Edge) (sides : BTreeSet ℕ) (are : AreSides sides edges) where
  -- each face of the set is beside an edge
  of_edges : list_all (both_known rows) edges ≡ true → All (λ f. is_known rows f ≡ true) sides.keys
  of_edges all k d l =
      let f = get_or sides.keys k d in
      let there : contains nat_cmp sides f ≡ true = list_any-from_Any (λ n. is_at (nat_cmp f) n) sides.keys (k, f, l, get_or_default sides.keys k f d l, at_is f f ∙ itself f) in
      let (i, e, m, at, side) = Any-from_list_any (has_side f) edges (sym (are f) ∙ there) in
      let both = and_parts (is_known rows e.left) (is_known rows e.right) (subst (λ g. both_known rows g ≡ true) at (AllPass-from_list_all (both_known rows) edges all i e m)) in
      ⊎_elim (λ t. ap (is_known rows) (sym (eqb-true e.left f t)) ∙ both.0) (λ t. ap (is_known rows) (sym (eqb-true e.right f t)) ∙ both.1)
      (or_cases (e.left == f) (e.right == f) side)

  -- and each face beside an edge is in the set
  of_sides : list_all (is_known rows) sides.keys ≡ true → (f : ℕ) → list_any (has_side f) edges ≡ true → is_known rows f ≡ true
  of_sides all f beside =
      let (i, g, m, at, same) = Any-from_list_any (λ n. is_at (nat_cmp f) n) sides.keys (are f ∙ beside) in
      ap (is_known rows) (sym (eqb-true g f (sym (at_is f g) ∙ same))) ∙ subst (λ n. is_known rows n ≡ true) at (AllPass-from_list_all (is_known rows) sides.keys all i g m)

  known_sides : list_all (both_known rows) edges ≡ list_all (is_known rows) sides.keys
  known_sides =
      same_outcome (list_all (both_known rows) edges) (list_all (is_known rows) sides.keys)
      (λ t. list_all-from_AllPass (is_known rows) sides.keys (of_edges t))
      (λ t. list_all-from_AllPass (both_known rows) edges (λ k d l. both_true (of_sides t (get_or edges k d).left (beside_left edges k d l)) (of_sides t (get_or edges k d).right (beside_right edges k d l))))

-- what the test of the sides says of the last rule
pub rows_tested : (area : Window) (s : Slice) (r : WindowStep) (edges : List Edge) (sides : BTreeSet ℕ) → IsPermutation (edges_back area s r) edges → AreSides sides edges
    → fits_rows area s r ≡ list_all (is_known (s.faces ++ r.faces)) sides.keys
unfolding undo_in
rows_tested area s r edges sides perm are =
    rows_alike (edges_back area s r) (s.faces ++ r.faces)
    ∙ known_sides (s.faces ++ r.faces) (edges_back area s r) sides (λ f. are f ∙ sym (list_any-IsPermutation (has_side f) (edges_back area s r) edges perm))

-- the rows of the slice and those of the record differ in their faces
pub rows_apart : (s : Slice) (r : WindowStep) → is_sorted_by nat_lt (map (λ f. f.face) s.faces) ≡ true → ComesFacts s r → AllPairs (DifferBy (λ (f : FaceRow). f.face)) (s.faces ++ r.faces)
rows_apart s r order facts =
    let key : FaceRow → ℕ = λ f. f.face in
    AllPairs-append (DifferBy key) s.faces r.faces
    (sorted_apart key s.faces (sym (ascend_by key s.faces) ∙ order)) (sorted_apart key r.faces (sym (ascend_by key r.faces) ∙ facts.order))
    (λ i x m k d l.
    let g = get_or r.faces k d in
    let new = and_parts (not (g.face == 0)) (not (has_face s g.face)) (AllPass-from_list_all (λ f. not (f.face == 0) && not (has_face s f.face)) r.faces facts.new k d l) in
    differ_in_key key (get_or s.faces i x) g (λ same. none_has g.face s.faces (not-true (has_face s g.face) new.1) i x m (sym same)))

-- those of all rows that the set has are the rows beside an edge
pub rows_are : (edges back : List Edge) (rows : List FaceRow) (sides : BTreeSet ℕ) → IsPermutation back edges → AreSides sides edges → AllPairs (DifferBy (λ (f : FaceRow). f.face)) rows
    → filter (λ f. contains nat_cmp sides f.face) (sort_by face_before rows) ≡ rows_beside back rows
rows_are edges back rows sides perm are apart =
    filter_agree_on (λ f. contains nat_cmp sides f.face) (λ f. list_any (has_side f.face) back) (sort_by face_before rows)
    (λ k d l. let n = (get_or (sort_by face_before rows) k d).face in are n ∙ sym (list_any-IsPermutation (has_side n) back edges perm))
    ∙ filter-sort_by face_order (λ f. list_any (has_side f.face) back) rows (λ k d l. tt) apart
