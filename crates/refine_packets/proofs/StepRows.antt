-- The rows of the faces that a window gets anew by a step.
use Rattle.std.proofs.Common.{◌≡◌, ◌≢◌, inl, inr, ℕ, ◌+◌, ◌-◌, ◌<◌, ◌≤◌, ◌==◌, ◌&&◌, ◌||◌, Bool, true, false, not, nat_lt, nat_eq, List, [], ◌∷◌, map, filter, length, Contains, IsPermutation, eq-eqb, refl, sym, ap, ◌∙◌, arith}
use Rattle.std.specs.List.{dedup, list_any, range_with_len}
use Rattle.std.specs.List.Sorted.{IsSorted}
use Rattle.std.specs.Ordering.{nat_cmp}
use Rattle.std.proofs.lemmas.Bool.{and_parts, and_from, or_cases, cases_eq, eqb-true, lt-ltb, ltb-true, not-true, not_from_false, false_from_ne_true, true≢false}
use Rattle.std.proofs.lemmas.List.FromFn.{get_or-range_with_len, length-range_with_len}
use Rattle.std.proofs.lemmas.List.Elements.{All-contains}
use Rattle.std.proofs.lemmas.List.Sorted.{Contains-permutation, IsPermutation-sym}
use Rattle.std.proofs.lemmas.List.Kept.{AllPairs-from_increasing, Contains-dedup_nat, Contains-from_dedup, IsStrictlyIncreasing-filter}
use Rattle.std.proofs.lemmas.Map.Keys.{IsStrictlyIncreasing-dedup}
use Rattle.lemmas.specs.Sorting.{is_sorted_by}
use Rattle.lemmas.proofs.Members.{Contains-filter, Contains-from_filter}
use Rattle.lemmas.proofs.Orders.{nat_lt_order}
use Rattle.lemmas.proofs.Sorting.{sorted_same, sorted_from_adjacent, filter-is_sorted}
use Rattle.tgap_model.specs.declared.geometry.Window.{Window}
use Rattle.tgap_model.specs.declared.merge.MergeStep.{MergeStep}
use Rattle.tgap_model.specs.declared.slice.Edge.{Edge}
use Rattle.tgap_model.specs.declared.slice.FaceRow.{FaceRow}
use Rattle.tgap_model.specs.Base.{BaseMap, is_base}
use Rattle.tgap_model.specs.Partition.{IsPartition, base_segments}
use Rattle.tgap_model.specs.History.{history_of}
use Rattle.tgap_model.specs.Merged.{MergedMap, merged, step_number, is_live, live_faces}
use Rattle.tgap_model.specs.Chains.{chains_at}
use Rattle.tgap_model.specs.Removals.{edges_of, has_side, removals_to}
use Rattle.tgap_model.specs.Slice.{face_row, meets_window, window_of}
use Rattle.tgap_model.specs.Records.{has_face}
use Rattle.tgap_model.specs.WindowRecords.{window_at, window_step}
use Rattle.map_laws.proofs.ChainMembers.{Among, any_among, all_among, filter_among}
use Rattle.map_laws.proofs.Lists.{any_from, kept_among, among_kept, among_map, among_flat, among_range}
use Rattle.removal_laws.proofs.ChainEnds.{contained, among_contained}
use Rattle.grid_index.proofs.Ordering.{map-filter}
use Rattle.face_tree.specs.Tree.{FaceHistory, IsFace, face_history}
use Rattle.slice_read.specs.Windows.{all_sides, row_of, sides_of}
use Rattle.slice_read.proofs.WindowFaces.{side_live, sides_are_faces}
use Rattle.window_laws.proofs.Filters.{filter_twice}
use Rattle.window_laws.proofs.NewFaces.{window_faces_come_with_edges}
use Rattle.refine_packets.specs.Counts.{AreCounts, AreOut, count_at, is_out}
use Rattle.refine_packets.proofs.StepCounts.{beside_counts, counted_beside}

-- ---- sorted, once each, and filtered

pub out_once : (counts some sorted once kept : List ℕ) → IsPermutation some sorted → IsSorted nat_cmp sorted → once ≡ dedup nat_eq sorted
    → kept ≡ filter (is_out counts) once → AreOut counts some kept
out_once counts some sorted once kept moved order same left = record {
  ascend = rw (left, same) (IsStrictlyIncreasing-filter (is_out counts) (dedup nat_eq sorted) (IsStrictlyIncreasing-dedup sorted order));
  into = λ f. rw (left, same) (λ c.
      let k = Contains-from_filter (is_out counts) (dedup nat_eq sorted) f c in
      (Contains-permutation sorted some f (IsPermutation-sym some sorted moved) (Contains-from_dedup nat_eq sorted f k.0), k.1));
  all = λ f. rw (left, same) (λ c out.
      Contains-filter (is_out counts) (dedup nat_eq sorted) f (Contains-dedup_nat sorted f (Contains-permutation some sorted f moved c)) out);
}

-- a face beside one of the edges is one of their sides
beside_listed : (edges : List Edge) (f : ℕ) → list_any (has_side f) edges ≡ true → Among f (all_sides edges)
beside_listed edges f beside =
    let e = any_among (has_side f) edges beside in
    among_flat (λ (e : Edge). e.left ∷ e.right ∷ []) edges e.0 f e.1
    (elim (or_cases (e.0.left == f) (e.0.right == f) e.2) [ inl l ↦ inl (eqb-true _ _ l) | inr r ↦ inr (inl (eqb-true _ _ r)) ])

module _ (m : BaseMap) (base : is_base m ≡ true) (planar : IsPartition (base_segments m)) (i : ℕ) (within : i ≤ length (history_of m)) (area : Window) where
  -- the edges of a window are some of the slice
  of_slice : (e : Edge) → Among e (window_at (merged m) area i).edges → Among e (edges_of (merged m) i (removals_to (merged m) i) (chains_at (merged m) i))
  unfolding window_of
  of_slice e o = kept_among (meets_window area) (edges_of (merged m) i (removals_to (merged m) i) (chains_at (merged m) i)) e o

  -- a face beside one of them is live
  pub beside_live : (f : ℕ) → f ≢ 0 → list_any (has_side f) (window_at (merged m) area i).edges ≡ true → Among f (live_faces (merged m) i)
  beside_live f face beside = side_live m base i within (window_at (merged m) area i).edges of_slice f face beside

  -- and has a row; one that is beside none has none
  pub face_there : (f : ℕ) → f ≢ 0 → has_face (window_at (merged m) area i) f ≡ list_any (has_side f) (window_at (merged m) area i).edges
  unfolding window_of
  face_there f face = by (list_any (has_side f) edges) refl
    where
      edges : List Edge
      edges = filter (meets_window area) (edges_of (merged m) i (removals_to (merged m) i) (chains_at (merged m) i))

      rows : List FaceRow
      rows = map (face_row (merged m)) (live_faces (merged m) i)

      by : (b : Bool) → list_any (has_side f) edges ≡ b → list_any (λ r. r.face == f) (filter (λ r. list_any (has_side r.face) edges) rows) ≡ b
      by true beside =
          any_from (λ r. r.face == f) (filter (λ r. list_any (has_side r.face) edges) rows) (face_row (merged m) f)
          (among_kept (λ r. list_any (has_side r.face) edges) rows (face_row (merged m) f)
          (among_map (face_row (merged m)) (live_faces (merged m) i) f (side_live m base i within edges of_slice f face beside)) beside)
          (eq-eqb f f refl)
      by false beside = false_from_ne_true (list_any (λ r. r.face == f) (filter (λ r. list_any (has_side r.face) edges) rows)) (λ t.
          let r = any_among (λ (r : FaceRow). r.face == f) (filter (λ r. list_any (has_side r.face) edges) rows) t in
          true≢false (sym (filter_among (λ (r : FaceRow). list_any (has_side r.face) edges) rows r.0 r.1) ∙ ap (λ (g : ℕ). list_any (has_side g) edges) (eqb-true _ _ r.2) ∙ beside))

  -- a face that is counted, and no outside, is a face
  pub counted_face : (t : FaceHistory) → t ≡ face_history (merged m) → (counts : List ℕ) → AreCounts counts (window_at (merged m) area i).edges
      → (f : ℕ) → f ≢ 0 → 0 < count_at counts f → IsFace t f
  counted_face t tree counts are f face some =
      let beside = counted_beside f (window_at (merged m) area i).edges (omega (arith, are f, some)) in
      All-contains (IsFace t) (sides_of (window_at (merged m) area i).edges) f
      (sides_are_faces m base i within t tree (window_at (merged m) area i).edges of_slice)
      (Contains-filter (λ f. not (f == 0)) (all_sides (window_at (merged m) area i).edges) f
      (contained (all_sides (window_at (merged m) area i).edges) f (beside_listed (window_at (merged m) area i).edges f beside))
      (not_from_false (f == 0) (false_from_ne_true (f == 0) (λ z. face (eqb-true _ _ z)))))

-- a face that is out is no outside
pub out_face : (counts some out : List ℕ) → AreOut counts some out → (f : ℕ) → Contains out f → f ≢ 0
out_face counts some out are f c z =
    let is = and_parts (not (f == 0)) (count_at counts f == 0) (are.into f c).1 in
    true≢false (sym (eq-eqb f 0 z) ∙ not-true (f == 0) is.0)

module _ (m : BaseMap) (base : is_base m ≡ true) (planar : IsPartition (base_segments m)) (j : ℕ) (one : 1 ≤ j) (last : j ≤ length (history_of m)) (area : Window) where
  abbrev h : MergedMap
  h = merged m

  abbrev k : ℕ
  k = j - 1

  abbrev s : MergeStep
  s = step_number h j

  abbrev comes : List Edge
  comes = (window_step h area j).comes

  abbrev there : List Edge
  there = (window_at h area j).edges

  abbrev before : List Edge
  before = (window_at h area k).edges

  low : k ≤ length (history_of m)
  low = omega (arith, last)

  -- the face has no row in the window after the step, and one in the window before it
  abbrev is_new : ℕ → Bool
  is_new f = list_any (has_side f) before && not (has_face (window_at h area j) f)

  live_sorted : is_sorted_by nat_lt (live_faces h k) ≡ true
  live_sorted = filter-is_sorted nat_lt_order (is_live h k) (range_with_len 1 (length m.classes + k)) (λ i d l. tt) (range_ascends 1 (length m.classes + k))
    where
      range_ascends : (a n : ℕ) → is_sorted_by nat_lt (range_with_len a n) ≡ true
      range_ascends a n = sorted_from_adjacent nat_lt (range_with_len a n) (λ i d l.
          let long = length-range_with_len a n in
          lt-ltb _ _ (omega (arith, get_or-range_with_len a n i d (omega (arith, long, l)), get_or-range_with_len a n (i + 1) d (omega (arith, long, l)))))

  module _ (counts after out : List ℕ) (are : AreCounts counts (window_at (merged m) area j).edges) (left : AreCounts after (window_at (merged m) area (j - 1)).edges)
      (found : AreOut counts ((step_number (merged m) j).loser ∷ (step_number (merged m) j).winner ∷ all_sides (window_step (merged m) area j).comes) out) where
    abbrev counted : ℕ → Bool
    counted f = nat_lt 0 (count_at after f)

    into : (f : ℕ) → Contains (filter counted out) f → Contains (filter is_new (live_faces h k)) f
    into f c =
        let some = Contains-from_filter counted out f c in
        let face : f ≢ 0 = out_face counts _ out found f some.0 in
        let none = eqb-true _ _ (and_parts (not (f == 0)) (count_at counts f == 0) (found.into f some.0).1).1 in
        let beside = counted_beside f before (omega (arith, left f, ltb-true 0 (count_at after f) some.1)) in
        let apart : list_any (has_side f) there ≡ false = false_from_ne_true (list_any (has_side f) there) (λ t. omega (arith, beside_counts f there t, are f, none)) in
        Contains-filter is_new (live_faces h k) f (contained (live_faces h k) f (beside_live m base planar k low area f face beside))
        (and_from _ _ beside (not_from_false (has_face (window_at h area j) f) (face_there m base planar j last area f face ∙ apart)))

    row_new : (f : ℕ) → Among f (live_faces h k) → (list_any (has_side f) before ≡ true) × (not (has_face (window_at h area j) f) ≡ true) → Among (face_row h f) (window_step h area j).faces
    unfolding window_of
    row_new f live new =
        among_kept (λ r. not (has_face (window_at h area j) r.face)) (window_at h area k).faces (face_row h f)
        (among_kept (λ r. list_any (has_side r.face) before) (map (face_row h) (live_faces h k)) (face_row h f) (among_map (face_row h) (live_faces h k) f live) new.0)
        new.1

    back : (f : ℕ) → Contains (filter is_new (live_faces h k)) f → Contains (filter counted out) f
    back f c =
        let some = Contains-from_filter is_new (live_faces h k) f c in
        let new = and_parts (list_any (has_side f) before) (not (has_face (window_at h area j) f)) some.1 in
        let live = among_contained (live_faces h k) f some.0 in
        let range = among_range 1 (length m.classes + k) f (kept_among (is_live h k) (range_with_len 1 (length m.classes + k)) f live) in
        let face : f ≢ 0 = λ z. omega (arith, range.0, z) in
        let apart : list_any (has_side f) there ≡ false = sym (face_there m base planar j last area f face) ∙ not-true (has_face (window_at h area j) f) new.1 in
        let none : count_at counts f ≡ 0 = zero_or (count_at counts f) (λ z. true≢false (sym (counted_beside f there (omega (arith, are f, z))) ∙ apart)) in
        let out_is : is_out counts f ≡ true = and_from _ _ (not_from_false (f == 0) (false_from_ne_true (f == 0) (λ z. face (eqb-true _ _ z)))) (eq-eqb _ _ none) in
        Contains-filter counted out f (found.all f (listed f live new) out_is) (lt-ltb 0 (count_at after f) (omega (arith, beside_counts f before new.0, left f)))
      where
        zero_or : (n : ℕ) → (0 < n → ⊥) → n ≡ 0
        zero_or n none = elim (cases_eq n 0) [ inl z ↦ z | inr p ↦ absurd (none (omega arith)) ]

        listed : (f : ℕ) → Among f (live_faces h k) → (list_any (has_side f) before ≡ true) × (not (has_face (window_at h area j) f) ≡ true) → Contains (s.loser ∷ s.winner ∷ all_sides comes) f
        listed f live new =
            let known = all_among (λ (r : FaceRow). (r.face == s.loser) || (r.face == s.winner) || list_any (has_side r.face) comes) (window_step h area j).faces
            (face_row h f) (window_faces_come_with_edges m base planar j one last area) (row_new f live new) in
            contained (s.loser ∷ s.winner ∷ all_sides comes) f (elim (or_cases ((f == s.loser) || (f == s.winner)) (list_any (has_side f) comes) known) [
              | inl ends ↦ elim (or_cases (f == s.loser) (f == s.winner) ends) [
                | inl l ↦ inl (sym (eqb-true _ _ l))
                | inr w ↦ inr (inl (sym (eqb-true _ _ w)))
              ]
              | inr beside ↦ inr (inr (beside_listed comes f beside))
            ])

    same : filter counted out ≡ filter is_new (live_faces h k)
    same = sorted_same nat_lt_order (filter counted out) (filter is_new (live_faces h k)) (λ i d l. tt) (λ i d l. tt)
        (filter-is_sorted nat_lt_order counted out (λ i d l. tt)
        (sorted_from_adjacent nat_lt out (λ i d l. lt-ltb _ _ (AllPairs-from_increasing out found.ascend i (i + 1) d (omega arith) l))))
        (filter-is_sorted nat_lt_order is_new (live_faces h k) (λ i d l. tt) live_sorted)
        into back

    pub rows_are : (t : FaceHistory) → t ≡ face_history (merged m) → map (row_of t) (filter (λ f. nat_lt 0 (count_at after f)) out) ≡ (window_step (merged m) area j).faces
    unfolding window_of
    rows_are t tree =
        ap (λ (u : FaceHistory). map (row_of u) (filter counted out)) tree
        ∙ ap (map (face_row h)) same
        ∙ map-filter (face_row h) is_new (λ (r : FaceRow). list_any (has_side r.face) before && not (has_face (window_at h area j) r.face)) (live_faces h k) (λ i d l. refl)
        ∙ sym (filter_twice (λ (r : FaceRow). list_any (has_side r.face) before) (λ r. not (has_face (window_at h area j) r.face)) (map (face_row h) (live_faces h k)))
