-- The faces beside the edges of a window are those faces of the slice that stand beside one of them.
use Rattle.std.proofs.Common.{◌≡◌, ◌≢◌, inl, inr, ℕ, zero, suc, ◌+◌, ◌<◌, ◌≤◌, ◌==◌, Bool, true, nat_eq, nat_cmp, nat_lt, List, [], ◌∷◌, map, filter, length, All, Contains, IsPermutation, refl, sym, ap, ◌∙◌, eq-eqb, arith}
use Rattle.std.specs.Prelude.{not, flat_map}
use Rattle.std.specs.List.{dedup, list_any, range_with_len}
use Rattle.std.specs.List.Sorted.{IsSorted}
use Rattle.std.proofs.lemmas.Bool.{eqb-true, eqb-false, not-true, not_from_false, false_from_ne_true, or_cases, or_left, or_right, lt-ltb}
use Rattle.std.proofs.lemmas.List.Elements.{All-contains}
use Rattle.std.proofs.lemmas.List.Sorted.{Contains-permutation, IsPermutation-sym}
use Rattle.std.proofs.lemmas.List.Kept.{AllPairs-from_increasing, Contains-dedup_nat, Contains-from_dedup, IsStrictlyIncreasing-filter}
use Rattle.std.proofs.lemmas.Map.Keys.{IsStrictlyIncreasing-dedup}
use Rattle.lemmas.specs.Sorting.{is_sorted_by}
use Rattle.lemmas.proofs.Members.{All-from_members, Contains-filter, Contains-from_filter}
use Rattle.lemmas.proofs.Orders.{nat_lt_order}
use Rattle.lemmas.proofs.Sorting.{sorted_cons, sorted_same, sorted_from_adjacent, filter-is_sorted}
use Rattle.tgap_model.specs.declared.slice.Edge.{Edge}
use Rattle.tgap_model.specs.declared.slice.FaceRow.{FaceRow}
use Rattle.tgap_model.specs.Base.{BaseMap, is_base}
use Rattle.tgap_model.specs.History.{history_of}
use Rattle.tgap_model.specs.Merged.{merged, label_at, is_live, live_faces}
use Rattle.tgap_model.specs.Chains.{arc_number, chains_at, key}
use Rattle.tgap_model.specs.Removals.{edge_of, edges_of, has_side, removals_to}
use Rattle.tgap_model.specs.Slice.{face_row}
use Rattle.map_laws.proofs.ChainMembers.{Among, any_among, filter_among}
use Rattle.map_laws.proofs.Lists.{all_members, any_from, kept_among, among_kept, map_among, among_flat, among_range}
use Rattle.map_laws.proofs.MergeSteps.{label_bounded}
use Rattle.removal_laws.proofs.ChainEnds.{contained, among_contained}
use Rattle.slice_laws.proofs.Coverage.{range_holds}
use Rattle.slice_laws.proofs.Outside.{outside_label}
use Rattle.grid_index.proofs.Ordering.{map-filter}
use Rattle.face_merge.proofs.Start.{history_numbered}
use Rattle.face_tree.specs.Tree.{FaceHistory, IsFace, face_history}
use Rattle.tgap_build.proofs.Sides.{arc_sides}
use Rattle.slice_read.specs.Windows.{AreBeside, all_sides, row_of, sides_of}

-- numbers in a row ascend
range_sorted : (a n : ℕ) → is_sorted_by nat_lt (range_with_len a n) ≡ true
range_sorted a zero = refl
range_sorted a (suc n) =
    sorted_cons nat_lt a (range_with_len (a + 1) n)
    (all_members (λ i. nat_lt a i ≡ true) (range_with_len (a + 1) n) (λ i m. let r = among_range (a + 1) n i m in lt-ltb a i (omega (arith, r.0))))
    (range_sorted (a + 1) n)

-- the sides, sorted, without repeats, and without the outside
pub beside_once : (t : FaceHistory) (edges : List Edge) (sorted once kept : List ℕ) (rows : List FaceRow) → IsPermutation (all_sides edges) sorted → IsSorted nat_cmp sorted
    → once ≡ dedup nat_eq sorted → kept ≡ filter (λ f. not (f == 0)) once → rows ≡ map (row_of t) kept → AreBeside t edges rows
beside_once t edges sorted once kept rows moved order same left are = record {
  faces = kept;
  ascend = rw (left, same) (IsStrictlyIncreasing-filter (λ f. not (f == 0)) (dedup nat_eq sorted) (IsStrictlyIncreasing-dedup sorted order));
  members = λ f. rw (left, same) (
    (λ c.
        let k = Contains-from_filter (λ f. not (f == 0)) (dedup nat_eq sorted) f c in
        Contains-filter (λ f. not (f == 0)) (all_sides edges) f
        (Contains-permutation sorted (all_sides edges) f (IsPermutation-sym (all_sides edges) sorted moved) (Contains-from_dedup nat_eq sorted f k.0)) k.1),
    (λ c.
        let k = Contains-from_filter (λ f. not (f == 0)) (all_sides edges) f c in
        Contains-filter (λ f. not (f == 0)) (dedup nat_eq sorted) f (Contains-dedup_nat sorted f (Contains-permutation (all_sides edges) sorted f moved k.0)) k.1),
  );
  each = are;
}

-- they are those faces that the sides are
pub beside_faces : (t : FaceHistory) (edges : List Edge) (sorted once kept : List ℕ) → IsPermutation (all_sides edges) sorted
    → once ≡ dedup nat_eq sorted → kept ≡ filter (λ f. not (f == 0)) once → All (IsFace t) (sides_of edges) → All (IsFace t) kept
beside_faces t edges sorted once kept moved same left faces =
    rw (left, same) (All-from_members (IsFace t) (filter (λ f. not (f == 0)) (dedup nat_eq sorted)) (λ f c.
    let k = Contains-from_filter (λ f. not (f == 0)) (dedup nat_eq sorted) f c in
    All-contains (IsFace t) (sides_of edges) f faces
    (Contains-filter (λ f. not (f == 0)) (all_sides edges) f
    (Contains-permutation sorted (all_sides edges) f (IsPermutation-sym (all_sides edges) sorted moved) (Contains-from_dedup nat_eq sorted f k.0)) k.1)))

-- a face at a side of one of the edges
side_there : (edges : List Edge) (f : ℕ) → f ≢ 0 → list_any (has_side f) edges ≡ true → Contains (sides_of edges) f
side_there edges f face beside =
    let e = any_among (has_side f) edges beside in
    Contains-filter (λ f. not (f == 0)) (all_sides edges) f
    (contained (all_sides edges) f
    (among_flat (λ (e : Edge). e.left ∷ e.right ∷ []) edges e.0 f e.1
    (elim (or_cases (e.0.left == f) (e.0.right == f) e.2) [ inl l ↦ inl (eqb-true _ _ l) | inr r ↦ inr (inl (eqb-true _ _ r)) ])))
    (not_from_false (f == 0) (false_from_ne_true (f == 0) (λ z. face (eqb-true _ _ z))))

side_beside : (edges : List Edge) (f : ℕ) → Contains (sides_of edges) f → (f ≢ 0) × (list_any (has_side f) edges ≡ true)
side_beside edges f c =
    let kept = Contains-from_filter (λ f. not (f == 0)) (all_sides edges) f c in
    (eqb-false _ _ (not-true _ kept.1), by edges (among_contained (all_sides edges) f kept.0))
  where
    by : (es : List Edge) → Among f (flat_map (λ (e : Edge). e.left ∷ e.right ∷ []) es) → list_any (has_side f) es ≡ true
    by [] n = absurd n
    by (e ∷ es) (inl s) = or_left (has_side f e) _ (or_left (e.left == f) _ (eq-eqb _ _ s))
    by (e ∷ es) (inr (inl s)) = or_left (has_side f e) _ (or_right (e.left == f) _ (eq-eqb _ _ s))
    by (e ∷ es) (inr (inr n)) = or_right (has_side f e) _ (by es n)

module _ (m : BaseMap) (base : is_base m ≡ true) (k : ℕ) (within : k ≤ length (history_of m)) where
  -- a label that is no outside is live
  label_live : (g f : ℕ) → g ≤ length m.classes → label_at (merged m) k g ≡ f → f ≢ 0 → Among f (live_faces (merged m) k)
  label_live g f small is face =
      among_kept (is_live (merged m) k) (range_with_len 1 (length m.classes + k)) f
      (range_holds 1 (length m.classes + k) f (omega arith) (omega (arith, is, label_bounded (length m.classes) (history_of m) k g (history_numbered m base) within small)))
      (any_from (λ g. label_at (merged m) k g == f) (range_with_len 1 (length m.classes)) g
      (range_holds 1 (length m.classes) g (omega (arith, inner)) (omega arith)) (eq-eqb _ _ is))
    where
      inner : g ≢ 0
      inner e = face (sym is ∙ ap (label_at (merged m) k) e ∙ outside_label m k)

  -- each side of an edge after k steps that is no outside is a live face
  pub side_live : (edges : List Edge) → ((e : Edge) → Among e edges → Among e (edges_of (merged m) k (removals_to (merged m) k) (chains_at (merged m) k)))
      → (f : ℕ) → f ≢ 0 → list_any (has_side f) edges ≡ true → Among f (live_faces (merged m) k)
  side_live edges of_slice f face beside =
      let e = any_among (has_side f) edges beside in
      let c = map_among (edge_of (merged m) k (removals_to (merged m) k)) (chains_at (merged m) k) e.0 (of_slice e.0 e.1) in
      let sides = arc_sides m base (key c.0) in
      elim (or_cases (e.0.left == f) (e.0.right == f) e.2) [
        | inl l ↦ label_live (arc_number m.arcs (key c.0)).left f sides.0 (ap (λ (e : Edge). e.left) c.2 ∙ eqb-true _ _ l) face
        | inr r ↦ label_live (arc_number m.arcs (key c.0)).right f sides.1 (ap (λ (e : Edge). e.right) c.2 ∙ eqb-true _ _ r) face
      ]

  pub sides_are_faces : (t : FaceHistory) → t ≡ face_history (merged m) → (edges : List Edge)
      → ((e : Edge) → Among e edges → Among e (edges_of (merged m) k (removals_to (merged m) k) (chains_at (merged m) k))) → All (IsFace t) (sides_of edges)
  sides_are_faces t history edges of_slice =
      rw history (all_members (IsFace (face_history (merged m))) (sides_of edges) (λ f n.
      let b = side_beside edges f (contained (sides_of edges) f n) in
      let r = range_of f (side_live edges of_slice f b.0 b.1) in
      record { above = omega (arith, r.0); below = omega (arith, r.1, within) }))
    where
      range_of : (f : ℕ) → Among f (live_faces (merged m) k) → (1 ≤ f) × (f < 1 + (length m.classes + k))
      range_of f n = among_range 1 (length m.classes + k) f (kept_among (is_live (merged m) k) (range_with_len 1 (length m.classes + k)) f n)

  -- so the rows are those of the slice
  pub window_faces : (t : FaceHistory) → t ≡ face_history (merged m) → (edges : List Edge)
      → ((e : Edge) → Among e edges → Among e (edges_of (merged m) k (removals_to (merged m) k) (chains_at (merged m) k)))
      → (rows : List FaceRow) → AreBeside t edges rows
      → rows ≡ filter (λ r. list_any (has_side r.face) edges) (map (face_row (merged m)) (live_faces (merged m) k))
  window_faces t history edges of_slice rows beside =
      beside.each ∙ ap (λ (u : FaceHistory). map (row_of u) beside.faces) history
      ∙ ap (map (face_row (merged m))) same
      ∙ map-filter (face_row (merged m)) is_beside (λ (r : FaceRow). list_any (has_side r.face) edges) (live_faces (merged m) k) (λ i d l. refl)
    where
      is_beside : ℕ → Bool
      is_beside f = list_any (has_side f) edges

      same : beside.faces ≡ filter is_beside (live_faces (merged m) k)
      same = sorted_same nat_lt_order beside.faces (filter is_beside (live_faces (merged m) k)) (λ i d l. tt) (λ i d l. tt)
          (sorted_from_adjacent nat_lt beside.faces (λ i d l. lt-ltb _ _ (AllPairs-from_increasing beside.faces beside.ascend i (i + 1) d (omega arith) l)))
          (filter-is_sorted nat_lt_order is_beside (live_faces (merged m) k) (λ i d l. tt) live_sorted)
          (λ f c. let b = side_beside edges f ((beside.members f).0 c) in
          contained (filter is_beside (live_faces (merged m) k)) f (among_kept is_beside (live_faces (merged m) k) f (side_live edges of_slice f b.0 b.1) b.1))
          (λ f c. let n = among_contained (filter is_beside (live_faces (merged m) k)) f c in
          let live = kept_among is_beside (live_faces (merged m) k) f n in
          let r = among_range 1 (length m.classes + k) f (kept_among (is_live (merged m) k) (range_with_len 1 (length m.classes + k)) f live) in
          (beside.members f).1 (side_there edges f (λ z. omega (arith, r.0, z)) (filter_among is_beside (live_faces (merged m) k) f n)))
        where
          live_sorted : is_sorted_by nat_lt (live_faces (merged m) k) ≡ true
          live_sorted = filter-is_sorted nat_lt_order (is_live (merged m) k) (range_with_len 1 (length m.classes + k)) (λ i d l. tt) (range_sorted 1 (length m.classes + k))
