-- The rows of a window and the new ones of its record, less those beside no edge, are the rows of the window one step before.
use Rattle.std.proofs.Common.{◌≡◌, ◌≢◌, inl, inr, ℕ, zero, suc, ◌+◌, ◌-◌, ◌≤◌, ◌==◌, ◌&&◌, Bool, true, false, not, nat_lt, List, ◌++◌, map, filter, length, IsPermutation, eq-eqb, refl, sym, ap, ap₂, ◌∙◌, subst, arith}
use Rattle.std.specs.Prelude.{⊤}
use Rattle.std.specs.List.{list_all, list_any, range_with_len}
use Rattle.std.proofs.lemmas.Bool.{and_from, or_cases, eqb-true, lt-ltb, not_from_false, false_from_ne_true}
use Rattle.std.proofs.lemmas.List.Elements.{filter-append}
use Rattle.std.proofs.lemmas.List.Sorted.{IsPermutation-filter_both, IsPermutation-sym}
use Rattle.lemmas.specs.Sorting.{is_sorted_by}
use Rattle.lemmas.proofs.Orders.{nat_lt_order, order_by_key}
use Rattle.lemmas.proofs.Sorting.{filter-is_sorted, map-is_sorted, sort_by-permuted, sorted_cons}
use Rattle.tgap_model.specs.declared.slice.Edge.{Edge}
use Rattle.tgap_model.specs.declared.slice.FaceRow.{FaceRow}
use Rattle.tgap_model.specs.Base.{BaseMap, is_base}
use Rattle.tgap_model.specs.Partition.{IsPartition, base_segments}
use Rattle.tgap_model.specs.History.{history_of}
use Rattle.tgap_model.specs.Merged.{MergedMap, merged, label_at, is_live, live_faces}
use Rattle.tgap_model.specs.Chains.{Chain, arc_number, key, chains_at}
use Rattle.tgap_model.specs.Removals.{edge_of, has_side, removals_to}
use Rattle.tgap_model.specs.Slice.{face_row}
use Rattle.tgap_model.specs.Records.{face_before}
use Rattle.tgap_model.specs.WindowRecords.{rows_beside}
use Rattle.map_laws.proofs.ChainMembers.{Among, any_among, filter_among, sorted_same}
use Rattle.map_laws.proofs.Lists.{all_members, all_from, any_from, kept_among, among_kept, map_among, among_map, among_range}
use Rattle.slice_laws.proofs.Coverage.{range_holds}
use Rattle.slice_laws.proofs.Outside.{outside_label}
use Rattle.record_laws.proofs.FaceRows.{label_small}
use Rattle.record_laws.proofs.StepFacts.{few, arc_faces, key_within}
use Rattle.window_laws.proofs.Filters.{filter_whole}

-- ---- the rows of a slice

range_sorted : (a n : ℕ) → is_sorted_by nat_lt (range_with_len a n) ≡ true
range_sorted a zero = refl
range_sorted a (suc n) =
    sorted_cons nat_lt a (range_with_len (a + 1) n)
    (all_members (λ i. nat_lt a i ≡ true) (range_with_len (a + 1) n) (λ i o. let r = among_range (a + 1) n i o in lt-ltb a i (omega (arith, r.0))))
    (range_sorted (a + 1) n)

rows_sorted : (h : MergedMap) (i : ℕ) → is_sorted_by face_before (map (face_row h) (live_faces h i)) ≡ true
rows_sorted h i =
    map-is_sorted (λ (f : ℕ). ⊤) nat_lt face_before (face_row h) (λ f g p q. refl) (live_faces h i) (all_members (λ (f : ℕ). ⊤) (live_faces h i) (λ f o. tt))
    ∙ filter-is_sorted nat_lt_order (is_live h i) (range_with_len 1 (length h.base.classes + i))
    (all_members (λ (f : ℕ). ⊤) (range_with_len 1 (length h.base.classes + i)) (λ f o. tt)) (range_sorted 1 (length h.base.classes + i))

kept_sorted : (p : FaceRow → Bool) (rows : List FaceRow) → is_sorted_by face_before rows ≡ true → is_sorted_by face_before (filter p rows) ≡ true
kept_sorted p rows s =
    filter-is_sorted {P = λ (f : FaceRow). ⊤} {before = face_before} (order_by_key (λ (f : FaceRow). f.face) nat_lt_order) p rows
    (all_members (λ (f : FaceRow). ⊤) rows (λ f o. tt)) s

-- the number of a live face is no outside
live_face : (h : MergedMap) (i f : ℕ) → Among f (live_faces h i) → f ≢ 0
live_face h i f o = let r = among_range 1 (length h.base.classes + i) f (kept_among (is_live h i) (range_with_len 1 (length h.base.classes + i)) f o) in λ e. omega (arith, r.0, e)

-- a face without a row has none among fewer
pub no_row : (p : FaceRow → Bool) (rows : List FaceRow) (f : ℕ) → list_any (λ r. r.face == f) rows ≡ false → list_any (λ r. r.face == f) (filter p rows) ≡ false
no_row p rows f none = false_from_ne_true (list_any (λ r. r.face == f) (filter p rows)) (λ t.
    let r = any_among (λ (r : FaceRow). r.face == f) (filter p rows) t in
    let some : list_any (λ r. r.face == f) rows ≡ true = any_from (λ r. r.face == f) rows r.0 (kept_among p rows r.0 r.1) r.2 in
    absurd cc)

-- ---- the rows of two windows

module _ (m : BaseMap) (base : is_base m ≡ true) (planar : IsPartition (base_segments m)) (j : ℕ) (one : 1 ≤ j) (last : j ≤ length (history_of m)) where
  abbrev h : MergedMap
  h = merged m

  abbrev k : ℕ
  k = j - 1

  abbrev edge_back : Chain → Edge
  edge_back c = edge_of h k (removals_to h k) c

  -- a label that is no outside is live
  label_live : (g f : ℕ) → g ≤ length m.classes → label_at h k g ≡ f → f ≢ 0 → Among f (live_faces h k)
  label_live g f small is face =
      among_kept (is_live h k) (range_with_len 1 (length m.classes + k)) f
      (range_holds 1 (length m.classes + k) f (omega arith) (omega (arith, is, label_small m base k (few m base planar j one last) g small)))
      (any_from (λ g. label_at h k g == f) (range_with_len 1 (length m.classes)) g
      (range_holds 1 (length m.classes) g (omega (arith, inner)) (omega arith)) (eq-eqb _ _ is))
    where
      inner : g ≢ 0
      inner e = face (sym is ∙ ap (label_at h k) e ∙ outside_label m k)

  -- some edges of the slice before the step, and some others
  module _ (before there : List Edge) (of_slice : (e : Edge) → Among e before → Among e (map edge_back (chains_at h k))) where
    -- each side of one of them that is no outside is a live face
    side_live : (f : ℕ) → f ≢ 0 → list_any (has_side f) before ≡ true → Among f (live_faces h k)
    side_live f face beside =
        let e = any_among (has_side f) before beside in
        let c = map_among edge_back (chains_at h k) e.0 (of_slice e.0 e.1) in
        let sides = arc_faces m base planar j one last (key c.0) (key_within m base planar j one last k c.0 c.1) in
        elim (or_cases (e.0.left == f) (e.0.right == f) e.2) [
          | inl l ↦ label_live (arc_number m.arcs (key c.0)).left f sides.0 (ap (λ (e : Edge). e.left) c.2 ∙ eqb-true _ _ l) face
          | inr r ↦ label_live (arc_number m.arcs (key c.0)).right f sides.1 (ap (λ (e : Edge). e.right) c.2 ∙ eqb-true _ _ r) face
        ]

    abbrev all_before : List FaceRow
    all_before = map (face_row h) (live_faces h k)

    abbrev all_there : List FaceRow
    all_there = map (face_row h) (live_faces h j)

    abbrev is_beside : FaceRow → Bool
    is_beside r = list_any (has_side r.face) before

    abbrev rows_before : List FaceRow
    rows_before = filter is_beside all_before

    abbrev rows_there : List FaceRow
    rows_there = filter (λ r. list_any (has_side r.face) there) all_there

    abbrev is_known : FaceRow → Bool
    is_known r = list_any (λ q. q.face == r.face) rows_there

    -- the rows of a record: those that are not known
    abbrev new_rows : List FaceRow
    new_rows = filter (λ r. not (is_known r)) rows_before

    -- the known rows beside an edge
    old_is : filter is_beside rows_there ≡ filter is_known rows_before
    old_is =
        sorted_same (λ (f : FaceRow). f.face) (filter is_beside rows_there) (filter is_known rows_before)
        (kept_sorted is_beside rows_there (kept_sorted (λ r. list_any (has_side r.face) there) all_there (rows_sorted h j)))
        (kept_sorted is_known rows_before (kept_sorted is_beside all_before (rows_sorted h k)))
        into back
      where
        into : (r : FaceRow) → Among r (filter is_beside rows_there) → Among r (filter is_known rows_before)
        into r o =
            let here : Among r rows_there = kept_among is_beside rows_there r o in
            let beside : is_beside r ≡ true = filter_among is_beside rows_there r o in
            let f = map_among (face_row h) (live_faces h j) r (kept_among (λ r. list_any (has_side r.face) there) all_there r here) in
            let live : Among f.0 (live_faces h k)
            = side_live f.0 (live_face h j f.0 f.1) (ap (λ (r : FaceRow). is_beside r) f.2 ∙ beside) in
            among_kept is_known rows_before r
            (among_kept is_beside all_before r (subst (λ (r : FaceRow). Among r all_before) f.2 (among_map (face_row h) (live_faces h k) f.0 live)) beside)
            (any_from (λ q. q.face == r.face) rows_there r here (eq-eqb r.face r.face refl))

        back : (r : FaceRow) → Among r (filter is_known rows_before) → Among r (filter is_beside rows_there)
        back r o =
            let here : Among r rows_before = kept_among is_known rows_before r o in
            let q = any_among (λ (q : FaceRow). q.face == r.face) rows_there (filter_among is_known rows_before r o) in
            let f = map_among (face_row h) (live_faces h j) q.0 (kept_among (λ r. list_any (has_side r.face) there) all_there q.0 q.1) in
            let g = map_among (face_row h) (live_faces h k) r (kept_among is_beside all_before r here) in
            let number : f.0 ≡ g.0 = ap (λ (x : FaceRow). x.face) f.2 ∙ eqb-true _ _ q.2 ∙ ap (λ (x : FaceRow). x.face) (sym g.2) in
            let same : q.0 ≡ r = sym f.2 ∙ ap (face_row h) number ∙ g.2 in
            among_kept is_beside rows_there r (subst (λ (x : FaceRow). Among x rows_there) same q.1) (filter_among is_beside all_before r here)

    new_is : filter is_beside new_rows ≡ new_rows
    new_is = filter_whole is_beside new_rows (λ r o. filter_among is_beside all_before r (kept_among (λ r. not (is_known r)) rows_before r o))

    both_are : filter is_beside (rows_there ++ new_rows) ≡ filter is_known rows_before ++ new_rows
    both_are = filter-append is_beside rows_there new_rows ∙ ap₂ (λ (xs ys : List FaceRow). xs ++ ys) old_is new_is

    before_sorted : is_sorted_by face_before rows_before ≡ true
    before_sorted = kept_sorted is_beside all_before (rows_sorted h k)

    -- the rows of the window before the step
    pub rows_back : rows_beside before
        (filter (λ r. list_any (has_side r.face) there) (map (face_row (merged m)) (live_faces (merged m) j))
        ++ filter (λ r. not (list_any (λ q. q.face == r.face) (filter (λ r. list_any (has_side r.face) there) (map (face_row (merged m)) (live_faces (merged m) j)))))
        (filter (λ r. list_any (has_side r.face) before) (map (face_row (merged m)) (live_faces (merged m) (j - 1)))))
        ≡ filter (λ r. list_any (has_side r.face) before) (map (face_row (merged m)) (live_faces (merged m) (j - 1)))
    rows_back =
        sort_by-permuted {P = λ (f : FaceRow). ⊤} {before = face_before} (order_by_key (λ (f : FaceRow). f.face) nat_lt_order)
        (filter is_beside (rows_there ++ new_rows)) rows_before
        (all_members (λ (f : FaceRow). ⊤) (filter is_beside (rows_there ++ new_rows)) (λ f o. tt)) before_sorted
        (subst (λ (rows : List FaceRow). IsPermutation rows rows_before) (sym both_are)
        (IsPermutation-sym rows_before (filter is_known rows_before ++ new_rows) (IsPermutation-filter_both is_known (λ r. not (is_known r)) (λ r. refl) rows_before)))

    -- ---- what the rules ask

    pub new_sorted : is_sorted_by face_before
        (filter (λ r. not (list_any (λ q. q.face == r.face) (filter (λ r. list_any (has_side r.face) there) (map (face_row (merged m)) (live_faces (merged m) j)))))
        (filter (λ r. list_any (has_side r.face) before) (map (face_row (merged m)) (live_faces (merged m) (j - 1))))) ≡ true
    new_sorted = kept_sorted (λ r. not (is_known r)) rows_before before_sorted

    pub new_fit : list_all (λ r. not (r.face == 0)
        && not (list_any (λ q. q.face == r.face) (filter (λ r. list_any (has_side r.face) there) (map (face_row (merged m)) (live_faces (merged m) j)))))
        (filter (λ r. not (list_any (λ q. q.face == r.face) (filter (λ r. list_any (has_side r.face) there) (map (face_row (merged m)) (live_faces (merged m) j)))))
        (filter (λ r. list_any (has_side r.face) before) (map (face_row (merged m)) (live_faces (merged m) (j - 1))))) ≡ true
    new_fit = all_from (λ r. not (r.face == 0) && not (is_known r)) new_rows (λ r o.
        let f = map_among (face_row h) (live_faces h k) r (kept_among is_beside all_before r (kept_among (λ r. not (is_known r)) rows_before r o)) in
        and_from (not (r.face == 0)) (not (is_known r))
        (not_from_false (r.face == 0) (false_from_ne_true (r.face == 0) (λ z. live_face h k f.0 f.1 (ap (λ (x : FaceRow). x.face) f.2 ∙ eqb-true _ _ z))))
        (filter_among (λ r. not (is_known r)) rows_before r o))

    -- a face beside an edge has a row
    pub row_there : (f : ℕ) → f ≢ 0 → list_any (has_side f) before ≡ true
        → list_any (λ r. r.face == f) (filter (λ r. list_any (has_side r.face) before) (map (face_row (merged m)) (live_faces (merged m) (j - 1)))) ≡ true
    row_there f face beside =
        any_from (λ r. r.face == f) rows_before (face_row h f)
        (among_kept is_beside all_before (face_row h f) (among_map (face_row h) (live_faces h k) f (side_live f face beside)) beside)
        (eq-eqb f f refl)
