-- The edges of the window of a slice, led back by the record of the window, are those of the window one step before.
use Rattle.std.proofs.Common.{◌≡◌, ℕ, ◌-◌, ◌≤◌, ◌==◌, ◌&&◌, ◌||◌, Bool, true, false, not, nat_lt, cond, List, [], ◌∷◌, ◌++◌, map, filter, length, IsPermutation, eq-eqb, refl, sym, ap, ap₂, ◌∙◌, subst}
use Rattle.std.specs.Prelude.{⊤, flat_map, Option, Some, None}
use Rattle.std.proofs.lemmas.Bool.{eqb-true, false_from_ne_true}
use Rattle.std.proofs.lemmas.List.{append-nil}
use Rattle.std.proofs.lemmas.List.Elements.{filter-append}
use Rattle.lemmas.specs.Sorting.{sort_by, is_sorted_by}
use Rattle.lemmas.proofs.Orders.{nat_lt_order, order_by_key}
use Rattle.lemmas.proofs.Permutations.{IsPermutation-filter}
use Rattle.lemmas.proofs.Sorting.{filter-is_sorted, map-is_sorted, sort_by-permutation, sort_by-permuted}
use Rattle.tgap_model.specs.declared.geometry.Point.{Point}
use Rattle.tgap_model.specs.declared.geometry.Window.{Window}
use Rattle.tgap_model.specs.declared.merge.MergeStep.{MergeStep}
use Rattle.tgap_model.specs.declared.slice.Edge.{Edge}
use Rattle.tgap_model.specs.declared.record.Piece.{Piece}
use Rattle.tgap_model.specs.declared.record.Mend.{Mend}
use Rattle.tgap_model.specs.declared.record.StepRecord.{StepRecord}
use Rattle.tgap_model.specs.declared.window_record.WindowStep.{WindowStep}
use Rattle.tgap_model.specs.Base.{BaseMap, is_base}
use Rattle.tgap_model.specs.Partition.{IsPartition, base_segments}
use Rattle.tgap_model.specs.History.{history_of}
use Rattle.tgap_model.specs.Merged.{MergedMap, merged, step_number}
use Rattle.tgap_model.specs.Chains.{Chain, key, chains_at}
use Rattle.tgap_model.specs.Removals.{edge_of, removals_to}
use Rattle.tgap_model.specs.Slice.{meets_window, window_of, slice}
use Rattle.tgap_model.specs.Records.{is_edge_between, runs, step_record, put_in, in_place_of, cut_piece, cut_pieces, mend_for, refined, edge_before}
use Rattle.tgap_model.specs.WindowRecords.{window_at, has_key, key_after, is_coming, window_step, whole_record, refined_in, edges_back}
use Rattle.map_laws.proofs.ChainMembers.{Among, any_among, filter_among}
use Rattle.map_laws.proofs.ChainLinks.{chains_sorted}
use Rattle.map_laws.proofs.ChainsExist.{chains_exist}
use Rattle.map_laws.proofs.Lists.{all_members, any_from, kept_among, among_kept, map_among, among_map}
use Rattle.record_laws.specs.RunLaws.{chain_of_run}
use Rattle.record_laws.proofs.Holders.{same_key}
use Rattle.record_laws.proofs.Refined.{refined_is}
use Rattle.record_laws.proofs.UndoStep.{edges_back as whole_edges_back}
use Rattle.window_laws.specs.WindowLaws.{WindowComesAre}
use Rattle.window_laws.proofs.ComesOf.{not_between, comes_of}
use Rattle.window_laws.proofs.Filters.{mapped_each, filter-flat_map, flat_map-filter, flat_map-agree, filter_and, filter_twice, find_filtered, both_parts}

module _ (m : BaseMap) (base : is_base m ≡ true) (planar : IsPartition (base_segments m)) (j : ℕ) (one : 1 ≤ j) (last : j ≤ length (history_of m)) where
  abbrev h : MergedMap
  h = merged m

  abbrev k : ℕ
  k = j - 1

  abbrev s : MergeStep
  s = step_number h j

  abbrev finer : List Chain
  finer = chains_at h k

  abbrev edge_here : Chain → Edge
  edge_here c = edge_of h j (removals_to h j) c

  abbrev edge_back : Chain → Edge
  edge_back c = edge_of h k (removals_to h k) c

  abbrev record_here : StepRecord
  record_here = step_record h j

  module _ (area : Window) where
    abbrev meets : Edge → Bool
    meets e = meets_window area e

    -- the edges of the window after the step, and before it
    abbrev there : List Edge
    there = filter meets (map edge_here (chains_at h j))

    abbrev before : List Edge
    before = filter meets (map edge_back finer)

    abbrev coming : Edge → Bool
    coming e = is_coming h j there e

    -- the record of the window
    abbrev record_in : WindowStep
    record_in = record {
      step = j;
      loser = s.loser;
      winner = s.winner;
      made = s.made;
      faces = (window_step (merged m) area j).faces;
      mends = filter (λ w. has_key there w.key) record_here.mends;
      comes = filter coming before;
    }

    -- an edge is in the window where the key of its chain is there
    pub key_there : (c : Chain) → Among c (chains_at (merged m) j)
        → has_key (filter (meets_window area) (map (edge_of (merged m) j (removals_to (merged m) j)) (chains_at (merged m) j))) (key c)
        ≡ meets_window area (edge_of (merged m) j (removals_to (merged m) j) c)
    key_there c n = by (meets (edge_here c)) refl
      where
        by : (b : Bool) → meets (edge_here c) ≡ b → has_key there (key c) ≡ b
        by true e = any_from (λ e. e.key == key c) there (edge_here c)
            (among_kept meets (map edge_here (chains_at h j)) (edge_here c) (among_map edge_here (chains_at h j) c n) e) (eq-eqb (key c) (key c) refl)
        by false e = false_from_ne_true (has_key there (key c)) (λ t.
            let g = any_among (λ (e : Edge). e.key == key c) there t in
            let d = map_among edge_here (chains_at h j) g.0 (kept_among meets (map edge_here (chains_at h j)) g.0 g.1) in
            let same : d.0 ≡ c = same_key h j d.0 c d.1 n (ap (λ (x : Edge). x.key) d.2 ∙ eqb-true _ _ g.2) in
            let yes : meets (edge_here c) ≡ true
            = ap (λ (c : Chain). meets (edge_here c)) (sym same) ∙ ap meets d.2 ∙ filter_among meets (map edge_here (chains_at h j)) g.0 g.1 in
            absurd cc)

    is_there : (e : Edge) → Among e (map edge_here (chains_at h j)) → has_key there e.key ≡ meets e
    is_there = mapped_each edge_here (λ e. has_key there e.key ≡ meets e) (chains_at h j) key_there

    -- what comes back of an edge comes new where the edge is not in the window
    coming_is : (e : Edge) → Among e (map edge_here (chains_at h j)) → (x : Edge) → Among x (refined record_here e) → coming x ≡ not (meets e)
    coming_is =
        mapped_each edge_here (λ e. (x : Edge) → Among x (refined record_here e) → coming x ≡ not (meets e)) (chains_at h j) (λ c n x o.
        let r = map_among (λ r. edge_back (chain_of_run finer r)) (runs finer c) x (subst (Among x) (refined_is m base planar j one last c n) o) in
        ap coming (sym r.2)
        ∙ ap₂ (λ (a b : Bool). a || b) (not_between m base planar j one last c n r.0 r.1)
        (ap (λ (i : ℕ). not (has_key there i)) (comes_of m base planar j one last c n r.0 r.1) ∙ ap not (key_there c n)))

    -- an ended edge comes
    ended_comes : (e : Edge) → Among e record_here.ended → coming e ≡ true
    ended_comes e o =
        ap (λ (b : Bool). b || not (has_key there (key_after h j e))) (filter_among (is_edge_between s.loser s.winner) (map edge_back finer) e o)

    -- ---- an edge of the window

    -- the pieces are those of the record of the whole slice
    same_pieces : (e : Edge) (points : List Point) (first : ℕ) (pieces : List Piece)
        → cut_pieces (whole_record record_in) e points first pieces ≡ cut_pieces record_here e points first pieces
    same_pieces e points first [] = refl
    same_pieces e points first (p ∷ pieces) = ap (λ (es : List Edge). cut_piece record_here e points first p ∷ es) (same_pieces e points p.last pieces)

    module _ (e : Edge) (is_in : meets e ≡ true) (found_there : has_key there e.key ≡ true) where
      abbrev plain : Edge
      plain = record e { left = in_place_of s.made s.winner e.left; right = in_place_of s.made s.winner e.right }

      abbrev become : StepRecord → Option Mend → List Edge
      become q o = elim o [ None ↦ plain ∷ [] | Some w ↦ cut_pieces q e (put_in w.puts e.points) 0 w.pieces ]

      mend_same : mend_for (whole_record record_in) e ≡ mend_for record_here e
      mend_same = find_filtered (λ w. w.key == e.key) (λ w. has_key there w.key) record_here.mends
          (λ w o t. ap (has_key there) (eqb-true _ _ t) ∙ found_there)

      -- what a mend makes of the edge, where it is found
      abbrev chosen : Option Mend → Option Mend → List Edge
      chosen o found = elim o [ None ↦ become (whole_record record_in) found | Some w ↦ filter meets (become (whole_record record_in) found) ]

      kept_is : (o : Option Mend) → chosen o o ≡ filter meets (become record_here o)
      kept_is None = sym (ap (λ (b : Bool). cond {A = List Edge} b (plain ∷ []) []) is_in)
      kept_is (Some w) = ap (filter meets) (same_pieces e (put_in w.puts e.points) 0 w.pieces)

      stays : filter meets (refined record_here e) ≡ refined_in area record_in e
      stays = sym (ap (λ (o : Option Mend). chosen o o) mend_same ∙ kept_is (mend_for record_here e))

    -- ---- all edges

    abbrev come_back : List Edge
    come_back = flat_map (refined record_here) (map edge_here (chains_at h j)) ++ record_here.ended

    -- what passes a test, of what comes back of each edge and of the ended ones
    of_come_back : (p : Edge → Bool) (f : Edge → List Edge) → ((e : Edge) → Among e (map edge_here (chains_at h j)) → filter p (refined record_here e) ≡ f e)
        → filter p come_back ≡ flat_map f (map edge_here (chains_at h j)) ++ filter p record_here.ended
    of_come_back p f each =
        filter-append p (flat_map (refined record_here) (map edge_here (chains_at h j))) record_here.ended
        ∙ ap (λ (es : List Edge). es ++ filter p record_here.ended)
        (filter-flat_map p (refined record_here) (map edge_here (chains_at h j))
        ∙ flat_map-agree (λ e. filter p (refined record_here e)) f (map edge_here (chains_at h j)) each)

    twice : (b : Bool) → not (not b) ≡ b
    twice true = refl
    twice false = refl

    -- before the step in the window, and not coming
    abbrev staying : Edge → Bool
    staying e = meets e && not (coming e)

    stay_of : (e : Edge) → Among e (map edge_here (chains_at h j)) → filter staying (refined record_here e) ≡ cond (meets e) (refined_in area record_in e) []
    stay_of e o =
        filter_and meets (λ x. not (coming x)) (refined record_here e) (meets e) (λ x p. ap not (coming_is e o x p) ∙ twice (meets e))
        ∙ by (meets e) refl
      where
        by : (b : Bool) → meets e ≡ b → cond b (filter meets (refined record_here e)) [] ≡ cond b (refined_in area record_in e) []
        by true t = stays e t (is_there e o ∙ t)
        by false t = refl

    stay : filter staying come_back ≡ flat_map (refined_in area record_in) there
    stay =
        of_come_back staying (λ e. cond (meets e) (refined_in area record_in e) []) stay_of
        ∙ ap₂ (λ (xs ys : List Edge). xs ++ ys) (flat_map-filter meets (refined_in area record_in) (map edge_here (chains_at h j)))
        (filter_and meets (λ x. not (coming x)) record_here.ended false (λ e o. ap not (ended_comes e o)))
        ∙ append-nil (flat_map (refined_in area record_in) there)

    -- the edges outside the window after the step
    abbrev outside : List Edge
    outside = filter (λ e. not (meets e)) (map edge_here (chains_at h j))

    abbrev arriving : Edge → Bool
    arriving e = meets e && coming e

    arrive : filter arriving come_back ≡ filter meets (flat_map (refined record_here) outside ++ record_here.ended)
    arrive =
        of_come_back arriving (λ e. cond (not (meets e)) (filter meets (refined record_here e)) [])
        (λ e o. filter_and meets coming (refined record_here e) (not (meets e)) (coming_is e o))
        ∙ ap₂ (λ (xs ys : List Edge). xs ++ ys)
        (flat_map-filter (λ e. not (meets e)) (λ e. filter meets (refined record_here e)) (map edge_here (chains_at h j))
        ∙ sym (filter-flat_map meets (refined record_here) outside))
        (filter_and meets coming record_here.ended true ended_comes)
        ∙ sym (filter-append meets (flat_map (refined record_here) outside) record_here.ended)

    come_permuted : IsPermutation come_back (map edge_back finer)
    come_permuted = subst (IsPermutation come_back) (whole_edges_back m base planar j one last) (sort_by-permutation edge_before come_back)

    back_permuted : IsPermutation (flat_map (refined_in area record_in) there ++ filter coming before) before
    back_permuted =
        both_parts coming before (flat_map (refined_in area record_in) there)
        (subst (λ (es : List Edge). IsPermutation es (filter (λ e. not (coming e)) before)) stay
        (subst (IsPermutation (filter staying come_back)) (sym (filter_twice meets (λ e. not (coming e)) (map edge_back finer)))
        (IsPermutation-filter staying come_back (map edge_back finer) come_permuted)))

    pub back_sorted : is_sorted_by edge_before (filter (meets_window area) (map (edge_of (merged m) (j - 1) (removals_to (merged m) (j - 1))) (chains_at (merged m) (j - 1)))) ≡ true
    back_sorted =
        filter-is_sorted {P = λ (e : Edge). ⊤} {before = edge_before} (order_by_key (λ (e : Edge). e.key) nat_lt_order) meets (map edge_back finer)
        (all_members (λ (e : Edge). ⊤) (map edge_back finer) (λ e o. tt))
        (map-is_sorted (λ (c : Chain). ⊤) (λ c d. nat_lt (key c) (key d)) edge_before edge_back (λ c d p q. refl) finer (all_members (λ (c : Chain). ⊤) finer (λ c o. tt))
        ∙ chains_sorted h k finer (chains_exist h k))

    -- the edges of the window before the step
    pub edges_there : edges_back area (window_at (merged m) area j) (window_step (merged m) area j) ≡ (window_at (merged m) area (j - 1)).edges
    unfolding window_of
    edges_there =
        sort_by-permuted {P = λ (e : Edge). ⊤} {before = edge_before} (order_by_key (λ (e : Edge). e.key) nat_lt_order)
        (flat_map (refined_in area record_in) there ++ filter coming before) before
        (all_members (λ (e : Edge). ⊤) (flat_map (refined_in area record_in) there ++ filter coming before) (λ e o. tt)) back_sorted back_permuted

    arriving_permuted : IsPermutation (filter meets (flat_map (refined record_here) outside ++ record_here.ended)) (filter coming before)
    arriving_permuted =
        subst (λ (es : List Edge). IsPermutation es (filter coming before)) arrive
        (subst (IsPermutation (filter arriving come_back)) (sym (filter_twice meets coming (map edge_back finer)))
        (IsPermutation-filter arriving come_back (map edge_back finer) come_permuted))

    -- those of them that come
    pub edges_coming : (window_step (merged m) area j).comes ≡ sort_by edge_before (filter (meets_window area)
        (flat_map (refined (step_record (merged m) j)) (filter (λ e. not (meets_window area e)) (slice m j).edges) ++ (step_record (merged m) j).ended))
    unfolding slice window_of
    edges_coming =
        sym (sort_by-permuted {P = λ (e : Edge). ⊤} {before = edge_before} (order_by_key (λ (e : Edge). e.key) nat_lt_order)
        (filter meets (flat_map (refined record_here) outside ++ record_here.ended)) (filter coming before)
        (all_members (λ (e : Edge). ⊤) (filter meets (flat_map (refined record_here) outside ++ record_here.ended)) (λ e o. tt))
        (filter-is_sorted {P = λ (e : Edge). ⊤} {before = edge_before} (order_by_key (λ (e : Edge). e.key) nat_lt_order) coming before
        (all_members (λ (e : Edge). ⊤) before (λ e o. tt)) back_sorted)
        arriving_permuted)

pub window_comes_are : WindowComesAre
window_comes_are m base planar j one last area = edges_coming m base planar j one last area
