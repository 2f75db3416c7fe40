-- The edges of the table when all new ones are joined, and those that the step changed, in order of key.
use Rattle.std.proofs.Common.{◌≡◌, ◌≢◌, inl, inr, ℕ, ◌+◌, ◌-◌, ◌<◌, ◌||◌, Bool, true, false, not, nat_lt, List, [], ◌∷◌, ◌++◌, map, filter, length, get_or, All, AllPairs, IsPermutation, refl, sym, ap, ap₂, ◌∙◌, subst, arith}
use Rattle.std.specs.List.{range_with_len}
use Rattle.std.specs.List.Sorted.{IsNonDecreasing, IsNonDecreasingBy}
use Rattle.std.proofs.lemmas.Bool.{or_left, or_right, ltb-true, lt-ltb}
use Rattle.std.proofs.lemmas.List.{map-append}
use Rattle.std.proofs.lemmas.List.FromFn.{length-range_with_len, get_or-range_with_len}
use Rattle.std.proofs.lemmas.List.Kept.{AllPairs-filter}
use Rattle.std.proofs.lemmas.List.Sorted.{IsPermutation-sym, IsPermutation-map}
use Rattle.lemmas.specs.Sorting.{is_sorted_by}
use Rattle.lemmas.proofs.Orders.{nat_lt_order, order_by_key}
use Rattle.lemmas.proofs.Sorting.{sorted_pairs}
use Rattle.tgap_model.specs.declared.slice.Edge.{Edge}
use Rattle.tgap_model.specs.declared.slice.Removal.{Removal}
use Rattle.tgap_model.specs.History.{relabel}
use Rattle.tgap_model.specs.Merged.{MergedMap, merged, label_at, step_number}
use Rattle.tgap_model.specs.Chains.{Chain, arc_number, key, chains_at}
use Rattle.tgap_model.specs.Removals.{edge_of, edges_of, has_side, removals_to}
use Rattle.tgap_model.specs.Records.{is_edge_between, runs}
use Rattle.map_laws.specs.ChainLaws.{chains_left}
use Rattle.map_laws.proofs.ChainMembers.{Among, filter_among, among_left, among_right, append_among, sorted_same}
use Rattle.map_laws.proofs.ChainLinks.{chains_sorted}
use Rattle.map_laws.proofs.ChainsExist.{chains_exist}
use Rattle.map_laws.proofs.Lists.{all_members, among_range, kept_among, among_kept, map_among, among_map}
use Rattle.record_laws.proofs.Holders.{same_key}
use Rattle.record_laws.proofs.StepFacts.{label_next}
use Rattle.edge_forest.specs.Edges.{edge_at, chain_of, is_alive}
use Rattle.edge_forest.specs.Forest.{EdgeForest, IsForest}
use Rattle.tgap_build.specs.declared.edge_table.EdgeTable.{EdgeTable}
use Rattle.tgap_build.specs.declared.live_edges.Made.{Made}
use Rattle.tgap_build.specs.Table.{faced, labelled_edges, table_edges, left_by}
use Rattle.tgap_build.specs.Running.{relabelled}
use Rattle.tgap_build.specs.Changes.{HasGrown, born_chains, losing_keys, made_of, is_changed, is_part_of, HasJoined}
use Rattle.tgap_build.proofs.Alive.{alive_same}
use Rattle.tgap_build.proofs.Filters.{filter_map}
use Rattle.tgap_build.proofs.KeyedEdges.{Ascend, sorted, sorted_from_pairs, nondecreasing, pairs_mapped, pairs_both, in_order_same}
use Rattle.tgap_build.proofs.EachLive.{ascending}
use Rattle.tgap_build.proofs.Born.{up_to, within, many_runs, whole_run, born_here, born_new, born_or_old, left_here, old_left}
use Rattle.tgap_build.proofs.Joining.{permuted}

not_true : (v : Bool) → not v ≡ true → v ≡ false
not_true true e = absurd cc
not_true false e = refl

module _ (f : EdgeForest) (k old : ℕ) (some : 0 < k) (grown : HasGrown f k old) where
  abbrev h : MergedMap
  h = merged f.base

  abbrev finer : List Chain
  finer = chains_at h (k - 1)

  abbrev before : List Removal
  before = removals_to h (k - 1)

  abbrev edge_now : Chain → Edge
  edge_now c = edge_of h k before c

  abbrev edge_back : Chain → Edge
  edge_back c = edge_of h (k - 1) before c

  abbrev w : IsForest f
  w = grown.forest

  abbrev fresh : List Chain
  fresh = born_chains f k old (length f.edges)

  abbrev kept : List Chain
  kept = filter (λ (c : Chain). not (is_part_of finer fresh (key c))) (chains_left h (k - 1))

  kept_here : (c : Chain) → Among c kept → Among c (chains_at h k)
  kept_here c n =
      left_here f k old some grown c (kept_among (λ (c : Chain). not (is_part_of finer fresh (key c))) (chains_left h (k - 1)) c n)
      (not_true _ (filter_among (λ (c : Chain). not (is_part_of finer fresh (key c))) (chains_left h (k - 1)) c n))

  fresh_here : (c : Chain) → Among c fresh → Among c (chains_at h k)
  fresh_here c n = born_here f k old some grown (length f.edges) (omega arith) c n

  old_kept : (c : Chain) → Among c (chains_at h k) → Among c finer → Among c kept
  old_kept c n o =
      let known = old_left f k old some grown c n o in
      among_kept (λ (c : Chain). not (is_part_of finer fresh (key c))) (chains_left h (k - 1)) c known.0 (ap not known.1)

  -- ---- all edges

  module _ (left : List Edge) (t : EdgeTable) (ascend : Ascend (labelled_edges t)) (state : HasJoined (merged f.base) k left (born_chains f k old (length f.edges)) t) where
    faced_is : map (faced t.labels) (filter (λ (e : Edge). not (is_part_of finer fresh e.key)) left ++ state.new) ≡ map edge_now kept ++ map edge_now fresh
    faced_is =
        map-append (faced t.labels) (filter (λ (e : Edge). not (is_part_of finer fresh e.key)) left) state.new
        ∙ ap₂ (λ (xs ys : List Edge). xs ++ ys)
        (sym (filter_map (λ (e : Edge). not (is_part_of finer fresh e.key)) (faced t.labels) left)
        ∙ ap (filter (λ (e : Edge). not (is_part_of finer fresh e.key))) state.left_faces
        ∙ filter_map (λ (e : Edge). not (is_part_of finer fresh e.key)) edge_now (chains_left h (k - 1)))
        state.new_faces

    moved : IsPermutation (map edge_now kept ++ map edge_now fresh) (table_edges t)
    moved = subst (λ (es : List Edge). IsPermutation es (table_edges t)) faced_is
        (IsPermutation-map (faced t.labels) (filter (λ (e : Edge). not (is_part_of finer fresh e.key)) left ++ state.new) (labelled_edges t) state.edges)

    there : (e : Edge) → Among e (table_edges t) → Among e (edges_of h k before (chains_at h k))
    there e m = elim (append_among (map edge_now kept) (map edge_now fresh) e (permuted (table_edges t) (map edge_now kept ++ map edge_now fresh) e
        (IsPermutation-sym (map edge_now kept ++ map edge_now fresh) (table_edges t) moved) m)) [
          | inl n ↦ (let c = map_among edge_now kept e n in subst (λ (x : Edge). Among x (edges_of h k before (chains_at h k))) c.2 (among_map edge_now (chains_at h k) c.0 (kept_here c.0 c.1)))
          | inr n ↦ (let c = map_among edge_now fresh e n in subst (λ (x : Edge). Among x (edges_of h k before (chains_at h k))) c.2 (among_map edge_now (chains_at h k) c.0 (fresh_here c.0 c.1)))
        ]

    back : (e : Edge) → Among e (edges_of h k before (chains_at h k)) → Among e (table_edges t)
    back e m =
        let c = map_among edge_now (chains_at h k) e m in
        permuted (map edge_now kept ++ map edge_now fresh) (table_edges t) e moved (subst (λ (x : Edge). Among x (map edge_now kept ++ map edge_now fresh)) c.2
        (elim (born_or_old f k old some grown c.0 c.1) [
          | inl new ↦ among_right (map edge_now kept) (map edge_now fresh) (edge_now c.0) (among_map edge_now fresh c.0 new)
          | inr early ↦ among_left (map edge_now kept) (map edge_now fresh) (edge_now c.0) (among_map edge_now kept c.0 (old_kept c.0 c.1 early))
        ]))

    pub joined_all : table_edges t ≡ edges_of (merged f.base) k (removals_to (merged f.base) (k - 1)) (chains_at (merged f.base) k)
    joined_all =
        sorted_same (λ (e : Edge). e.key) (table_edges t) (edges_of h k before (chains_at h k))
        (sorted (table_edges t) (pairs_mapped (λ (e f : Edge). e.key < f.key) (faced t.labels) (labelled_edges t) ascend))
        (sorted (edges_of h k before (chains_at h k)) (ascending f.base w.base w.partition k before))
        there back

  -- ---- those that the step changed

  -- the chains with the loser at a side that are no parts of new ones
  abbrev pub lost : List Chain
  lost = filter (λ (c : Chain). not (is_part_of (chains_at (merged f.base) (k - 1)) (born_chains f k old (length f.edges)) (key c)))
      (filter (λ (c : Chain). has_side (step_number (merged f.base) k).loser (edge_of (merged f.base) (k - 1) (removals_to (merged f.base) (k - 1)) c)) (chains_left (merged f.base) (k - 1)))

  abbrev loses : Chain → Bool
  loses c = has_side (step_number h k).loser (edge_back c)

  abbrev no_part : Chain → Bool
  no_part c = not (is_part_of finer fresh (key c))

  pub lost_known : (c : Chain) → Among c lost → Among c (chains_at (merged f.base) k) × Among c (chains_at (merged f.base) (k - 1))
      × (has_side (step_number (merged f.base) k).loser (edge_of (merged f.base) (k - 1) (removals_to (merged f.base) (k - 1)) c) ≡ true)
  lost_known c n =
      let inner = kept_among no_part (filter loses (chains_left h (k - 1))) c n in
      let in_left = kept_among loses (chains_left h (k - 1)) c inner in (
        left_here f k old some grown c in_left (not_true _ (filter_among no_part (filter loses (chains_left h (k - 1))) c n)),
        kept_among (λ c. not (is_edge_between (step_number h (k - 1 + 1)).loser (step_number h (k - 1 + 1)).winner (edge_of h (k - 1) [] c))) finer c in_left,
        filter_among loses (chains_left h (k - 1)) c inner,
      )

  -- the edges that the step leaves, before it and after it
  up : k - 1 + 1 ≡ k
  up = omega (arith, some)

  left_is : left_by (step_number h k) (edges_of h (k - 1) before finer) ≡ map edge_back (chains_left h (k - 1))
  left_is =
      filter_map (λ (e : Edge). not (is_edge_between (step_number h k).loser (step_number h k).winner e)) edge_back finer
      ∙ ap (λ (i : ℕ). map edge_back (filter (λ (c : Chain). not (is_edge_between (step_number h i).loser (step_number h i).winner (edge_of h (k - 1) [] c))) finer)) (sym up)

  pub merged_faces : map (relabelled (step_number (merged f.base) k)) (left_by (step_number (merged f.base) k)
      (edges_of (merged f.base) (k - 1) (removals_to (merged f.base) (k - 1)) (chains_at (merged f.base) (k - 1))))
      ≡ edges_of (merged f.base) k (removals_to (merged f.base) (k - 1)) (chains_left (merged f.base) (k - 1))
  merged_faces = ap (map (relabelled (step_number h k))) left_is ∙ each (chains_left h (k - 1))
    where
      next : (face : ℕ) → label_at h k face ≡ relabel (step_number h k) (label_at h (k - 1) face)
      next face = label_next f.base w.base w.partition k some (within f k old some grown) face

      each : (cs : List Chain) → map (relabelled (step_number h k)) (map edge_back cs) ≡ map edge_now cs
      each [] = refl
      each (c ∷ cs) = ap₂ (λ (e : Edge) (es : List Edge). e ∷ es)
          (ap₂ (λ (l r : ℕ). record { key = key c; left = l; right = r; points = (edge_now c).points })
          (sym (next (arc_number f.base.arcs (key c)).left)) (sym (next (arc_number f.base.arcs (key c)).right)))
          (each cs)

  -- a chain that the step leaves is not between its faces
  pub left_off : (c : Chain) → Among c (chains_left (merged f.base) (k - 1)) → is_edge_between (step_number (merged f.base) k).loser (step_number (merged f.base) k).winner
      (edge_of (merged f.base) (k - 1) (removals_to (merged f.base) (k - 1)) c) ≡ false
  left_off c n = not_true _ (subst (λ (i : ℕ). not (is_edge_between (step_number h i).loser (step_number h i).winner (edge_back c)) ≡ true) up
      (filter_among (λ c. not (is_edge_between (step_number h (k - 1 + 1)).loser (step_number h (k - 1 + 1)).winner (edge_of h (k - 1) [] c))) finer c n))

  pub lost_left : (c : Chain) → Among c lost → Among c (chains_left (merged f.base) (k - 1))
  lost_left c n = kept_among loses (chains_left h (k - 1)) c (kept_among no_part (filter loses (chains_left h (k - 1))) c n)

  -- the keys of the loser's edges that are no parts are theirs
  pub lost_keys : filter (λ (i : ℕ). not (is_part_of (chains_at (merged f.base) (k - 1)) (born_chains f k old (length f.edges)) i)) (losing_keys (merged f.base) k) ≡ map key lost
  lost_keys =
      ap (filter (λ (i : ℕ). not (is_part_of finer fresh i))) keys_are
      ∙ filter_map (λ (i : ℕ). not (is_part_of finer fresh i)) key (filter loses (chains_left h (k - 1)))
    where
      keys_of : (cs : List Chain) → map (λ (e : Edge). e.key) (map edge_back cs) ≡ map key cs
      keys_of [] = refl
      keys_of (c ∷ cs) = ap (λ (is : List ℕ). key c ∷ is) (keys_of cs)

      keys_are : losing_keys h k ≡ map key (filter loses (chains_left h (k - 1)))
      keys_are =
          ap (λ (es : List Edge). map (λ (e : Edge). e.key) (filter (has_side (step_number h k).loser) es)) left_is
          ∙ ap (map (λ (e : Edge). e.key)) (filter_map (has_side (step_number h k).loser) edge_back (chains_left h (k - 1)))
          ∙ keys_of (filter loses (chains_left h (k - 1)))

  abbrev changes : Chain → Bool
  changes = is_changed h k

  pub fresh_changes : (c : Chain) → Among c fresh → is_changed h k c ≡ true
  fresh_changes c n =
      or_left (nat_lt 1 (length (runs finer c))) (loses c)
      (lt-ltb 1 (length (runs finer c)) (many_runs f k old some grown c (fresh_here c n) (born_new f k old some grown (length f.edges) (omega arith) c n)))

  pub lost_changes : (c : Chain) → Among c lost → is_changed h k c ≡ true
  lost_changes c n = or_right (nat_lt 1 (length (runs finer c))) (loses c) (lost_known c n).2

  pub changed_from : (c : Chain) → Among c (chains_at h k) → is_changed h k c ≡ true → Among c (fresh ++ lost)
  changed_from c n t = elim (born_or_old f k old some grown c n) [
    | inl new ↦ among_left fresh lost c new
    | inr early ↦
        (let one = whole_run f k old some grown c n early in
        let lose : loses c ≡ true = ap (λ (rs : List Chain). nat_lt 1 (length rs) || loses c) (sym one) ∙ t in
        let known = old_left f k old some grown c n early in
        among_right fresh lost c (among_kept no_part (filter loses (chains_left h (k - 1))) c (among_kept loses (chains_left h (k - 1)) c known.0 lose) (ap not known.1)))
  ]

  -- no two of them have one key
  range_apart : (a n : ℕ) → AllPairs (λ (i j : ℕ). i < j) (range_with_len a n)
  range_apart a n i j d l s =
      omega (
        arith,
        get_or-range_with_len a n i d (omega (arith, l, s, length-range_with_len a n)),
        get_or-range_with_len a n j d (omega (arith, s, length-range_with_len a n)),
      )

  fresh_apart : AllPairs (λ (c d : Chain). key c ≢ key d) fresh
  fresh_apart = pairs_mapped (λ (c d : Chain). key c ≢ key d) (chain_of f.edges) ids pairs
    where
      alive : ℕ → Bool
      alive i = is_alive k (edge_at f.edges i)

      ids : List ℕ
      ids = filter (λ i. is_alive k (edge_at f.edges i)) (range_with_len old (length f.edges - old))

      pairs : AllPairs (λ (i j : ℕ). key (chain_of f.edges i) ≢ key (chain_of f.edges j)) ids
      pairs i j d l s e =
          let less = AllPairs-filter (λ (i j : ℕ). i < j) (λ i. is_alive k (edge_at f.edges i)) (range_with_len old (length f.edges - old)) (range_apart old (length f.edges - old)) i j d l s in
          let a = known (get_or ids i d) (at_member ids i d (omega (arith, l, s))) in
          let b = known (get_or ids j d) (at_member ids j d s) in
          let same = alive_same f w k (up_to f k old some grown) (get_or ids i d) (get_or ids j d) a.0 b.0 a.1 b.1
          ((w.edges (get_or ids j d) b.0).key ∙ sym e ∙ sym (w.edges (get_or ids i d) a.0).key) in
          absurd (omega (arith, less, same))
        where
          at_member : (xs : List ℕ) → All (λ x. Among x xs) xs
          at_member xs = all_members (λ x. Among x xs) xs (λ x m. m)

          known : (i : ℕ) → Among i ids → (i < length f.edges) × (is_alive k (edge_at f.edges i) ≡ true)
          known i m =
              let range = among_range old (length f.edges - old) i (kept_among alive (range_with_len old (length f.edges - old)) i m) in
              (omega (arith, range.1, grown.within), filter_among alive (range_with_len old (length f.edges - old)) i m)

  pub all_apart : AllPairs (λ (c d : Chain). key c ≢ key d) (born_chains f k old (length f.edges) ++ lost)
  all_apart = pairs_both (λ (c d : Chain). key c ≢ key d) fresh lost fresh_apart lost_apart (λ c d m n e.
      let known = lost_known d n in
      let same : c ≡ d = same_key h k c d (fresh_here c m) known.0 e in
      born_new f k old some grown (length f.edges) (omega arith) c m (subst (λ (x : Chain). Among x finer) (sym same) known.1))
    where
      lost_apart : AllPairs (λ (c d : Chain). key c ≢ key d) lost
      lost_apart i j d l s e =
          let pairs = sorted_pairs (order_by_key key nat_lt_order) finer (λ n d l. tt) (chains_sorted h (k - 1) finer (chains_exist h (k - 1))) in
          let test = λ (c : Chain). not (is_edge_between (step_number h (k - 1 + 1)).loser (step_number h (k - 1 + 1)).winner (edge_of h (k - 1) [] c)) in
          let Below = λ (c d : Chain). nat_lt (key c) (key d) ≡ true in
          let less = AllPairs-filter Below no_part (filter loses (chains_left h (k - 1)))
          (AllPairs-filter Below loses (chains_left h (k - 1)) (AllPairs-filter Below test finer pairs)) i j d l s in
          absurd (omega (arith, ltb-true (key (get_or lost i d)) (key (get_or lost j d)) less, e))

  -- the keys of the loser's edges ascend
  pub losing_order : IsNonDecreasing (losing_keys (merged f.base) k)
  losing_order =
      nondecreasing (λ (i : ℕ). i) (losing_keys h k)
      (pairs_mapped (λ (i j : ℕ). i < j) (λ (e : Edge). e.key) (filter (has_side (step_number h k).loser) (left_by (step_number h k) (edges_of h (k - 1) before finer)))
      (AllPairs-filter (λ (e f : Edge). e.key < f.key) (has_side (step_number h k).loser) (left_by (step_number h k) (edges_of h (k - 1) before finer))
      (AllPairs-filter (λ (e f : Edge). e.key < f.key) (λ (e : Edge). not (is_edge_between (step_number h k).loser (step_number h k).winner e)) (edges_of h (k - 1) before finer)
      (ascending f.base w.base w.partition (k - 1) before))))

  -- in order of key they are the changed ones
  made_keys : (cs : List Chain) → map (λ (o : Made). o.key) (map (made_of h k) cs) ≡ map key cs
  made_keys [] = refl
  made_keys (c ∷ cs) = ap (λ (is : List ℕ). key c ∷ is) (made_keys cs)

  pub made_sorted : (made : List Made) → IsPermutation (map (made_of (merged f.base) k) (born_chains f k old (length f.edges) ++ lost)) made → IsNonDecreasingBy (λ o. o.key) made
      → made ≡ map (made_of (merged f.base) k) (filter (is_changed (merged f.base) k) (chains_at (merged f.base) k))
  made_sorted made moved order =
      in_order_same (λ (o : Made). o.key) (map (made_of h k) (fresh ++ lost)) made (map (made_of h k) (filter changes (chains_at h k))) moved order
      (pairs_mapped (λ (o p : Made). o.key ≢ p.key) (made_of h k) (fresh ++ lost) all_apart)
      ascend
      (λ o m. let c = map_among (made_of h k) (fresh ++ lost) o m in
      subst (λ (x : Made). Among x (map (made_of h k) (filter changes (chains_at h k)))) c.2 (among_map (made_of h k) (filter changes (chains_at h k)) c.0 (elim (append_among fresh lost c.0 c.1) [
        | inl n ↦ among_kept changes (chains_at h k) c.0 (fresh_here c.0 n) (fresh_changes c.0 n)
        | inr n ↦ among_kept changes (chains_at h k) c.0 (lost_known c.0 n).0 (lost_changes c.0 n)
      ])))
      (λ o m. let c = map_among (made_of h k) (filter changes (chains_at h k)) o m in
      subst (λ (x : Made). Among x (map (made_of h k) (fresh ++ lost))) c.2
      (among_map (made_of h k) (fresh ++ lost) c.0 (changed_from c.0 (kept_among changes (chains_at h k) c.0 c.1) (filter_among changes (chains_at h k) c.0 c.1))))
    where
      ascend : is_sorted_by (λ (o p : Made). nat_lt o.key p.key) (map (made_of h k) (filter changes (chains_at h k))) ≡ true
      ascend = sorted_from_pairs (λ (o p : Made). nat_lt o.key p.key) (map (made_of h k) (filter changes (chains_at h k)))
          (pairs_mapped (λ (o p : Made). nat_lt o.key p.key ≡ true) (made_of h k) (filter changes (chains_at h k))
          (AllPairs-filter (λ (c d : Chain). nat_lt (key c) (key d) ≡ true) changes (chains_at h k)
          (sorted_pairs (order_by_key key nat_lt_order) (chains_at h k) (λ n d l. tt) (chains_sorted h k (chains_at h k) (chains_exist h k)))))
