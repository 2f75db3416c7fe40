-- Of the edges before a step, with their labels, those whose keys are told go, and those that the step changed come.
use Rattle.std.proofs.Common.{◌≡◌, inl, inr, ℕ, ◌+◌, ◌-◌, ◌<◌, ◌==◌, ◌||◌, Bool, true, false, cond, not, List, [], ◌∷◌, ◌++◌, map, filter, length, All, AllPairs, IsPermutation, refl, sym, ap, ap₂, ◌∙◌, subst, true≢false, arith}
use Rattle.std.specs.Prelude.{flat_map}
use Rattle.std.specs.List.{list_any}
use Rattle.std.proofs.lemmas.Bool.{eq-eqb, eqb-true, ltb-true, or_parts, false_from_ne_true}
use Rattle.std.proofs.lemmas.List.Folds.{list_any-append}
use Rattle.std.proofs.lemmas.List.Kept.{AllPairs-filter}
use Rattle.std.proofs.lemmas.List.Sorted.{IsPermutation-sym, IsPermutation-filter_both}
use Rattle.lemmas.proofs.Orders.{nat_lt_order, order_by_key}
use Rattle.lemmas.proofs.Sorting.{sorted_pairs}
use Rattle.tgap_model.specs.declared.merge.MergeStep.{MergeStep}
use Rattle.tgap_model.specs.declared.slice.Edge.{Edge}
use Rattle.tgap_model.specs.declared.slice.Removal.{Removal}
use Rattle.tgap_model.specs.Merged.{MergedMap, merged, step_number}
use Rattle.tgap_model.specs.Chains.{Chain, key, chains_at}
use Rattle.tgap_model.specs.Removals.{edge_of, edges_of, has_side, removals_to}
use Rattle.tgap_model.specs.Records.{is_edge_between, runs}
use Rattle.map_laws.specs.ChainLaws.{chains_left}
use Rattle.map_laws.proofs.ChainMembers.{Among, any_among, filter_among, among_left, append_among, sorted_same}
use Rattle.map_laws.proofs.ChainLinks.{chains_sorted}
use Rattle.map_laws.proofs.ChainsExist.{chains_exist}
use Rattle.map_laws.proofs.Lists.{members_all, any_from, kept_among, among_kept, map_among, among_map}
use Rattle.grid_index.specs.Keyed.{edges_at}
use Rattle.grid_index.specs.Live.{keys, without_keys}
use Rattle.record_laws.specs.RunLaws.{chain_of_run}
use Rattle.record_laws.proofs.Holders.{same_key}
use Rattle.edge_forest.specs.declared.face_labels.FaceLabels.{FaceLabels}
use Rattle.edge_forest.specs.Forest.{EdgeForest, IsForest}
use Rattle.tgap_build.specs.declared.edge_table.EdgeTable.{EdgeTable}
use Rattle.tgap_build.specs.declared.live_edges.Made.{Made}
use Rattle.tgap_build.specs.Table.{faced, labelled_edges, moved_edge}
use Rattle.tgap_build.specs.Changes.{HasGrown, born_chains, part_keys, losing_keys, made_of, is_changed, is_part_of, HasJoined, IsChange}
use Rattle.tgap_build.proofs.EdgesAt.{edges_at_are}
use Rattle.tgap_build.proofs.KeyedEdges.{Ascend, sorted, pairs_mapped}
use Rattle.tgap_build.proofs.Born.{own_key, part_from, born_here}
use Rattle.tgap_build.proofs.Joining.{permuted, losing_is}
use Rattle.tgap_build.proofs.ChangedChains.{lost, lost_known, changed_from, fresh_changes, lost_changes}

-- ---- tests of lists

-- the keys of the parts of chains are those that are parts
pub any_parts : (h : MergedMap) (k : ℕ) (bs : List Chain) (i : ℕ) → list_any (λ j. j == i) (flat_map (part_keys h k) bs) ≡ is_part_of (chains_at h (k - 1)) bs i
any_parts h k [] i = refl
any_parts h k (b ∷ bs) i =
    list_any-append (λ j. j == i) (part_keys h k b) (flat_map (part_keys h k) bs)
    ∙ ap₂ (λ (x y : Bool). x || y) (mapped (runs (chains_at h (k - 1)) b)) (any_parts h k bs i)
  where
    mapped : (rs : List Chain) → list_any (λ j. j == i) (map (λ r. key (chain_of_run (chains_at h (k - 1)) r)) rs) ≡ list_any (λ r. key (chain_of_run (chains_at h (k - 1)) r) == i) rs
    mapped [] = refl
    mapped (r ∷ rs) = ap (λ (b : Bool). (key (chain_of_run (chains_at h (k - 1)) r) == i) || b) (mapped rs)

-- where two lists have the same members a test of them tells the same
pub any_permuted : {A : Type 0} (p : A → Bool) (xs ys : List A) → IsPermutation xs ys → list_any p ys ≡ list_any p xs
any_permuted p xs ys h = by (list_any p xs) refl
  where
    by : (b : Bool) → list_any p xs ≡ b → list_any p ys ≡ b
    by true e = let x = any_among p xs e in any_from p ys x.0 (permuted xs ys x.0 h x.1) x.2
    by false e = false_from_ne_true (list_any p ys) (λ t.
        let y = any_among p ys t in
        true≢false (sym (any_from p xs y.0 (permuted ys xs y.0 (IsPermutation-sym xs ys h) y.1) y.2) ∙ e))

key_any : (edges : List Edge) (e : Edge) → Among e edges → list_any (λ i. i == e.key) (keys edges) ≡ true
key_any edges e m = any_from (λ i. i == e.key) (keys edges) e.key (among_map (λ (e : Edge). e.key) edges e m) (eq-eqb e.key e.key refl)

module _ (f : EdgeForest) (k old : ℕ) (some : 0 < k) (grown : HasGrown f k old) (faces : FaceLabels) (from to : ℕ) (first left : List Edge) (ascend_first : Ascend first)
    (first_faces : map (faced faces) first ≡ edges_of (merged f.base) (k - 1) (removals_to (merged f.base) (k - 1)) (chains_at (merged f.base) (k - 1)))
    (sides : All (λ e. has_side from e ≡ has_side (step_number (merged f.base) k).loser (faced faces e)) first)
    (left_is : left ≡ map (moved_edge from to) (filter (λ e. not (is_edge_between (step_number (merged f.base) k).loser (step_number (merged f.base) k).winner (faced faces e))) first))
    (t : EdgeTable) (ascend : Ascend (labelled_edges t)) (state : HasJoined (merged f.base) k left (born_chains f k old (length f.edges)) t) (made : List Made)
    (made_is : made ≡ map (made_of (merged f.base) k) (filter (is_changed (merged f.base) k) (chains_at (merged f.base) k)))
    (joined losing : List ℕ) (ended : List Edge) (joined_is : (i : ℕ) → list_any (λ j. j == i) joined ≡ is_part_of (chains_at (merged f.base) (k - 1)) (born_chains f k old (length f.edges)) i)
    (losing_are : losing ≡ losing_keys (merged f.base) k)
    (ended_is : ended ≡ filter (is_edge_between (step_number (merged f.base) k).loser (step_number (merged f.base) k).winner)
    (edges_of (merged f.base) (k - 1) (removals_to (merged f.base) (k - 1)) (chains_at (merged f.base) (k - 1)))) where
  abbrev h : MergedMap
  h = merged f.base

  abbrev s : MergeStep
  s = step_number h k

  abbrev finer : List Chain
  finer = chains_at h (k - 1)

  abbrev before : List Removal
  before = removals_to h (k - 1)

  abbrev edge_back : Chain → Edge
  edge_back c = edge_of h (k - 1) before c

  abbrev fresh : List Chain
  fresh = born_chains f k old (length f.edges)

  abbrev raw : List ℕ
  raw = joined ++ losing ++ keys ended

  abbrev between : Edge → Bool
  between e = is_edge_between s.loser s.winner e

  abbrev w : IsForest f
  w = grown.forest

  -- ---- an edge before the step, and its chain

  chain_at_first : (e : Edge) → Among e first → (c : Chain) × Among c finer × (edge_back c ≡ faced faces e)
  chain_at_first e m = map_among edge_back finer (faced faces e) (subst (Among (faced faces e)) first_faces (among_map (faced faces) first e m))

  -- the keys of ended edges are those of the chains between loser and winner
  ended_keys : (c : Chain) → Among c finer → list_any (λ i. i == key c) (keys ended) ≡ between (edge_back c)
  ended_keys c m = ap (λ (es : List Edge). list_any (λ i. i == key c) (keys es)) ended_is ∙ by (between (edge_back c)) refl
    where
      all : List Edge
      all = filter between (map edge_back finer)

      by : (b : Bool) → between (edge_back c) ≡ b → list_any (λ i. i == key c) (keys all) ≡ b
      by true e = key_any all (edge_back c) (among_kept between (map edge_back finer) (edge_back c) (among_map edge_back finer c m) e)
      by false e = false_from_ne_true (list_any (λ i. i == key c) (keys all)) (λ any.
          let i = any_among (λ i. i == key c) (keys all) any in
          let x = map_among (λ (e : Edge). e.key) all i.0 i.1 in
          let d = map_among edge_back finer x.0 (kept_among between (map edge_back finer) x.0 x.1) in
          let same : d.0 ≡ c = same_key h (k - 1) d.0 c d.1 m (ap (λ (e : Edge). e.key) d.2 ∙ x.2 ∙ eqb-true i.0 (key c) i.2) in
          true≢false (sym (filter_among between (map edge_back finer) x.0 x.1) ∙ ap between (sym d.2 ∙ ap edge_back same) ∙ e))

  -- what is told of the keys that go
  raw_is : (c : Chain) → list_any (λ i. i == key c) raw ≡ ((list_any (λ i. i == key c) joined || list_any (λ i. i == key c) losing) || list_any (λ i. i == key c) (keys ended))
  raw_is c = list_any-append (λ i. i == key c) (joined ++ losing) (keys ended) ∙ ap (λ (b : Bool). b || list_any (λ i. i == key c) (keys ended)) (list_any-append (λ i. i == key c) joined losing)

  -- a key that stays is that of a chain that is no part, not the loser's, and not between it and the winner
  stays_is : (c : Chain) → Among c finer → list_any (λ i. i == key c) raw ≡ false
      → (is_part_of finer fresh (key c) ≡ false) × (has_side s.loser (edge_back c) ≡ false) × (between (edge_back c) ≡ false)
  stays_is c m e =
      let all = or_parts (list_any (λ i. i == key c) joined || list_any (λ i. i == key c) losing) (list_any (λ i. i == key c) (keys ended)) (sym (raw_is c) ∙ e) in
      let two = or_parts (list_any (λ i. i == key c) joined) (list_any (λ i. i == key c) losing) all.0 in
      let off : between (edge_back c) ≡ false = sym (ended_keys c m) ∙ all.1 in (
        sym (joined_is (key c)) ∙ two.0,
        sym (losing_is h k c m off) ∙ ap (list_any (λ i. i == key c)) (sym losing_are) ∙ two.1,
        off,
      )

  from_stays : (c : Chain) → Among c finer → is_part_of finer fresh (key c) ≡ false → has_side s.loser (edge_back c) ≡ false → between (edge_back c) ≡ false
      → list_any (λ i. i == key c) raw ≡ false
  from_stays c m part lose off =
      raw_is c
      ∙ ap₂ (λ (x y : Bool). (x || y) || list_any (λ i. i == key c) (keys ended)) (joined_is (key c) ∙ part)
      (ap (list_any (λ i. i == key c)) losing_are ∙ losing_is h k c m off ∙ lose)
      ∙ ended_keys c m ∙ off

  -- ---- the keys of the changed ones

  abbrev changed : List Chain
  changed = filter (is_changed h k) (chains_at h k)

  abbrev come_keys : List ℕ
  come_keys = map (λ (o : Made). o.key) made

  abbrev comes : Edge → Bool
  comes e = list_any (λ i. i == e.key) come_keys

  comes_from : (c : Chain) → Among c changed → (e : Edge) → e.key ≡ key c → comes e ≡ true
  comes_from c m e same =
      any_from (λ i. i == e.key) come_keys (key c)
      (among_map (λ (o : Made). o.key) made (made_of h k c) (subst (Among (made_of h k c)) (sym made_is) (among_map (made_of h k) changed c m))) (eq-eqb (key c) e.key (sym same))

  comes_of : (e : Edge) → comes e ≡ true → (c : Chain) × Among c changed × (key c ≡ e.key)
  comes_of e any =
      let i = any_among (λ i. i == e.key) come_keys any in
      let one = map_among (λ (o : Made). o.key) made i.0 i.1 in
      let c = map_among (made_of h k) changed one.0 (subst (Among one.0) made_is one.1) in
      (c.0, c.1, ap (λ (o : Made). o.key) c.2 ∙ one.2 ∙ eqb-true i.0 e.key i.2)

  fresh_changed : (c : Chain) → Among c fresh → Among c changed
  fresh_changed c m = among_kept (is_changed h k) (chains_at h k) c (born_here f k old some grown (length f.edges) (omega arith) c m) (fresh_changes f k old some grown c m)

  lost_changed : (c : Chain) → Among c (lost f k old some grown) → Among c changed
  lost_changed c m = among_kept (is_changed h k) (chains_at h k) c (lost_known f k old some grown c m).0 (lost_changes f k old some grown c m)

  -- a chain before the step with the key of a changed one is a part or one of the loser's
  comes_goes : (c : Chain) → Among c finer → (e : Edge) → e.key ≡ key c → comes e ≡ true → list_any (λ i. i == key c) raw ≡ false → ⊥
  comes_goes c m e same any stay =
      let known = stays_is c m stay in
      let d = comes_of e any in
      let in_changed = changed_from f k old some grown d.0 (kept_among (is_changed h k) (chains_at h k) d.0 d.1) (filter_among (is_changed h k) (chains_at h k) d.0 d.1) in
      elim (append_among fresh (lost f k old some grown) d.0 in_changed) [
        | inl n ↦
            (let r = own_key f k old some grown d.0 (born_here f k old some grown (length f.edges) (omega arith) d.0 n) in
            true≢false (sym (part_from f k old some grown fresh d.0 r.0 (key c) n r.1 (r.2 ∙ d.2 ∙ same)) ∙ known.0))
        | inr n ↦
            (let lose = lost_known f k old some grown d.0 n in
            let is : d.0 ≡ c = same_key h (k - 1) d.0 c lose.1 m (d.2 ∙ same) in
            true≢false (sym lose.2 ∙ ap (λ (x : Chain). has_side s.loser (edge_back x)) is ∙ known.1))
      ]

  -- ---- what stays

  abbrev stay : Edge → Bool
  stay e = not (list_any (λ i. i == e.key) raw)

  abbrev remain : Edge → Bool
  remain e = not (comes e)

  not_true : (v : Bool) → not v ≡ true → v ≡ false
  not_true true e = absurd cc
  not_true false e = refl

  moved_same : (e : Edge) → has_side from e ≡ false → moved_edge from to e ≡ e
  moved_same e off =
      let both = or_parts (e.left == from) (e.right == from) off in
      ap₂ (λ (a b : Bool). record { key = e.key; left = cond a to e.left; right = cond b to e.right; points = e.points }) both.0 both.1

  -- an edge whose key stays is left as it was
  stay_there : (e : Edge) → Among e first → stay e ≡ true → Among e (filter remain (labelled_edges t))
  stay_there e m u =
      let c = chain_at_first e m in
      let same : e.key ≡ key c.0 = ap (λ (x : Edge). x.key) (sym c.2) in
      let quiet : list_any (λ i. i == key c.0) raw ≡ false = ap (λ (n : ℕ). list_any (λ i. i == n) raw) (sym same) ∙ not_true _ u in
      let known = stays_is c.0 c.1 quiet in
      let kept = among_kept (λ (e : Edge). not (between (faced faces e))) first e m (ap not (ap between (sym c.2) ∙ known.2)) in
      let off : has_side from e ≡ false = members_all (λ (e : Edge). has_side from e ≡ has_side s.loser (faced faces e)) first e sides m ∙ ap (has_side s.loser) (sym c.2) ∙ known.1 in
      let in_left : Among e left = subst (Among e) (sym left_is)
      (subst (λ (x : Edge). Among x (map (moved_edge from to) (filter (λ (e : Edge). not (between (faced faces e))) first))) (moved_same e off)
      (among_map (moved_edge from to) (filter (λ (e : Edge). not (between (faced faces e))) first) e kept)) in
      let in_table : Among e (labelled_edges t) = permuted (filter (λ (e : Edge). not (is_part_of finer fresh e.key)) left ++ state.new) (labelled_edges t) e state.edges
      (among_left (filter (λ (e : Edge). not (is_part_of finer fresh e.key)) left) state.new e
      (among_kept (λ (e : Edge). not (is_part_of finer fresh e.key)) left e in_left (ap not (ap (is_part_of finer fresh) same ∙ known.0)))) in
      among_kept remain (labelled_edges t) e in_table (ap not (false_from_ne_true (comes e) (λ any. comes_goes c.0 c.1 e same any quiet)))

  -- and no other one remains
  there_stay : (e : Edge) → Among e (filter remain (labelled_edges t)) → Among e (filter stay first)
  there_stay e m = elim (append_among (filter (λ (e : Edge). not (is_part_of finer fresh e.key)) left) state.new e
      (permuted (labelled_edges t) (filter (λ (e : Edge). not (is_part_of finer fresh e.key)) left ++ state.new) e
      (IsPermutation-sym (filter (λ (e : Edge). not (is_part_of finer fresh e.key)) left ++ state.new) (labelled_edges t) state.edges) (kept_among remain (labelled_edges t) e m))) [
        | inl n ↦ old_one n
        | inr n ↦ absurd (new_one n)
      ]
    where
      quiet : comes e ≡ false
      quiet = not_true _ (filter_among remain (labelled_edges t) e m)

      edge_now : Chain → Edge
      edge_now c = edge_of h k before c

      new_one : Among e state.new → ⊥
      new_one n =
          let c = map_among (edge_of h k before) fresh (faced t.labels e) (subst (Among (faced t.labels e)) state.new_faces (among_map (faced t.labels) state.new e n)) in
          true≢false (sym (comes_from c.0 (fresh_changed c.0 c.1) e (ap (λ (x : Edge). x.key) (sym c.2))) ∙ quiet)

      old_one : Among e (filter (λ (e : Edge). not (is_part_of finer fresh e.key)) left) → Among e (filter stay first)
      old_one n =
          let part = not_true _ (filter_among (λ (e : Edge). not (is_part_of finer fresh e.key)) left e n) in
          let o = map_among (moved_edge from to) (filter (λ (e : Edge). not (between (faced faces e))) first) e
          (subst (Among e) left_is (kept_among (λ (e : Edge). not (is_part_of finer fresh e.key)) left e n)) in
          let o_first = kept_among (λ (e : Edge). not (between (faced faces e))) first o.0 o.1 in
          let o_off = not_true _ (filter_among (λ (e : Edge). not (between (faced faces e))) first o.0 o.1) in
          let c = chain_at_first o.0 o_first in
          let same : o.0.key ≡ key c.0 = ap (λ (x : Edge). x.key) (sym c.2) in
          let e_key : e.key ≡ key c.0 = ap (λ (x : Edge). x.key) (sym o.2) ∙ same in
          let no_part : is_part_of finer fresh (key c.0) ≡ false = ap (is_part_of finer fresh) (sym e_key) ∙ part in
          let off : between (edge_back c.0) ≡ false = ap between c.2 ∙ o_off in
          let lose : has_side s.loser (edge_back c.0) ≡ false = false_from_ne_true (has_side s.loser (edge_back c.0)) (λ u.
          true≢false (sym (comes_from c.0 (lost_changed c.0 (lost_from c.0 c.1 off no_part u)) e e_key) ∙ quiet)) in
          let apart : has_side from o.0 ≡ false = members_all (λ (e : Edge). has_side from e ≡ has_side s.loser (faced faces e)) first o.0 sides o_first ∙ ap (has_side s.loser) (sym c.2) ∙ lose in
          let is : o.0 ≡ e = sym (moved_same o.0 apart) ∙ o.2 in
          subst (λ (x : Edge). Among x (filter stay first)) is
          (among_kept stay first o.0 o_first (ap not (ap (λ (n : ℕ). list_any (λ i. i == n) raw) same ∙ from_stays c.0 c.1 no_part lose off)))
        where
          up : k - 1 + 1 ≡ k
          up = omega (arith, some)

          lost_from : (c : Chain) → Among c finer → between (edge_back c) ≡ false → is_part_of finer fresh (key c) ≡ false → has_side s.loser (edge_back c) ≡ true → Among c (lost f k old some grown)
          lost_from c m off part u =
              among_kept (λ (c : Chain). not (is_part_of finer fresh (key c))) (filter (λ (c : Chain). has_side s.loser (edge_back c)) (chains_left h (k - 1))) c
              (among_kept (λ (c : Chain). has_side s.loser (edge_back c)) (chains_left h (k - 1)) c
              (among_kept (λ (c : Chain). not (is_edge_between (step_number h (k - 1 + 1)).loser (step_number h (k - 1 + 1)).winner (edge_of h (k - 1) [] c))) finer c m
              (subst (λ (i : ℕ). not (is_edge_between (step_number h i).loser (step_number h i).winner (edge_of h (k - 1) [] c)) ≡ true) (sym up) (ap not off))) u) (ap not part)

  remaining : filter remain (labelled_edges t) ≡ without_keys raw first
  remaining =
      sorted_same (λ (e : Edge). e.key) (filter remain (labelled_edges t)) (filter stay first)
      (sorted (filter remain (labelled_edges t)) (AllPairs-filter (λ (e f : Edge). e.key < f.key) remain (labelled_edges t) ascend))
      (sorted (filter stay first) (AllPairs-filter (λ (e f : Edge). e.key < f.key) stay first ascend_first))
      there_stay (λ e m. stay_there e (kept_among stay first e m) (filter_among stay first e m))

  -- ---- what comes

  coming : filter comes (labelled_edges t) ≡ edges_at t.places.items come_keys
  coming = sym (edges_at_are t.places.items state.table.keyed come_keys (pairs_mapped (λ (i j : ℕ). i < j) (λ (o : Made). o.key) made made_ascend))
    where
      made_ascend : AllPairs (λ (o p : Made). o.key < p.key) made
      made_ascend = subst (AllPairs (λ (o p : Made). o.key < p.key)) (sym made_is)
          (pairs_mapped (λ (o p : Made). o.key < p.key) (made_of h k) changed
          (AllPairs-filter (λ (c d : Chain). key c < key d) (is_changed h k) (chains_at h k) (λ i j d l u.
          ltb-true _ _ (sorted_pairs (order_by_key key nat_lt_order) (chains_at h k) (λ n d l. tt) (chains_sorted h k (chains_at h k) (chains_exist h k)) i j d l u))))

  flip : (e : Edge) → comes e ≡ not (remain e)
  flip e = by (comes e)
    where
      by : (b : Bool) → b ≡ not (not b)
      by true = refl
      by false = refl

  pub exchanged : IsChange first (joined ++ losing ++ keys ended) (edges_at t.places.items (map (λ (o : Made). o.key) made)) (labelled_edges t)
  exchanged = subst (λ (es : List Edge). IsPermutation es (labelled_edges t)) (ap₂ (λ (xs ys : List Edge). xs ++ ys) remaining coming)
      (IsPermutation-sym (labelled_edges t) (filter remain (labelled_edges t) ++ filter comes (labelled_edges t)) (IsPermutation-filter_both remain comes flip (labelled_edges t)))
