-- The edges that a step changed and those that lose a point, in order of key, are all that may need a mend.
use Rattle.std.proofs.Common.{◌≡◌, ◌≢◌, inl, inr, ℕ, ◌-◌, ◌<◌, ◌≤◌, ◌==◌, ◌&&◌, ◌||◌, Bool, true, false, cond, not, nat_lt, List, [], ◌∷◌, ◌++◌, map, filter, length, AllPairs, IsPermutation, Option, refl, sym, ap, ap₂, ◌∙◌, subst, true≢false, arith}
use Rattle.std.specs.List.{list_any}
use Rattle.std.specs.List.Sorted.{IsNonDecreasing, IsNonDecreasingBy}
use Rattle.std.proofs.lemmas.Bool.{eq-eqb, eqb-true, and_parts, or_parts, or_left, or_right, false_from_ne_true, ltb-true}
use Rattle.std.proofs.lemmas.List.Kept.{AllPairs-filter}
use Rattle.lemmas.specs.Sorting.{is_sorted_by}
use Rattle.lemmas.proofs.Orders.{nat_lt_order, order_by_key}
use Rattle.lemmas.proofs.Sorting.{sorted_pairs}
use Rattle.tgap_model.specs.declared.geometry.Point.{Point}
use Rattle.tgap_model.specs.declared.merge.MergeStep.{MergeStep}
use Rattle.tgap_model.specs.declared.slice.Edge.{Edge}
use Rattle.tgap_model.specs.declared.slice.Removal.{Removal}
use Rattle.tgap_model.specs.Base.{BaseMap, is_base}
use Rattle.tgap_model.specs.Partition.{IsPartition, base_segments}
use Rattle.tgap_model.specs.History.{history_of}
use Rattle.tgap_model.specs.Merged.{MergedMap, merged, step_number}
use Rattle.tgap_model.specs.Chains.{Chain, key, chains_at}
use Rattle.tgap_model.specs.Removals.{edge_of, edges_of, has_side, removals_to}
use Rattle.tgap_model.specs.Records.{runs}
use Rattle.map_laws.proofs.ChainMembers.{Among, any_among, filter_among, append_among, among_left, among_right}
use Rattle.map_laws.proofs.ChainLinks.{chains_sorted}
use Rattle.map_laws.proofs.ChainsExist.{chains_exist}
use Rattle.map_laws.proofs.Lists.{any_from, kept_among, among_kept, map_among, among_map}
use Rattle.grid_index.specs.Live.{keys}
use Rattle.record_laws.proofs.Holders.{same_key}
use Rattle.edge_forest.specs.declared.face_labels.FaceLabels.{FaceLabels}
use Rattle.tgap_build.specs.declared.live_edges.Made.{Made}
use Rattle.tgap_build.specs.Table.{faced, edge_with}
use Rattle.tgap_build.specs.Changes.{whole_of, made_of, is_changed, may_need}
use Rattle.tgap_build.specs.Running.{has_point, has_any}
use Rattle.tgap_build.proofs.Filters.{filter_map}
use Rattle.tgap_build.proofs.KeyedEdges.{sorted_from_pairs, nondecreasing, pairs_mapped, pairs_both, in_order_same}
use Rattle.tgap_build.proofs.StepMends.{one_run, whole_is}

-- where no point is in the set, those that may need a mend are the changed ones
pub none_needed : (h : MergedMap) (k : ℕ) (gone : List Point) → ((p : Point) → has_point gone p ≡ false) → (cs : List Chain) → filter (is_changed h k) cs ≡ filter (may_need h k gone) cs
none_needed h k gone none [] = refl
none_needed h k gone none (c ∷ cs) = ap₂ (λ (b : Bool) (ds : List Chain). cond b (c ∷ ds) ds) (same (is_changed h k c)) (none_needed h k gone none cs)
  where
    quiet : (ps : List Point) → list_any (has_point gone) ps ≡ false
    quiet [] = refl
    quiet (p ∷ ps) = ap₂ (λ (a b : Bool). a || b) (none p) (quiet ps)

    off : has_any gone (edge_of h k (removals_to h (k - 1)) c) ≡ false
    off = quiet (edge_of h k (removals_to h (k - 1)) c).points

    same : (b : Bool) → b ≡ (b || (has_any gone (edge_of h k (removals_to h (k - 1)) c) && has_side (step_number h k).made (edge_of h k (removals_to h (k - 1)) c)))
    same true = refl
    same false = sym (ap (λ (v : Bool). v && has_side (step_number h k).made (edge_of h k (removals_to h (k - 1)) c)) off)

not_true : (v : Bool) → not v ≡ true → v ≡ false
not_true true e = absurd cc
not_true false e = refl

module _ (m : BaseMap) (base : is_base m ≡ true) (planar : IsPartition (base_segments m)) (k : ℕ) (some : 0 < k) (last : k ≤ length (history_of m)) (gone : List Point) where
  abbrev h : MergedMap
  h = merged m

  abbrev s : MergeStep
  s = step_number h k

  abbrev before : List Removal
  before = removals_to h (k - 1)

  abbrev edge_now : Chain → Edge
  edge_now c = edge_of h k before c

  abbrev all : List Chain
  all = chains_at h k

  abbrev loses : Chain → Bool
  loses c = has_any gone (edge_now c) && has_side s.made (edge_now c)

  abbrev needs : Chain → Bool
  needs = may_need h k gone

  abbrev changed : List Chain
  changed = filter (is_changed h k) all

  -- those that lose a point, and were not changed
  abbrev plain : List Chain
  plain = filter (λ (c : Chain). not (is_changed h k c)) (filter loses all)

  made_key : (cs : List Chain) → map (λ (o : Made). o.key) (map (made_of h k) cs) ≡ map key cs
  made_key [] = refl
  made_key (c ∷ cs) = ap (λ (is : List ℕ). key c ∷ is) (made_key cs)

  -- the keys of the changed ones tell which those are
  changed_key : (c : Chain) → Among c all → list_any (λ j. j == key c) (map key changed) ≡ is_changed h k c
  changed_key c n = by (is_changed h k c) refl
    where
      by : (b : Bool) → is_changed h k c ≡ b → list_any (λ j. j == key c) (map key changed) ≡ b
      by true t = any_from (λ j. j == key c) (map key changed) (key c) (among_map key changed c (among_kept (is_changed h k) all c n t)) (eq-eqb (key c) (key c) refl)
      by false t = false_from_ne_true (list_any (λ j. j == key c) (map key changed)) (λ any.
          let i = any_among (λ j. j == key c) (map key changed) any in
          let d = map_among key changed i.0 i.1 in
          let same : d.0 ≡ c = same_key h k d.0 c (kept_among (is_changed h k) all d.0 d.1) n (d.2 ∙ eqb-true i.0 (key c) i.2) in
          true≢false (sym (filter_among (is_changed h k) all d.0 d.1) ∙ ap (is_changed h k) same ∙ t))

  -- they stand in order of key
  pub changed_order : IsNonDecreasing (map (λ (o : Made). o.key) (map (made_of (merged m) k) (filter (is_changed (merged m) k) (chains_at (merged m) k))))
  changed_order =
      nondecreasing (λ (i : ℕ). i) (map (λ (o : Made). o.key) (map (made_of h k) changed))
      (pairs_mapped (λ (i j : ℕ). i < j) (λ (o : Made). o.key) (map (made_of h k) changed)
      (pairs_mapped (λ (o p : Made). o.key < p.key) (made_of h k) changed
      (AllPairs-filter (λ (c d : Chain). key c < key d) (is_changed h k) all (λ i j d l u.
      ltb-true _ _ (sorted_pairs (order_by_key key nat_lt_order) all (λ n d l. tt) (chains_sorted h k all (chains_exist h k)) i j d l u)))))

  filter_same : {A : Type 0} (p q : A → Bool) (xs : List A) → ((x : A) → Among x xs → p x ≡ q x) → filter p xs ≡ filter q xs
  filter_same p q [] e = refl
  filter_same p q (x ∷ xs) e = ap₂ (λ (b : Bool) ys. cond b (x ∷ ys) ys) (e x (inl refl)) (filter_same p q xs (λ y o. e y (inr o)))

  -- the keys of the others that lose a point
  plain_keys : filter (λ i. not (list_any (λ j. j == i) (map (λ (o : Made). o.key) (map (made_of h k) changed)))) (map key (filter loses all)) ≡ map key plain
  plain_keys =
      ap (λ (ks : List ℕ). filter (λ i. not (list_any (λ j. j == i) ks)) (map key (filter loses all))) (made_key changed)
      ∙ filter_map (λ i. not (list_any (λ j. j == i) (map key changed))) key (filter loses all)
      ∙ ap (map key) (filter_same (λ (c : Chain). not (list_any (λ j. j == key c) (map key changed))) (λ (c : Chain). not (is_changed h k c)) (filter loses all)
      (λ c n. ap not (changed_key c (kept_among loses all c n))))

  -- the labelled edges with the label of the new face that have a point of the set have those keys
  pub losing_keys_are : (labels : FaceLabels) (label : ℕ) (edges : List Edge)
      → map (faced labels) edges ≡ edges_of (merged m) k (removals_to (merged m) (k - 1)) (chains_at (merged m) k)
      → ((e : Edge) → Among e edges → has_side label e ≡ has_side (step_number (merged m) k).made (faced labels e))
      → keys (filter (has_any gone) (filter (has_side label) edges)) ≡ map key (filter (λ (c : Chain). has_any gone (edge_of (merged m) k (removals_to (merged m) (k - 1)) c)
      && has_side (step_number (merged m) k).made (edge_of (merged m) k (removals_to (merged m) (k - 1)) c)) (chains_at (merged m) k))
  losing_keys_are labels label edges faces sides =
      ap keys (both edges) ∙ ap keys (filter_same (λ (e : Edge). has_any gone e && has_side label e) (λ (e : Edge). has_any gone e && has_side s.made (faced labels e)) edges
      (λ e n. ap (λ (b : Bool). has_any gone e && b) (sides e n)))
      ∙ keys_faced (filter (λ (e : Edge). has_any gone e && has_side s.made (faced labels e)) edges)
      ∙ ap keys (sym (filter_map (λ (e : Edge). has_any gone e && has_side s.made e) (faced labels) edges)
      ∙ ap (filter (λ (e : Edge). has_any gone e && has_side s.made e)) faces
      ∙ filter_map (λ (e : Edge). has_any gone e && has_side s.made e) edge_now all)
      ∙ keys_now (filter loses all)
    where
      keys_faced : (es : List Edge) → keys es ≡ keys (map (faced labels) es)
      keys_faced [] = refl
      keys_faced (e ∷ es) = ap (λ (is : List ℕ). e.key ∷ is) (keys_faced es)

      keys_now : (cs : List Chain) → keys (map edge_now cs) ≡ map key cs
      keys_now [] = refl
      keys_now (c ∷ cs) = ap (λ (is : List ℕ). key c ∷ is) (keys_now cs)

      both : (es : List Edge) → filter (has_any gone) (filter (has_side label) es) ≡ filter (λ (e : Edge). has_any gone e && has_side label e) es
      both [] = refl
      both (e ∷ es) = by (has_side label e) (has_any gone e) refl (both es)
        where
          by : (b a : Bool) → has_any gone e ≡ a → filter (has_any gone) (filter (has_side label) es) ≡ filter (λ (e : Edge). has_any gone e && has_side label e) es
              → filter (has_any gone) (cond b (e ∷ filter (has_side label) es) (filter (has_side label) es))
              ≡ cond (a && b) (e ∷ filter (λ (e : Edge). has_any gone e && has_side label e) es) (filter (λ (e : Edge). has_any gone e && has_side label e) es)
          by true true u r = ap (λ (v : Bool). cond v (e ∷ filter (has_any gone) (filter (has_side label) es)) (filter (has_any gone) (filter (has_side label) es))) u ∙ ap (λ xs. e ∷ xs) r
          by true false u r = ap (λ (v : Bool). cond v (e ∷ filter (has_any gone) (filter (has_side label) es)) (filter (has_any gone) (filter (has_side label) es))) u ∙ r
          by false true u r = r
          by false false u r = r

  module _ (places : List (Option Edge)) (points : (c : Chain) → Among c (chains_at (merged m) k) → (edge_with places (key c)).points ≡ (edge_of (merged m) k (removals_to (merged m) (k - 1)) c).points) where
    plain_known : (c : Chain) → Among c plain → Among c all × (loses c ≡ true) × (is_changed h k c ≡ false)
    plain_known c n =
        let inner = kept_among (λ (c : Chain). not (is_changed h k c)) (filter loses all) c n in
        (kept_among loses all c inner, filter_among loses all c inner, not_true _ (filter_among (λ (c : Chain). not (is_changed h k c)) (filter loses all) c n))

    -- each is one piece
    plain_whole : (c : Chain) → Among c plain → whole_of places s [] (key c) ≡ made_of h k c
    plain_whole c n =
        let known = plain_known c n in
        let off = or_parts (nat_lt 1 (length (runs (chains_at h (k - 1)) c))) (has_side s.loser (edge_of h (k - 1) before c)) known.2 in
        whole_is m base planar k some last c known.0 (one_run m base planar k some last c known.0 off.0)
        (and_parts (has_any gone (edge_now c)) (has_side s.made (edge_now c)) known.1).1 places [] (points c known.0) (sym off.1)

    plain_made : (cs : List Chain) → ((c : Chain) → Among c cs → Among c plain) → map (whole_of places s []) (map key cs) ≡ map (made_of h k) cs
    plain_made [] sub = refl
    plain_made (c ∷ cs) sub = ap₂ (λ (o : Made) (os : List Made). o ∷ os) (plain_whole c (sub c (inl refl))) (plain_made cs (λ d n. sub d (inr n)))

    chains_apart : AllPairs (λ (c d : Chain). key c ≢ key d) all
    chains_apart i j d l u e =
        let less = ltb-true _ _ (sorted_pairs (order_by_key key nat_lt_order) all (λ n d l. tt) (chains_sorted h k all (chains_exist h k)) i j d l u) in
        absurd (omega (arith, less, e))

    both_apart : AllPairs (λ (c d : Chain). key c ≢ key d) (changed ++ plain)
    both_apart = pairs_both (λ (c d : Chain). key c ≢ key d) changed plain
        (AllPairs-filter (λ (c d : Chain). key c ≢ key d) (is_changed h k) all chains_apart)
        (AllPairs-filter (λ (c d : Chain). key c ≢ key d) (λ (c : Chain). not (is_changed h k c)) (filter loses all) (AllPairs-filter (λ (c d : Chain). key c ≢ key d) loses all chains_apart))
        (λ c d n o e.
        let known = plain_known d o in
        let same : c ≡ d = same_key h k c d (kept_among (is_changed h k) all c n) known.0 e in
        true≢false (sym (filter_among (is_changed h k) all c n) ∙ ap (is_changed h k) same ∙ known.2))

    -- in order of key they are all that may need a mend
    pub needed_all : (losing : List ℕ) → losing ≡ map key (filter (λ (c : Chain). has_any gone (edge_of (merged m) k (removals_to (merged m) (k - 1)) c)
        && has_side (step_number (merged m) k).made (edge_of (merged m) k (removals_to (merged m) (k - 1)) c)) (chains_at (merged m) k))
        → (made sorted : List Made) → made ≡ map (made_of (merged m) k) (filter (is_changed (merged m) k) (chains_at (merged m) k))
        → IsPermutation (made ++ map (whole_of places (step_number (merged m) k) []) (filter (λ i. not (list_any (λ j. j == i) (map (λ (o : Made). o.key) made))) losing)) sorted
        → IsNonDecreasingBy (λ (o : Made). o.key) sorted
        → sorted ≡ map (made_of (merged m) k) (filter (may_need (merged m) k gone) (chains_at (merged m) k))
    needed_all losing losing_is made sorted made_is moved order =
        in_order_same (λ (o : Made). o.key) (map (made_of h k) (changed ++ plain)) sorted (map (made_of h k) (filter needs all))
        (subst (λ (os : List Made). IsPermutation os sorted) raw_is moved) order
        (pairs_mapped (λ (o p : Made). o.key ≢ p.key) (made_of h k) (changed ++ plain) both_apart) ascend there back
      where
        joined : (cs ds : List Chain) → map (made_of h k) cs ++ map (made_of h k) ds ≡ map (made_of h k) (cs ++ ds)
        joined [] ds = refl
        joined (c ∷ cs) ds = ap (λ (os : List Made). made_of h k c ∷ os) (joined cs ds)

        raw_is : made ++ map (whole_of places s []) (filter (λ i. not (list_any (λ j. j == i) (map (λ (o : Made). o.key) made))) losing) ≡ map (made_of h k) (changed ++ plain)
        raw_is =
            ap₂ (λ (os : List Made) (is : List ℕ). os ++ map (whole_of places s []) (filter (λ i. not (list_any (λ j. j == i) (map (λ (o : Made). o.key) os))) is)) made_is losing_is
            ∙ ap (λ (is : List ℕ). map (made_of h k) changed ++ map (whole_of places s []) is) plain_keys
            ∙ ap (λ (os : List Made). map (made_of h k) changed ++ os) (plain_made plain (λ c n. n))
            ∙ joined changed plain

        ascend : is_sorted_by (λ (o p : Made). nat_lt o.key p.key) (map (made_of h k) (filter needs all)) ≡ true
        ascend = sorted_from_pairs (λ (o p : Made). nat_lt o.key p.key) (map (made_of h k) (filter needs all))
            (pairs_mapped (λ (o p : Made). nat_lt o.key p.key ≡ true) (made_of h k) (filter needs all)
            (AllPairs-filter (λ (c d : Chain). nat_lt (key c) (key d) ≡ true) needs all
            (sorted_pairs (order_by_key key nat_lt_order) all (λ n d l. tt) (chains_sorted h k all (chains_exist h k)))))

        there : (o : Made) → Among o (map (made_of h k) (changed ++ plain)) → Among o (map (made_of h k) (filter needs all))
        there o n =
            let c = map_among (made_of h k) (changed ++ plain) o n in
            subst (λ (x : Made). Among x (map (made_of h k) (filter needs all))) c.2 (among_map (made_of h k) (filter needs all) c.0 (elim (append_among changed plain c.0 c.1) [
              | inl p ↦ among_kept needs all c.0 (kept_among (is_changed h k) all c.0 p) (or_left (is_changed h k c.0) (loses c.0) (filter_among (is_changed h k) all c.0 p))
              | inr p ↦ (let known = plain_known c.0 p in among_kept needs all c.0 known.0 (or_right (is_changed h k c.0) (loses c.0) known.1))
            ]))

        back : (o : Made) → Among o (map (made_of h k) (filter needs all)) → Among o (map (made_of h k) (changed ++ plain))
        back o n =
            let c = map_among (made_of h k) (filter needs all) o n in
            subst (λ (x : Made). Among x (map (made_of h k) (changed ++ plain))) c.2
            (among_map (made_of h k) (changed ++ plain) c.0 (of c.0 (kept_among needs all c.0 c.1) (is_changed h k c.0) refl (filter_among needs all c.0 c.1)))
          where
            of : (c : Chain) → Among c all → (b : Bool) → is_changed h k c ≡ b → (b || loses c) ≡ true → Among c (changed ++ plain)
            of c n true e t = among_left changed plain c (among_kept (is_changed h k) all c n e)
            of c n false e t = among_right changed plain c (among_kept (λ (c : Chain). not (is_changed h k c)) (filter loses all) c (among_kept loses all c n t) (ap not e))
