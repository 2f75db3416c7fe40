-- What a step removes: points of the map, each once, that no step before removed.
use Rattle.std.proofs.Common.{◌≡◌, ◌≢◌, inl, inr, ℕ, suc, ◌-◌, ◌<◌, ◌≤◌, true, false, List, [], ◌∷◌, ◌++◌, map, length, AllPairs, refl, sym, subst, arith}
use Rattle.std.specs.Prelude.{count_by, flat_map}
use Rattle.std.proofs.lemmas.Bool.{false_from_ne_true}
use Rattle.lemmas.proofs.Members.{AllPairs-head, AllPairs-tail}
use Rattle.tgap_model.specs.declared.geometry.Point.{Point}
use Rattle.tgap_model.specs.declared.base.BaseArc.{BaseArc}
use Rattle.tgap_model.specs.declared.slice.Removal.{Removal}
use Rattle.tgap_model.specs.Base.{BaseMap, is_base, same_point}
use Rattle.tgap_model.specs.Partition.{IsPartition, base_segments}
use Rattle.tgap_model.specs.History.{history_of}
use Rattle.tgap_model.specs.Merged.{MergedMap, merged, step_number}
use Rattle.tgap_model.specs.Chains.{Link, Chain, arc_number, chain_points, chains_at}
use Rattle.tgap_model.specs.Removals.{is_removed, sweep, removals_to}
use Rattle.tgap_model.proofs.Points.{same_point-true, same_point-from}
use Rattle.map_laws.proofs.ChainMembers.{Among, any_among, among_right, among_counts, counted_among}
use Rattle.map_laws.proofs.Lists.{members_all, map_among, sum_some, among_flat}
use Rattle.removal_laws.specs.Trace.{Taken, removal_of, edges_before_sweep, step_area, trace_at}
use Rattle.removal_laws.specs.StandLaws.{IsInnerOfChains, inner_points}
use Rattle.removal_laws.proofs.ChainCounts.{chain_times}
use Rattle.removal_laws.proofs.ChainEnds.{among_contained, chain_arcs}
use Rattle.removal_laws.proofs.ListedVertices.{removals_next}
use Rattle.removal_laws.proofs.SweptLess.{inner_among}
use Rattle.removal_laws.proofs.StandOnce.{partition_has_removals}
use Rattle.removal_laws.proofs.Tracing.{at_step}
use Rattle.slice_laws.proofs.Coverage.{number_among}

-- members of two lists whose pairs are in a relation
pairs_across : {A : Type 0} (R : A → A → Type 0) (xs ys : List A) → AllPairs R (xs ++ ys) → (x y : A) → Among x xs → Among y ys → R x y
pairs_across R [] ys h x y m n = absurd m
pairs_across R (z ∷ xs) ys h x y (inl e) n = subst (λ w. R w y) e (members_all (R z) (xs ++ ys) y (AllPairs-head R z (xs ++ ys) h) (among_right xs ys y n))
pairs_across R (z ∷ xs) ys h x y (inr m) n = pairs_across R xs ys (AllPairs-tail R z (xs ++ ys) h) x y m n

pairs_behind : {A : Type 0} (R : A → A → Type 0) (xs ys : List A) → AllPairs R (xs ++ ys) → AllPairs R ys
pairs_behind R [] ys h = h
pairs_behind R (x ∷ xs) ys h = pairs_behind R xs ys (AllPairs-tail R x (xs ++ ys) h)

-- the points of chains are points of the map
pub chain_point : (h : MergedMap) (k : ℕ) (c : Chain) → Among c (chains_at h k) → (b : Point) → Among b (chain_points h.base.arcs c)
    → (i : ℕ) × (i < length h.base.arcs) × Among b (arc_number h.base.arcs i).points
chain_point h k c m b n =
    let d = sum_some (λ (l : Link). count_by (same_point b) (arc_number h.base.arcs l.arc).points) c
    (omega (arith, chain_times h.base.arcs b c, among_counts (same_point b) (chain_points h.base.arcs c) b n (same_point-from b b refl))) in
    let q = counted_among (same_point b) (arc_number h.base.arcs d.0.arc).points d.2 in
    (d.0.arc, chain_arcs h k c m d.0 d.1, subst (λ p. Among p (arc_number h.base.arcs d.0.arc).points) (sym (same_point-true b q.0 q.2)) q.1)

module _ (m : BaseMap) (base : is_base m ≡ true) (planar : IsPartition (base_segments m)) (k : ℕ) (some : 0 < k) (within : k ≤ length (history_of m)) where
  -- the vertices that the step removes
  abbrev pub step_list : List Removal
  step_list = map removal_of (trace_at (merged m) k)

  -- they are those that its sweep takes out of the edges as they are then
  pub swept_is : map (λ p. record { point = p; step = k }) (sweep m.rules.ratio (step_area (merged m) k) (step_number (merged m) k).made (edges_before_sweep (merged m) k))
      ≡ step_list
  swept_is = sym (at_step (merged m) k).gone

  -- they follow those of the steps before
  pub listed_next : removals_to (merged m) k ≡ removals_to (merged m) (k - 1) ++ step_list
  listed_next =
      let next : suc (k - 1) ≡ k = omega (arith, some) in
      subst (λ (i : ℕ). removals_to (merged m) i ≡ removals_to (merged m) (k - 1) ++ map removal_of (trace_at (merged m) i)) next
      (removals_next (merged m) (k - 1) (omega (arith, some, within)))

  both_apart : AllPairs (λ r s. r.point ≢ s.point) (removals_to (merged m) (k - 1) ++ step_list)
  both_apart = subst (AllPairs (λ (r s : Removal). r.point ≢ s.point)) listed_next (partition_has_removals m base planar k).once

  -- each once
  pub step_apart : AllPairs (λ r s. r.point ≢ s.point) step_list
  step_apart = pairs_behind (λ (r s : Removal). r.point ≢ s.point) (removals_to (merged m) (k - 1)) step_list both_apart

  -- none was removed before
  pub step_fresh : (r : Removal) → Among r step_list → is_removed (removals_to (merged m) (k - 1)) r.point ≡ false
  step_fresh r n = false_from_ne_true (is_removed (removals_to (merged m) (k - 1)) r.point) (λ e.
      let s = any_among (λ (s : Removal). same_point s.point r.point) (removals_to (merged m) (k - 1)) e in
      pairs_across (λ (s t : Removal). s.point ≢ t.point) (removals_to (merged m) (k - 1)) step_list both_apart s.0 r s.1 n (same_point-true s.0.point r.point s.2))

  -- each is a point of the map
  pub step_point : (r : Removal) → Among r step_list → Among r.point (flat_map (λ a. a.points) m.arcs)
  step_point r n =
      let t = map_among removal_of (trace_at (merged m) k) r n in
      subst (λ (s : Removal). Among s.point (flat_map (λ a. a.points) m.arcs)) t.2
      (of_chain t.0.b (members_all (λ (u : Taken). IsInnerOfChains (merged m) k u.b) (trace_at (merged m) k) t.0 (partition_has_removals m base planar k).inner t.1))
    where
      of_chain : (b : Point) → IsInnerOfChains (merged m) k b → Among b (flat_map (λ a. a.points) m.arcs)
      of_chain b i =
          let points = chain_points m.arcs i.chain in
          let inner = inner_among points b (among_contained (inner_points points) b i.inner) in
          let place = chain_point (merged m) k i.chain (among_contained (chains_at (merged m) k) i.chain i.member) b inner in
          among_flat (λ (a : BaseArc). a.points) m.arcs (arc_number m.arcs place.0) b (number_among m.arcs place.0 place.1) place.2
