-- The edges of the chains after a step, before its sweep: no two points in a row are one, and no end is listed by then.
use Rattle.std.proofs.Common.{◌≡◌, inl, inr, ℕ, suc, ◌+◌, ◌-◌, ◌<◌, ◌≤◌, ◌==◌, true, false, List, [], ◌++◌, filter, length, refl, sym, ap, ◌∙◌, subst, arith}
use Rattle.std.proofs.lemmas.Bool.{or_parts}
use Rattle.std.proofs.lemmas.List.Folds.{list_any-append}
use Rattle.tgap_model.specs.declared.geometry.Point.{Point}
use Rattle.tgap_model.specs.declared.slice.Edge.{Edge}
use Rattle.tgap_model.specs.declared.slice.Removal.{Removal}
use Rattle.tgap_model.specs.Base.{BaseMap, is_base, same_point, no_repeat}
use Rattle.tgap_model.specs.Partition.{IsPartition, base_segments}
use Rattle.tgap_model.specs.History.{history_of}
use Rattle.tgap_model.specs.Merged.{MergedMap, merged}
use Rattle.tgap_model.specs.Chains.{Chain, chain_start, chain_end, chain_points, degree, chains_at, first_point, last_point}
use Rattle.tgap_model.specs.Removals.{is_removed, without, edge_of, edges_of, removals_to}
use Rattle.map_laws.proofs.ChainMembers.{Among}
use Rattle.map_laws.proofs.ChainsExist.{chains_maximal}
use Rattle.map_laws.proofs.JoinPaths.{path_named}
use Rattle.map_laws.proofs.Lists.{members_all, among_map}
use Rattle.removal_laws.specs.StandLaws.{AreSound}
use Rattle.removal_laws.specs.EndLaws.{IsChainEnd}
use Rattle.removal_laws.proofs.ChainEnds.{chain_arcs, contained}
use Rattle.step_laws.proofs.EachSlice.{each_good}
use Rattle.step_laws.proofs.EdgesAlong.{Anywhere}
use Rattle.step_laws.proofs.JoinedChains.{step_edges}
use Rattle.record_laws.proofs.MapFacts.{numbered, based, long, even, ends_stay}
use Rattle.record_laws.proofs.PieceCuts.{IsSpan, span_first, span_last, span_length}
use Rattle.record_laws.proofs.PutsBack.{listed_at}

module _ (m : BaseMap) (base : is_base m ≡ true) (planar : IsPartition (base_segments m)) (j : ℕ) (one : 1 ≤ j) (last : j ≤ length (history_of m)) where
  abbrev h : MergedMap
  h = merged m

  abbrev k : ℕ
  k = j - 1

  abbrev now : List Removal
  now = filter (λ (r : Removal). r.step == j) (removals_to h j)

  up : k + 1 ≡ j
  up = omega (arith, one)

  few : k < length (history_of m)
  few = omega (arith, one, last)

  -- ---- what is listed

  listed : removals_to h j ≡ removals_to h k ++ now
  listed =
      let next : suc k ≡ j = omega (arith, one) in
      subst (λ (i : ℕ). removals_to h i ≡ removals_to h k ++ filter (λ (r : Removal). r.step == i) (removals_to h i)) next (listed_at h k few)

  -- an end of a chain is listed neither before the step nor at it
  ends_free : (p : Point) → IsChainEnd m.arcs (chains_at h j) p → (is_removed (removals_to h k) p ≡ false) × (is_removed now p ≡ false)
  ends_free p e =
      or_parts (is_removed (removals_to h k) p) (is_removed now p)
      (sym (list_any-append (λ (r : Removal). same_point r.point p) (removals_to h k) now)
      ∙ ap (λ (rs : List Removal). is_removed rs p) (sym listed) ∙ ends_stay m base planar j last p e)

  module _ (c : Chain) (n : Among c (chains_at h j)) where
    start_free : (is_removed (removals_to h k) (chain_start m.arcs c) ≡ false) × (is_removed now (chain_start m.arcs c) ≡ false)
    start_free = ends_free (chain_start m.arcs c) (c, contained (chains_at h j) c n, inl refl)

    end_free : (is_removed (removals_to h k) (chain_end m.arcs c) ≡ false) × (is_removed now (chain_end m.arcs c) ≡ false)
    end_free = ends_free (chain_end m.arcs c) (c, contained (chains_at h j) c n, inr refl)

    span : IsSpan m.arcs (removals_to h k) c
    span = record {
      path = path_named m.arcs (λ q. degree h j q ≡ 2) Anywhere (λ q two. tt) c (chains_maximal h j c n).path;
      long = λ d o. (let l = chain_arcs h j c n d o in long m base planar d.arc (record { left = 0; right = 0; points = [] }) l);
      start = start_free.0;
      end = end_free.0;
    }

    -- ---- the points of its edge before the sweep

    pub row_first_free : is_removed (filter (λ (r : Removal). r.step == j) (removals_to (merged m) j))
        (first_point (without (removals_to (merged m) (j - 1)) (chain_points m.arcs c))) ≡ false
    row_first_free = ap (is_removed now) (span_first m.arcs (removals_to h k) c span) ∙ start_free.1

    pub row_last_free : is_removed (filter (λ (r : Removal). r.step == j) (removals_to (merged m) j))
        (last_point (without (removals_to (merged m) (j - 1)) (chain_points m.arcs c))) ≡ false
    row_last_free = ap (is_removed now) (span_last m.arcs (removals_to h k) c span) ∙ end_free.1

    pub row_two : 2 ≤ length (without (removals_to (merged m) (j - 1)) (chain_points m.arcs c))
    row_two = span_length m.arcs (removals_to h k) c span

    sound : AreSound (edges_of h j (removals_to h k) (chains_at h j))
    sound = subst (λ (i : ℕ). AreSound (edges_of h i (removals_to h k) (chains_at h i))) up
        (step_edges h k (removals_to h k) (numbered m base planar) few (based m base planar) (long m base planar) (even m base planar k) (even m base planar (k + 1))
        (ends_stay m base planar k (omega (arith, few))) (each_good m base planar k (omega (arith, few))).sound).0

    pub row_apart : no_repeat (without (removals_to (merged m) (j - 1)) (chain_points m.arcs c)) ≡ true
    row_apart =
        members_all (λ (e : Edge). no_repeat e.points ≡ true) (edges_of h j (removals_to h k) (chains_at h j)) (edge_of h j (removals_to h k) c)
        sound.steps (among_map (edge_of h j (removals_to h k)) (chains_at h j) c n)
