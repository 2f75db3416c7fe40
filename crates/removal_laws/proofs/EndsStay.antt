-- No end of a chain is listed: it was an end before each step, and a step takes out inner points alone.
use Rattle.std.proofs.Common.{◌≡◌, ◌≢◌, ◌⊎◌, inl, inr, ℕ, zero, suc, ◌+◌, ◌≤◌, false, List, [], map, length, All, refl, sym, ap, ◌∙◌, subst, arith}
use Rattle.std.proofs.lemmas.Bool.{or_from, false_from_ne_true}
use Rattle.std.proofs.lemmas.List.Folds.{list_any-append}
use Rattle.tgap_model.specs.declared.geometry.Point.{Point}
use Rattle.tgap_model.specs.declared.slice.Removal.{Removal}
use Rattle.tgap_model.specs.Base.{same_point}
use Rattle.tgap_model.specs.Merged.{MergedMap}
use Rattle.tgap_model.specs.Chains.{Chain, chain_start, chain_end, chain_points, first_point, last_point, chains_at}
use Rattle.tgap_model.specs.Removals.{is_removed, removals_to}
use Rattle.tgap_model.proofs.Points.{same_point-true}
use Rattle.map_laws.proofs.ChainMembers.{Among, any_among}
use Rattle.map_laws.proofs.Lists.{all_members, members_all, map_among}
use Rattle.removal_laws.specs.Trace.{Taken, removal_of, trace_at}
use Rattle.removal_laws.specs.StandLaws.{IsInnerOfChains}
use Rattle.removal_laws.specs.EndLaws.{IsChainEnd, HasEvenChains, EndsAreNotListed}
use Rattle.removal_laws.proofs.ListedVertices.{removals_next, removed_are_inner}
use Rattle.removal_laws.proofs.ChainEnds.{among_contained, chain_links, chain_arcs, chain_first, chain_last, chain_has_points, AreLong, ends_were_ends}

module _ (h : MergedMap) (j : ℕ) (long : All (λ a. 2 ≤ length a.points) h.base.arcs) where
  long_arcs : (c : Chain) → Among c (chains_at h j) → AreLong h.base.arcs c
  long_arcs c m d n =
      let l = chain_arcs h j c m d n in
      long d.arc (record { left = 0; right = 0; points = [] }) l

  -- what the step takes out is no end of a chain after it
  module _ (inner : All (λ t. IsInnerOfChains h j t.b) (trace_at h j)) (p : Point) (end : IsChainEnd h.base.arcs (chains_at h j) p) where
    apart : (t : Taken) → IsInnerOfChains h j t.b → t.b ≡ p → ⊥
    apart t i e = by (among_contained (chains_at h j) end.0 end.1) end.2
      where
        by : Among end.0 (chains_at h j) → (chain_start h.base.arcs end.0 ≡ p) ⊎ (chain_end h.base.arcs end.0 ≡ p) → ⊥
        by m (inl f) = members_all (λ c. first_point (chain_points h.base.arcs c) ≢ t.b) (chains_at h j) end.0 i.no_start m
            (chain_first h.base.arcs end.0 (chain_links h j end.0 m) (long_arcs end.0 m) ∙ f ∙ sym e)
        by m (inr f) = members_all (λ c. last_point (chain_points h.base.arcs c) ≢ t.b) (chains_at h j) end.0 i.no_end m
            (chain_last h.base.arcs end.0 (chain_links h j end.0 m) (long_arcs end.0 m) ∙ f ∙ sym e)

    not_taken : is_removed (map removal_of (trace_at h j)) p ≡ false
    not_taken = false_from_ne_true (is_removed (map removal_of (trace_at h j)) p) (λ e.
        let r = any_among (λ (r : Removal). same_point r.point p) (map removal_of (trace_at h j)) e in
        let t = map_among removal_of (trace_at h j) r.0 r.1 in
        apart t.0 (members_all (λ (u : Taken). IsInnerOfChains h j u.b) (trace_at h j) t.0 inner t.1)
        (ap (λ (s : Removal). s.point) t.2 ∙ same_point-true r.0.point p r.2))

pub ends_are_not_listed : EndsAreNotListed
unfolding removals_to
ends_are_not_listed h zero even long once p end = refl
ends_are_not_listed h (suc k) even long once p end =
    ap (λ (rs : List Removal). is_removed rs p) (removals_next h k (omega (arith, even.within)))
    ∙ list_any-append (λ (r : Removal). same_point r.point p) (removals_to h k) (map removal_of (trace_at h (suc k)))
    ∙ or_from (is_removed (removals_to h k) p) (is_removed (map removal_of (trace_at h (suc k))) p)
    (ends_are_not_listed h k
    (record { numbered = even.numbered; within = omega (arith, even.within); faces = even.faces; even = λ j l. even.even j (omega arith) })
    long (λ j one last. once j one (omega arith)) p before)
    (not_taken h (suc k) long inner p end)
  where
    next : k + 1 ≡ suc k
    next = omega arith

    before : IsChainEnd h.base.arcs (chains_at h k) p
    before = ends_were_ends h k (subst (HasEvenChains h) (sym next) even) p (subst (λ i. IsChainEnd h.base.arcs (chains_at h i) p) (sym next) end)

    inner : All (λ t. IsInnerOfChains h (suc k) t.b) (trace_at h (suc k))
    inner = removed_are_inner h (suc k) (once (suc k) (omega arith) (omega arith))
        (all_members (λ c. chain_points h.base.arcs c ≢ []) (chains_at h (suc k))
        (λ c m. chain_has_points h.base.arcs c (chain_links h (suc k) c m) (long_arcs h (suc k) long c m)))
