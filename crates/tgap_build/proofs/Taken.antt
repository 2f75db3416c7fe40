-- What a sweep takes out of the edges.
use Rattle.std.proofs.Common.{◌≡◌, ℕ, suc, ◌-◌, ◌<◌, ◌≤◌, ℤ, Bool, true, false, ◌==◌, List, [], ◌∷◌, ◌++◌, length, length-append, get_or, filter, refl, sym, ap, ap₂, ◌∙◌, subst, arith}
use Rattle.std.proofs.lemmas.List.{append_cancel_left, get_or_append_left}
use Rattle.tgap_model.specs.declared.geometry.Point.{Point}
use Rattle.tgap_model.specs.declared.slice.Edge.{Edge}
use Rattle.tgap_model.specs.declared.slice.Removal.{Removal}
use Rattle.tgap_model.specs.Base.{BaseMap, is_base}
use Rattle.tgap_model.specs.Partition.{IsPartition, base_segments}
use Rattle.tgap_model.specs.History.{history_of}
use Rattle.tgap_model.specs.Merged.{merged}
use Rattle.tgap_model.specs.Chains.{Chain, chain_points, chains_at}
use Rattle.tgap_model.specs.Removals.{edge_of, edges_of, has_side, removals_to}
use Rattle.removal_laws.specs.StandLaws.{edges_less}
use Rattle.removal_laws.specs.Trace.{swept_edge, swept_edges, edges_before_sweep}
use Rattle.removal_laws.proofs.Less.{without_both}
use Rattle.step_laws.proofs.StepRemovals.{step_list, listed_next}
use Rattle.record_laws.proofs.PutsBack.{listed_at}

-- ---- a sweep

module _ (ratio : ℕ) (area : ℤ) (made : ℕ) where
  -- one more edge is swept, or passed by
  abbrev swept_on : List Edge → Edge → List Edge → Bool → List Edge
  swept_on before e edges b = elim b [
    | true ↦ swept_edges ratio area made (before ++ swept_edge ratio area before e edges ∷ []) edges
    | false ↦ swept_edges ratio area made (before ++ e ∷ []) edges
  ]

  -- what was swept stays
  pub swept_before : (before edges : List Edge) (i : ℕ) (d : Edge) → i < length before → get_or (swept_edges ratio area made before edges) i d ≡ get_or before i d
  swept_before before [] i d l = refl
  swept_before before (e ∷ edges) i d l = by (has_side made e) (λ x. swept_before (before ++ x ∷ []) edges i d (omega (arith, length-append before (x ∷ []))))
    where
      by : (b : Bool) → ((x : Edge) → get_or (swept_edges ratio area made (before ++ x ∷ []) edges) i d ≡ get_or (before ++ x ∷ []) i d)
          → get_or (swept_on before e edges b) i d ≡ get_or before i d
      by true next = next (swept_edge ratio area before e edges) ∙ get_or_append_left before (swept_edge ratio area before e edges ∷ []) d i l
      by false next = next e ∙ get_or_append_left before (e ∷ []) d i l

-- ---- a step

-- the vertices that are listed with its number are what it takes out
pub now_is : (m : BaseMap) (base : is_base m ≡ true) (planar : IsPartition (base_segments m)) (k : ℕ) (some : 0 < k) (within : k ≤ length (history_of m))
    → step_list m base planar k some within ≡ filter (λ (r : Removal). r.step == k) (removals_to (merged m) k)
now_is m base planar k some within =
    let next : suc (k - 1) ≡ k = omega (arith, some) in
    append_cancel_left (removals_to (merged m) (k - 1)) _ _ (
    sym (listed_next m base planar k some within)
    ∙ subst (λ (i : ℕ). removals_to (merged m) i ≡ removals_to (merged m) (k - 1) ++ filter (λ (r : Removal). r.step == i) (removals_to (merged m) i)) next
    (listed_at (merged m) (k - 1) (omega (arith, some, within)))
    )

-- less some vertices and then others
less_more : (m : BaseMap) (k : ℕ) (rs ss : List Removal) (cs : List Chain) → edges_less ss (edges_of (merged m) k rs cs) ≡ edges_of (merged m) k (rs ++ ss) cs
less_more m k rs ss [] = refl
less_more m k rs ss (c ∷ cs) =
    ap₂ (λ (points : List Point) (es : List Edge). record (edge_of (merged m) k rs c) { points = points } ∷ es) (without_both rs ss (chain_points m.arcs c)) (less_more m k rs ss cs)

module _ (m : BaseMap) (base : is_base m ≡ true) (planar : IsPartition (base_segments m)) (k : ℕ) (some : 0 < k) (within : k ≤ length (history_of m))
    (removals : List Removal) (is : removals ≡ step_list m base planar k some within) where
  -- the edges after it
  pub taken_is : edges_less removals (edges_before_sweep (merged m) k) ≡ edges_of (merged m) k (removals_to (merged m) k) (chains_at (merged m) k)
  taken_is =
      less_more m k (removals_to (merged m) (k - 1)) removals (chains_at (merged m) k)
      ∙ ap (λ (rs : List Removal). edges_of (merged m) k (removals_to (merged m) (k - 1) ++ rs) (chains_at (merged m) k)) is
      ∙ ap (λ (rs : List Removal). edges_of (merged m) k rs (chains_at (merged m) k)) (sym (listed_next m base planar k some within))
