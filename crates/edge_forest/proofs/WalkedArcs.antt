-- The arcs of the chain of an edge are arcs of the map.
use Rattle.std.proofs.Common.{◌≡◌, ℕ, zero, suc, ◌<◌, Bool, true, false, not, cond, List, [], ◌∷◌, map, reverse, length, All, refl, sym, subst, arith}
use Rattle.std.proofs.lemmas.List.Elements.{All-nil, All-cons, All-weaker, All-map, All-contains}
use Rattle.std.proofs.lemmas.List.Sorted.{IsPermutation-reverse, IsPermutation-sym, All-permutation}
use Rattle.lemmas.proofs.Members.{All-flat_map, Contains-map, All-from_members}
use Rattle.tgap_model.specs.Chains.{Chain, Link, turned_round}
use Rattle.edge_forest.specs.declared.edge.Part.{Part}
use Rattle.edge_forest.specs.declared.edge.ForestEdge.{ForestEdge}
use Rattle.edge_forest.specs.declared.walk.Link as walked
use Rattle.edge_forest.specs.Edges.{IsPart, edge_at, whole_part, part_chain, chains_of, chain_of}
use Rattle.edge_forest.specs.Walks.{chain_link, IsMadeOfEarlier}
use Rattle.edge_forest.proofs.Walks.{chain_step}

abbrev pub AreArcs : ℕ → Chain → Type 0
AreArcs arcs c = All (λ (d : Link). d.arc < arcs) c

pub turned_arcs : (arcs : ℕ) (c : Chain) → AreArcs arcs c → AreArcs arcs (turned_round c)
turned_arcs arcs c all =
    let turned : Chain = map (λ d. record { arc = d.arc; turned = not d.turned }) c in
    All-permutation (λ d. d.arc < arcs) turned (reverse turned) (IsPermutation-reverse turned)
    (All-map (λ d. d.arc < arcs) (λ d. record { arc = d.arc; turned = not d.turned }) c all)

module _ (arcs : ℕ) (edges : List ForestEdge) (parts : (i : ℕ) → i < length edges → All (IsPart arcs i) (edge_at edges i).parts) where
  pub made_of_earlier : IsMadeOfEarlier edges
  made_of_earlier i l = All-weaker (IsPart arcs i) (λ p. p.leaf ≡ false → p.id < i) (λ p h. h.edge) (edge_at edges i).parts (parts i l)

  pub chain_arcs_below : (n i : ℕ) → i < n → i < length edges → AreArcs arcs (chain_of edges i)
  chain_arcs_below zero i less l = absurd (omega arith)
  chain_arcs_below (suc n) i less l =
      subst (AreArcs arcs) (sym (chain_step edges made_of_earlier i l))
      (All-flat_map (λ d. d.arc < arcs) (part_chain (chains_of edges)) (edge_at edges i).parts
      (All-weaker (IsPart arcs i) (λ p. AreArcs arcs (part_chain (chains_of edges) p))
      (λ p h. of_part p h (λ e. let earlier = h.edge e in chain_arcs_below n p.id (omega arith) (omega arith))) (edge_at edges i).parts (parts i l)))
    where
      of_part : (p : Part) → IsPart arcs i p → (p.leaf ≡ false → AreArcs arcs (chain_of edges p.id)) → AreArcs arcs (part_chain (chains_of edges) p)
      of_part p h of_edge = by_turned p.turned
        where
          by_leaf : (b : Bool) → p.leaf ≡ b → AreArcs arcs (cond b (record { arc = p.id; turned = false } ∷ []) (chain_of edges p.id))
          by_leaf true e = All-cons (λ d. d.arc < arcs) (record { arc = p.id; turned = false }) [] (h.arc e) (All-nil (λ d. d.arc < arcs))
          by_leaf false e = of_edge e

          whole : AreArcs arcs (whole_part (chains_of edges) p)
          whole = by_leaf p.leaf refl

          by_turned : (b : Bool) → AreArcs arcs (cond b (turned_round (whole_part (chains_of edges) p)) (whole_part (chains_of edges) p))
          by_turned true = turned_arcs arcs (whole_part (chains_of edges) p) whole
          by_turned false = whole

  -- the links of a walk along the edge are arcs of the map
  pub walked_arcs : (i : ℕ) (links : List walked.Link) → i < length edges → reverse (map chain_link links) ≡ chain_of edges i → All (λ link. link.arc < arcs) links
  walked_arcs i links l walk =
      let back : List Link = map chain_link links in
      let all = All-permutation (λ (d : Link). d.arc < arcs) (reverse back) back (IsPermutation-sym back (reverse back) (IsPermutation-reverse back))
      (subst (AreArcs arcs) (sym walk) (chain_arcs_below (suc i) i (omega arith) l)) in
      All-from_members (λ link. link.arc < arcs) links
      (λ link m. All-contains (λ (d : Link). d.arc < arcs) back (chain_link link) all (Contains-map chain_link links link m))
