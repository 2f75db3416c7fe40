-- When the next step was made in a forest, the edges that it brought were not there before.
use Rattle.std.proofs.Common.{◌≡◌, ℕ, ◌-◌, ◌<◌, length, ap, ◌∙◌, subst, arith}
use Rattle.std.proofs.lemmas.Bool.{false_from_ne_true}
use Rattle.tgap_model.specs.Base.{BaseMap}
use Rattle.tgap_model.specs.Merged.{merged}
use Rattle.tgap_model.specs.Chains.{chains_at}
use Rattle.map_laws.proofs.ChainMembers.{Among}
use Rattle.edge_forest.specs.declared.edge.ForestEdge.{ForestEdge}
use Rattle.edge_forest.specs.Edges.{edge_at, chain_of, is_alive}
use Rattle.edge_forest.specs.Forest.{EdgeForest, IsForest}
use Rattle.edge_forest.specs.Continued.{AreContinued}
use Rattle.tgap_build.specs.Changes.{HasGrown}
use Rattle.tgap_build.proofs.Alive.{alive_chain, chain_alive}

pub has_grown : (f g : EdgeForest) → IsForest f → IsForest g → (k : ℕ) → 0 < k → f.made ≡ k - 1 → g.made ≡ k → g.base ≡ f.base → AreContinued f.edges g.edges → HasGrown g k (length f.edges)
has_grown f g wf wg k some made_f made_g same continued = record {
  forest = wg;
  made = made_g;
  within = continued.count;
  low = λ i l. omega (arith, ap (λ (e : ForestEdge). e.low) (continued.each i l).same, wf.low i l, made_f);
  new = λ i from l. false_from_ne_true (is_alive (k - 1) (edge_at g.edges i)) (λ a.
      let there : Among (chain_of g.edges i) (chains_at (merged f.base) (k - 1))
      = subst (λ (m : BaseMap). Among (chain_of g.edges i) (chains_at (merged m) (k - 1))) same (alive_chain g wg (k - 1) (omega (arith, made_g)) i l a) in
      let o = chain_alive f wf (k - 1) (omega (arith, made_f)) (chain_of g.edges i) there in
      let one : o.0 ≡ i = wg.once o.0 i (omega (arith, o.1, continued.count)) l ((continued.each o.0 o.1).chain ∙ o.3) in
      absurd (omega (arith, one, o.1, from)));
}
