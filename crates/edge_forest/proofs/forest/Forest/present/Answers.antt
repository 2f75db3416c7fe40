-- The edges of the forest that have not ended.
use Rattle.std.proofs.Common.{◌≡◌, ◌<◌, ℕ, List, All, map, length, sym, ap, ◌∙◌, subst, arith}
use Rattle.std.proofs.lemmas.Result.{IfOk-weaker}
use Rattle.tgap_model.specs.Merged.{merged}
use Rattle.tgap_model.specs.Chains.{chains_at}
use Rattle.edge_forest.specs.Net.{numbers_of}
use Rattle.edge_forest.specs.Edges.{chain_of, alive_edges}
use Rattle.edge_forest.specs.Forest.{EdgeForest}
use Rattle.edge_forest.specs.Kept.{forest_of}
use Rattle.edge_forest.proofs.Forests.{made_small, alive_within}
use Rattle.edge_forest.proofs.Rested.{present_are_alive}
use Rattle.edge_forest.proofs.forest.Forest.present.Goals.{After-numbers_of}
use Rattle.edge_forest.proofs.forest.Forest.present.Goals as goal

-- the rows are those of the edges whose range holds the last step
present : (c : After-numbers_of) → numbers_of c.as_slice.result.now ≡ alive_edges c.args.self.now.edges c.args.self.now.made
present c =
    let growth = c.self.inside.growth in
    let made = c.self.inside.made in
    let f = forest_of made c.self.inside.closed growth c.self.inside.removed in
    let rest = c.self.invariant.kept.growing (ap (λ (f : EdgeForest). f.closed) c.self.view_is ∙ c.requires) in
    ap numbers_of c.as_slice.ensures.value
    ∙ present_are_alive made growth rest.0.stored (omega (arith, made_small f c.self.invariant.kept.forest))
    ∙ ap (λ (f : EdgeForest). alive_edges f.edges f.made) c.self.view_is

pub returns-clause-value : goal.returns-clause-value
returns-clause-value c = IfOk-weaker c.numbers_of.result _ _ (λ ids e. e ∙ present c) c.numbers_of.ensures

pub returns-clause-within : goal.returns-clause-within
returns-clause-within c =
    let f = forest_of c.self.inside.made c.self.inside.closed c.self.inside.growth c.self.inside.removed in
    let chains = c.self.invariant.kept.forest.chains c.self.inside.made (omega arith) in
    IfOk-weaker c.numbers_of.result _ _ (λ ids e. subst (λ (ids : List ℕ). All (λ i. i < length c.args.self.now.edges) ids) (sym (e ∙ present c))
    (subst (λ (f : EdgeForest). All (λ i. i < length f.edges) (alive_edges f.edges f.made)) c.self.view_is (alive_within f c.self.invariant.kept.forest c.self.inside.made chains)))
    c.numbers_of.ensures

pub returns-clause-chains : goal.returns-clause-chains
returns-clause-chains c =
    let chains = c.self.invariant.kept.forest.chains c.self.inside.made (omega arith) in
    IfOk-weaker c.numbers_of.result _ _ (λ ids e. ap (map (chain_of c.args.self.now.edges)) (e ∙ present c)
    ∙ subst (λ (f : EdgeForest). map (chain_of f.edges) (alive_edges f.edges f.made) ≡ chains_at (merged f.base) f.made) c.self.view_is chains) c.numbers_of.ensures
