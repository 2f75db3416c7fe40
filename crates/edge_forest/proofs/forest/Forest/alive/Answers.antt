-- The edges of the forest that are alive at a step.
use Rattle.std.proofs.Common.{◌≡◌, ◌<◌, ◌≤◌, ◌^◌, ℕ, true, List, All, length, sym, ap, ◌∙◌, subst, arith}
use Rattle.std.proofs.lemmas.Result.{IfOk-weaker}
use Rattle.tgap_model.specs.Merged.{merged}
use Rattle.tgap_model.specs.Chains.{chains_at}
use Rattle.edge_forest.specs.declared.edge.ForestEdge.{ForestEdge}
use Rattle.edge_forest.specs.Edges.{edge_at, alive_edges}
use Rattle.edge_forest.specs.Forest.{EdgeForest, last_step}
use Rattle.edge_forest.specs.Kept.{forest_of}
use Rattle.edge_forest.proofs.Forests.{alive_within, alive_low, alive_count, keys_differ, step_known, index_for}
use Rattle.edge_forest.proofs.forest.Forest.alive.Given.{Over}
use Rattle.edge_forest.proofs.forest.Forest.alive.Goals.{After-alive_at}
use Rattle.edge_forest.proofs.forest.Forest.alive.Goals as goal

pub alive_at-requires-clause-keys : goal.alive_at-requires-clause-keys
alive_at-requires-clause-keys g c =
    let f = forest_of c.self.inside.made c.self.inside.closed c.self.inside.growth c.self.inside.removed in
    rw c.as_slice.ensures.value (keys_differ f c.self.invariant.kept.forest c.args.k
    (c.self.invariant.kept.forest.chains c.args.k (step_known c.self.inside.made c.self.inside.closed c.self.inside.growth c.self.inside.removed c.self.invariant.kept
    c.args.self.now c.self.view_is c.requires.closed c.args.k c.requires.step)))

pub alive_at-requires-clause-index : goal.alive_at-requires-clause-index
alive_at-requires-clause-index g c =
    let inside = c.self.inside in
    rw c.as_slice.ensures.value (index_for inside.made inside.closed inside.growth inside.removed inside.index inside.spent c.self.invariant c.args.self.now c.self.view_is c.requires.closed
    c.args.k c.requires.step)

pub returns-clause-within : goal.returns-clause-within
returns-clause-within g c =
    let f = forest_of c.self.inside.made c.self.inside.closed c.self.inside.growth c.self.inside.removed in
    let chains = c.self.invariant.kept.forest.chains c.args.k
    (step_known c.self.inside.made c.self.inside.closed c.self.inside.growth c.self.inside.removed c.self.invariant.kept
    c.args.self.now c.self.view_is c.requires.closed c.args.k c.requires.step) in
    IfOk-weaker c.alive_at.result _ _ (λ ids e. subst (λ (ids : List ℕ). All (λ i. i < length c.args.self.now.edges) ids) (sym (e ∙ ap (λ es. alive_edges es c.args.k) c.as_slice.ensures.value))
    (subst (λ (f : EdgeForest). All (λ i. i < length f.edges) (alive_edges c.self.inside.growth.edges.items c.args.k)) c.self.view_is (alive_within f c.self.invariant.kept.forest c.args.k chains)))
    c.alive_at.ensures.ids

pub returns-clause-low : goal.returns-clause-low
returns-clause-low g c =
    let f = forest_of c.self.inside.made c.self.inside.closed c.self.inside.growth c.self.inside.removed in
    let chains = c.self.invariant.kept.forest.chains c.args.k
    (step_known c.self.inside.made c.self.inside.closed c.self.inside.growth c.self.inside.removed c.self.invariant.kept
    c.args.self.now c.self.view_is c.requires.closed c.args.k c.requires.step) in
    IfOk-weaker c.alive_at.result _ _ (λ ids e. subst (λ (ids : List ℕ). All (λ i. (edge_at c.args.self.now.edges i).low ≤ c.args.k) ids) (sym (e ∙ ap (λ es. alive_edges es c.args.k) c.as_slice.ensures.value))
    (subst (λ (f : EdgeForest). All (λ i. (edge_at f.edges i).low ≤ c.args.k) (alive_edges c.self.inside.growth.edges.items c.args.k)) c.self.view_is (alive_low f c.self.invariant.kept.forest c.args.k chains)))
    c.alive_at.ensures.ids

-- as many edges are alive as there are chains
count : (g : Over) (c : After-alive_at g) → length (alive_edges c.as_slice.result.now c.args.k) ≡ length (chains_at (merged c.args.self.now.base) c.args.k)
count g c =
    let inside = c.self.inside in
    let k = c.args.k in
    let f = forest_of inside.made inside.closed inside.growth inside.removed in
    let chains = c.self.invariant.kept.forest.chains k (step_known inside.made inside.closed inside.growth inside.removed c.self.invariant.kept c.args.self.now c.self.view_is
    c.requires.closed k c.requires.step) in
    ap (λ (es : List ForestEdge). length (alive_edges es k)) c.as_slice.ensures.value
    ∙ subst (λ (f : EdgeForest). length (alive_edges inside.growth.edges.items k) ≡ length (chains_at (merged f.base) k)) c.self.view_is (alive_count f c.self.invariant.kept.forest k chains)

pub returns-clause-looks_most : goal.returns-clause-looks_most
returns-clause-looks_most g c d h =
    let shut : c.self.inside.closed ≡ true = ap (λ (f : EdgeForest). f.closed) c.self.view_is ∙ c.requires.closed in
    let few : c.self.inside.made < 2 ^ d = omega (arith, h, c.self.invariant.kept.done shut, ap last_step c.self.view_is) in
    omega (arith, c.alive_at.ensures.most, count g c, (c.self.invariant.indexed shut).least d few)

pub returns-clause-looks_least : goal.returns-clause-looks_least
returns-clause-looks_least g c = IfOk-weaker c.alive_at.result _ _ (λ ids all. omega (arith, all, count g c)) c.alive_at.ensures.all
