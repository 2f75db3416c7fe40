-- The points that are left are those of the walk that passes over the others.
use Rattle.std.proofs.Common.{rules, List, not, filter, ap, ap₂, ◌∙◌}
use Rattle.std.proofs.lemmas.Result.{on_ok_weaker}
use Rattle.tgap_model.specs.declared.base.BaseArc.{BaseArc}
use Rattle.tgap_model.specs.Chains.{chain_points}
use Rattle.edge_forest.specs.declared.edge.ForestEdge.{ForestEdge}
use Rattle.edge_forest.specs.Edges.{chain_of}
use Rattle.edge_forest.specs.Forest.{EdgeForest, is_gone}
use Rattle.edge_forest.specs.Spent.{left_points, AreSpent}
use Rattle.edge_forest.proofs.StartStored.{arcs_long}
use Rattle.edge_forest.proofs.forest.Forest.read_points.Goals as goal

pub read_left-requires-clause-long : goal.read_left-requires-clause-long
read_left-requires-clause-long c =
    arcs_long c.self.inside.growth.base c.arcs_of-arcs.result.now c.self.invariant.kept.forest.base c.arcs_of-arcs.ensures

pub returns-then-self : goal.returns-then-self
returns-then-self c =
    let k = c.args.k in
    let id = c.args.id in
    let told : AreSpent c.arcs_of-arcs.result.now c.self.inside.removed c.as_slice-edges.result.now c.self.inside.spent = search rules in
    on_ok_weaker c.read_left.result (λ e. e
    ∙ ap₂ (λ (arcs : List BaseArc) (es : List ForestEdge). left_points arcs c.self.inside.removed k (chain_of es id))
    c.arcs_of-arcs.ensures c.as_slice-edges.ensures.value
    ∙ ap (λ (f : EdgeForest). filter (λ p. not (is_gone f k p)) (chain_points f.base.arcs (chain_of f.edges id))) c.self.view_is) (c.read_left.ensures c.self.inside.removed told)
