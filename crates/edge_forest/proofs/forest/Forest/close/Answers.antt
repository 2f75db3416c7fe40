-- There are few steps, and the edges keep their chains.
use Rattle.std.proofs.Common.{◌+◌, Bool, List, map, length, sym, ap, ◌∙◌, subst, arith}
use Rattle.tgap_model.specs.declared.base.BaseArc.{BaseArc}
use Rattle.tgap_model.specs.Base.{BaseMap}
use Rattle.edge_forest.specs.Forest.{EdgeForest, last_step, IsForest}
use Rattle.edge_forest.specs.declared.edge.ForestEdge.{ForestEdge}
use Rattle.edge_forest.specs.Index.{IsIndex}
use Rattle.edge_forest.specs.Kept.{forest_of, closed_edge}
use Rattle.edge_forest.specs.Spent.{AreSpent}
use Rattle.edge_forest.proofs.Forests.{made_small, closed_within, closed_spent, closed_is_kept}
use Rattle.edge_forest.proofs.PartSpans.{some_parts}
use Rattle.edge_forest.proofs.StartStored.{arcs_long}
use Rattle.edge_forest.proofs.WalkedArcs.{made_of_earlier}
use Rattle.edge_forest.proofs.forest.Forest.close.Goals as goal

pub overflow_add-self-inside : goal.overflow_add-self-inside
overflow_add-self-inside c =
    omega (arith, made_small (forest_of c.self.inside.made c.self.inside.closed c.self.inside.growth c.self.inside.removed) c.self.invariant.kept.forest)

pub index_of-requires-clause-more : goal.index_of-requires-clause-more
index_of-requires-clause-more c =
    omega (arith, made_small (forest_of c.self.inside.made c.self.inside.closed c.self.inside.growth c.self.inside.removed) c.self.invariant.kept.forest)

pub index_of-requires-clause-ranges : goal.index_of-requires-clause-ranges
index_of-requires-clause-ranges c =
    let made = c.self.inside.made in
    let growth = c.self.inside.growth in
    let removed = c.self.inside.removed in
    let unclosed = ap (λ (f : EdgeForest). f.closed) c.self.view_is ∙ c.requires.open in
    let forest = subst (λ (b : Bool). IsForest (forest_of made b growth removed)) unclosed c.self.invariant.kept.forest in
    rw c.as_slice-edges.ensures.value (λ i l. (closed_within made growth removed forest i l).1)

pub of-requires-clause-long : goal.of-requires-clause-long
of-requires-clause-long c =
    arcs_long c.self.inside.growth.base c.arcs_of-arcs.result.now c.self.invariant.kept.forest.base c.arcs_of-arcs.ensures

pub of-requires-clause-some : goal.of-requires-clause-some
of-requires-clause-some c =
    let forest = c.self.invariant.kept.forest in
    let made = made_of_earlier (length c.self.inside.growth.base.arcs) c.self.inside.growth.edges.items (λ i l. (forest.edges i l).parts) in
    rw c.as_slice-edges.ensures.value (λ i l. some_parts c.self.inside.growth.edges.items made i l (forest.edges i l).links)

pub invariant_of-self : goal.invariant_of-self
invariant_of-self c =
    let made = c.self.inside.made in
    let growth = c.self.inside.growth in
    let removed = c.self.inside.removed in
    let unclosed = ap (λ (f : EdgeForest). f.closed) c.self.view_is ∙ c.requires.open in
    let edges = c.give_up.ensures.edges ∙ c.close_edges.ensures in
    record {
      kept = closed_is_kept made growth c.give_up.new.growth removed
          (subst (λ (b : Bool). IsForest (forest_of made b growth removed)) unclosed c.self.invariant.kept.forest) c.self.invariant.kept.few
          (ap (λ (f : EdgeForest). f.made) c.self.view_is ∙ c.requires.all ∙ ap last_step (sym c.self.view_is))
          (made_small (forest_of made c.self.inside.closed growth removed) c.self.invariant.kept.forest) c.give_up.ensures.base edges c.self.invariant.kept.listed
          c.self.invariant.kept.within;
      indexed = λ e.
          subst (λ (es : List ForestEdge). IsIndex made es c.in_ok-index.index) (ap (map (closed_edge (made + 1))) c.as_slice-edges.ensures.value ∙ sym edges) c.in_ok-index.ensures;
      told = λ e.
          let arcs = c.arcs_of-arcs.result.now in
          let spent = c.in_ok-spent.spent in
          subst (λ (arcs : List BaseArc). AreSpent arcs removed c.give_up.new.growth.edges.items spent)
          (c.arcs_of-arcs.ensures ∙ ap (λ (m : BaseMap). m.arcs) (sym c.give_up.ensures.base))
          (subst (λ (es : List ForestEdge). AreSpent arcs removed es spent) (ap (map (closed_edge (made + 1))) c.as_slice-edges.ensures.value ∙ sym edges)
          (closed_spent arcs removed (made + 1) c.as_slice-edges.result.now spent c.in_ok-spent.ensures));
    }
