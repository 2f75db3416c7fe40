-- The arcs so far have their steps.
use Rattle.std.proofs.Common.{◌≡◌, length}
use Rattle.edge_forest.specs.Spent.{AreArcSteps}
use Rattle.edge_forest.proofs.spent.arc_steps.Given as goal

abbrev pub invariant-loop-arc : goal.invariant-loop-arc
invariant-loop-arc l = record {
  count : length l.steps.items ≡ l.arc-index;
  told : AreArcSteps l.arcs l.removed l.steps.items;
}
