-- The edges so far have their spans.
use Rattle.std.proofs.Common.{◌≡◌, length}
use Rattle.edge_forest.specs.Edges.{chains_of}
use Rattle.edge_forest.specs.Spent.{AreSpans}
use Rattle.edge_forest.proofs.spent.Spent.of.Given as goal

abbrev pub invariant-loop-id : goal.invariant-loop-id
invariant-loop-id l = record {
  count : length l.spans.items ≡ l.id;
  told : AreSpans l.arcs l.removed (chains_of l.edges) l.spans.items;
}
