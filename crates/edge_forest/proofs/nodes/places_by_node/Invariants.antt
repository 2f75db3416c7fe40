use Rattle.std.proofs.Common.{◌≡◌, length}
use Rattle.edge_forest.specs.Places.{AreListed}
use Rattle.edge_forest.proofs.nodes.places_by_node.Given as goal

abbrev pub invariant-loop-place : goal.invariant-loop-place
invariant-loop-place l = record {
  count : length l.places.items ≡ l.count;
  places : AreListed l.node_of l.place l.places.items;
}
