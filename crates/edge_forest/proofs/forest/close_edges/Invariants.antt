-- The edges so far have their high step, and the others are as they were.
use Rattle.std.proofs.Common.{◌≡◌, take, drop, map}
use Rattle.edge_forest.specs.Kept.{closed_edge}
use Rattle.edge_forest.proofs.forest.close_edges.Given as goal

abbrev pub invariant-loop-i : goal.invariant-loop-i
invariant-loop-i l = record {
  done : take l.i l.edges.items ≡ map (closed_edge l.high) (take l.i l.initial.edges.items);
  left : drop l.i l.edges.items ≡ drop l.i l.initial.edges.items;
}
