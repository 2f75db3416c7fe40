use Rattle.std.proofs.Common.{◌≡◌, ◌+◌, ◌++◌, map, filter, take}
use Rattle.edge_forest.specs.Edges.{edge_at, is_alive}
use Rattle.edge_forest.specs.Index.{keyed}
use Rattle.edge_forest.proofs.alive.read_ranges.Given as goal

abbrev pub invariant-loop-id : goal.invariant-loop-id
invariant-loop-id g l = record {
  found : l.found.items ≡ l.initial.found.items ++ map (keyed l.edges) (filter (λ i. is_alive l.k (edge_at l.edges i)) (take l.id-index l.listed));
  looks : l.looks ≡ l.initial.looks + l.id-index;
}
