-- The chains of the parts that are still to be visited, and then the arcs so far, are the chain of the edge.
use Rattle.std.proofs.Common.{◌≡◌, ◌<◌, ◌++◌, false, length, map, reverse, sum_by, All}
use Rattle.edge_forest.specs.Edges.{parts_chain, chains_of, chain_of}
use Rattle.edge_forest.specs.Walks.{chain_link}
use Rattle.edge_forest.proofs.Walks.{part_size, sizes_of}
use Rattle.edge_forest.proofs.walk.links_from_last.Given as goal

abbrev pub invariant-loop-part : goal.invariant-loop-part
invariant-loop-part l = record {
  known : All (λ p. p.leaf ≡ false → p.id < length l.edges) l.stack.items;
  chain : parts_chain (chains_of l.edges) l.stack.items ++ reverse (map chain_link l.links.items) ≡ chain_of l.edges l.id;
}

abbrev pub decreases-loop-part : goal.decreases-loop-part
decreases-loop-part l = sum_by (part_size (sizes_of l.edges)) l.stack.items
