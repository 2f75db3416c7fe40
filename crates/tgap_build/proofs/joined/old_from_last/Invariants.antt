-- The chains of the parts that are still to be visited, and then those of the edges so far, are the chain of the edge.
use Rattle.std.proofs.Common.{◌≡◌, ◌++◌, ◌-◌, map, reverse, sum_by, All, Contains}
use Rattle.tgap_model.specs.Merged.{merged}
use Rattle.tgap_model.specs.Chains.{key, chains_at}
use Rattle.edge_forest.specs.Edges.{parts_chain, chains_of, chain_of}
use Rattle.edge_forest.proofs.Walks.{part_size, sizes_of}
use Rattle.tgap_build.specs.OldEdges.{old_chains}
use Rattle.tgap_build.proofs.OldWalks.{IsWalked}
use Rattle.tgap_build.proofs.joined.old_from_last.Given as goal

abbrev pub invariant-loop-part : goal.invariant-loop-part
invariant-loop-part l = record {
  known : All (IsWalked l.k l.first l.forest.edges) l.stack.items;
  there : All (λ p. Contains (map key (chains_at (merged l.forest.base) (l.k - 1))) p.key) l.found.items;
  chain : parts_chain (chains_of l.forest.edges) l.stack.items ++ old_chains (chains_at (merged l.forest.base) (l.k - 1)) (reverse l.found.items) ≡ chain_of l.forest.edges l.id;
}

abbrev pub decreases-loop-part : goal.decreases-loop-part
decreases-loop-part l = sum_by (part_size (sizes_of l.forest.edges)) l.stack.items
