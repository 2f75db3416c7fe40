use Rattle.std.proofs.Common.{◌≡◌, ◌<◌, ◌==◌, ℕ, length, get_or, take, count_by}
use Rattle.edge_forest.proofs.start.node_counts.Given as goal

abbrev pub invariant-loop-node : goal.invariant-loop-node
invariant-loop-node l = record {
  count : length l.counts.items ≡ l.count;
  counts : (g : ℕ) → g < l.count → get_or l.counts.items g 0 ≡ count_by (λ node. node == g) (take l.node-index l.node_of);
}
