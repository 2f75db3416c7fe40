use Rattle.std.proofs.Common.{◌≡◌, ℕ, ◌<◌, ◌≤◌, ◌-◌, ◌+◌, ◌^◌}
use Rattle.edge_forest.proofs.index.levels_over.Given as goal

abbrev pub invariant-loop-leaves : goal.invariant-loop-leaves
invariant-loop-leaves l = record {
  leaves : l.leaves ≡ 2 ^ l.depth;
  some : 0 < l.leaves;
  few : l.leaves ≤ 2 ^ 33;
  least : (d : ℕ) → l.last < 2 ^ d → l.depth ≤ d;
}

abbrev pub decreases-loop-leaves : goal.decreases-loop-leaves
decreases-loop-leaves l = l.last + 1 - l.leaves
