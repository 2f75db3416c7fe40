use Rattle.std.proofs.Common.{◌≡◌, ℕ, ◌≤◌, ◌*◌, ◌^◌, length}
use Rattle.edge_forest.proofs.Listing.{IsUnderWay}
use Rattle.edge_forest.proofs.index.list_range.Given as goal

abbrev pub invariant-loop-low : goal.invariant-loop-low
invariant-loop-low l = record {
  count : length l.nodes.items ≡ length l.initial.nodes.items;
  within : l.high ≤ l.initial.high;
  way : (levels : ℕ) → 2 ^ levels ≤ 2 * l.initial.low → l.initial.high ≤ 2 ^ levels
      → IsUnderWay l.initial.nodes.items l.nodes.items l.id levels l.initial.low l.initial.high l.low l.high;
}

abbrev pub decreases-loop-low : goal.decreases-loop-low
decreases-loop-low l = l.high
