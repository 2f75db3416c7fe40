-- The keys so far are counted.
use Rattle.std.proofs.Common.{◌≡◌, ◌≤◌, take, count_by}
use Rattle.edge_forest.specs.Settle.{is_ending}
use Rattle.edge_forest.proofs.settle.count_ending.Given as goal

abbrev pub invariant-loop-key : goal.invariant-loop-key
invariant-loop-key l = record {
  count : l.count ≡ count_by (is_ending l.sides l.net.rows.items) (take l.key-index l.keys);
  small : l.count ≤ l.key-index;
}
