-- Those of the keys so far.
use Rattle.std.proofs.Common.{◌≡◌, ◌++◌, filter, take}
use Rattle.edge_forest.specs.Growth.{has_row}
use Rattle.edge_forest.proofs.keys.push_present.Given as goal

abbrev pub invariant-loop-key : goal.invariant-loop-key
invariant-loop-key l = l.keys ≡ l.fn.keys ++ filter (has_row l.net.rows.items) (take l.key-index l.listed)
