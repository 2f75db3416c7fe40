-- There are few levels.
use Rattle.std.proofs.Common.{◌≤◌, arith}
use Rattle.edge_forest.proofs.index.levels_over.Goals as goal

pub overflow_add-depth : goal.overflow_add-depth
overflow_add-depth c = let few : c.loop-leaves.depth ≤ 33 = c.loop-leaves.invariant.least 33 (omega arith) in omega arith
