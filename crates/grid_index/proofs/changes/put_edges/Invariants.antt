-- What is left to put, of what comes.
use Rattle.std.proofs.Common.{length}
use Rattle.grid_index.proofs.Placing.{ArePut}
use Rattle.grid_index.proofs.changes.put_edges.Given as goal

abbrev pub invariant-loop-edge : goal.invariant-loop-edge
invariant-loop-edge l = ArePut l.fn.edges.items l.fn.come.items l.edges.items l.come.items

abbrev pub decreases-loop-edge : goal.decreases-loop-edge
decreases-loop-edge l = length l.come.items
