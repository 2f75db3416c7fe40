-- The points that are left of the arcs behind the parts that are still to come.
use Rattle.std.proofs.Common.{sum_by}
use Rattle.edge_forest.specs.Removed.{PointSteps}
use Rattle.edge_forest.specs.Spent.{AreSpent}
use Rattle.edge_forest.proofs.LeftWalks.{IsWritten}
use Rattle.edge_forest.proofs.Walks.{part_size, sizes_of}
use Rattle.edge_forest.proofs.left.read_back_to_front.Given as goal

abbrev pub invariant-loop-part : goal.invariant-loop-part
invariant-loop-part l = (t : PointSteps) → AreSpent l.arcs t l.edges l.spent → IsWritten l.arcs t l.k l.edges l.id l.stack.items l.points.items l.start_left

abbrev pub decreases-loop-part : goal.decreases-loop-part
decreases-loop-part l = sum_by (part_size (sizes_of l.edges)) l.stack.items
