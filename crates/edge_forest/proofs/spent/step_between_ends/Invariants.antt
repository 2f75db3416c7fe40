use Rattle.edge_forest.proofs.PartSpans.{AreGone}
use Rattle.edge_forest.proofs.spent.step_between_ends.Given as goal

abbrev pub invariant-loop-i : goal.invariant-loop-i
invariant-loop-i l = AreGone l.removed l.points l.i l.step
