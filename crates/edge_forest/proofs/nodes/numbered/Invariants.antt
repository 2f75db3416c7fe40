use Rattle.edge_forest.specs.Places.{AreNumbered}
use Rattle.edge_forest.proofs.nodes.numbered.Given as goal

abbrev pub invariant-loop-i : goal.invariant-loop-i
invariant-loop-i l = AreNumbered l.rows l.i l.node_of.items l.count
