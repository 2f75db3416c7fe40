-- Both walks are at nodes.
use Rattle.linked_row.specs.Linked.{IsNode}
use Rattle.planar_sweep.proofs.line.Line.node_between.Given as goal

abbrev pub invariant-loop-steps : goal.invariant-loop-steps
invariant-loop-steps l = IsNode l.self.row l.over × IsNode l.self.row l.under
