-- The number is one of the count, or the end.
use Rattle.std.proofs.Common.{◌≤◌}
use Rattle.planar_sweep.proofs.line.Line.node_from.Given as goal

abbrev pub invariant-loop : goal.invariant-loop
invariant-loop l = l.node ≤ l.self.row.count
