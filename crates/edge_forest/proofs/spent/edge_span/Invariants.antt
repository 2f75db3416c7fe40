-- The span of the parts so far.
use Rattle.std.proofs.Common.{take}
use Rattle.edge_forest.specs.Edges.{parts_chain, chains_of}
use Rattle.edge_forest.specs.Spent.{IsSpan}
use Rattle.edge_forest.proofs.spent.edge_span.Given as goal

abbrev pub invariant-loop-i : goal.invariant-loop-i
invariant-loop-i l = IsSpan l.arcs l.removed (parts_chain (chains_of l.edges) (take l.i l.parts)) l.span
