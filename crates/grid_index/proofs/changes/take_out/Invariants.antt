-- The edges so far that stay stand at the front.
use Rattle.grid_index.proofs.Placing.{IsSwept}
use Rattle.grid_index.proofs.changes.take_out.Given as goal

abbrev pub invariant-loop-i : goal.invariant-loop-i
invariant-loop-i l = IsSwept l.gone l.fn.edges.items l.edges.items l.next l.kept l.i
