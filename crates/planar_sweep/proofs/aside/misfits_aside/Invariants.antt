-- The numbers that the line keeps are those of segments.
use Rattle.planar_sweep.specs.Line.{IsLineOf}
use Rattle.planar_sweep.proofs.aside.misfits_aside.Given as goal

abbrev pub invariant-loop-k : goal.invariant-loop-k
invariant-loop-k l = IsLineOf l.segs l.line
