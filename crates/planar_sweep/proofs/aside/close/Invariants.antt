-- The numbers that the line keeps are those of segments.
use Rattle.planar_sweep.specs.Line.{IsLineOf}
use Rattle.planar_sweep.proofs.aside.close.Given as goal

abbrev pub invariant-loop : goal.invariant-loop
invariant-loop l = IsLineOf l.segs l.line
