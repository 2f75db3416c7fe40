-- The stack is that of the segments that have begun so far.
use Rattle.std.proofs.Common.{◌-◌, length}
use Rattle.planar_stack.specs.Sweep.{IsActive, AreTouched}
use Rattle.planar_stack.proofs.sweep.insert_begun.Given as goal

abbrev pub invariant-loop-begun : goal.invariant-loop-begun
invariant-loop-begun l = record {
  active : IsActive l.line l.starts l.begun l.stack;
  touched : AreTouched l.line l.starts l.stack l.touched.items;
}

abbrev pub decreases-loop-begun : goal.decreases-loop-begun
decreases-loop-begun l = length l.starts - l.begun
