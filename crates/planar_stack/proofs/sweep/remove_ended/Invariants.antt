use Rattle.std.proofs.Common.{◌-◌, length}
use Rattle.planar_stack.proofs.Leaving.{IsLeaving}
use Rattle.planar_stack.proofs.sweep.remove_ended.Given as goal

abbrev pub invariant-loop-gone : goal.invariant-loop-gone
invariant-loop-gone l = IsLeaving l.before l.line l.starts l.ends l.gone l.fn.stack l.stack l.touched.items

abbrev pub decreases-loop-gone : goal.decreases-loop-gone
decreases-loop-gone l = length l.ends - l.gone
