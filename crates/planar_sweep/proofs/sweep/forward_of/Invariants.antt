-- The segments so far.
use Rattle.std.proofs.Common.{◌≡◌, map, take}
use Rattle.planar_sweep.specs.Ends.{swept}
use Rattle.planar_sweep.proofs.sweep.forward_of.Given as goal

abbrev pub invariant-loop-s : goal.invariant-loop-s
invariant-loop-s l = l.segs.items ≡ map swept (take l.s-index l.segments)
