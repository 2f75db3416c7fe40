-- The place is the first of those that were seen.
use Rattle.std.proofs.Common.{map, take}
use Rattle.planar_stack.specs.Sweep.{sides_at, IsFirstOf}
use Rattle.planar_stack.proofs.sweep.touched_place.Given as goal

abbrev pub invariant-loop-number : goal.invariant-loop-number
invariant-loop-number l = IsFirstOf (take l.number-index l.touched) (map (sides_at l.starts) l.stack) l.stack l.place
