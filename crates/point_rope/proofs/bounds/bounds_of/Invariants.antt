-- the box holds the points so far
use Rattle.std.proofs.Common.{take, All}
use Rattle.point_rope.specs.Held.{IsHeld}
use Rattle.point_rope.proofs.bounds.bounds_of.Given as goal

abbrev pub invariant-loop-point : goal.invariant-loop-point
invariant-loop-point l = All (IsHeld l.bounds) (take l.point-index l.points)
