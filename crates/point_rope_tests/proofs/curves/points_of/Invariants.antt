-- the points so far are within the limits
use Rattle.std.proofs.Common.{All}
use Rattle.point_rope.specs.Held.{IsNearPoint}
use Rattle.point_rope_tests.proofs.curves.points_of.Given as goal

abbrev pub invariant-loop-number : goal.invariant-loop-number
invariant-loop-number l = All IsNearPoint l.points
