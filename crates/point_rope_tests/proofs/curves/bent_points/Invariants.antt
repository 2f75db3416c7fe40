-- the points so far are within the limits
use Rattle.std.proofs.Common.{All}
use Rattle.point_rope.specs.Held.{IsNearPoint}
use Rattle.point_rope_tests.proofs.curves.bent_points.Given as goal

abbrev pub invariant-loop-j : goal.invariant-loop-j
invariant-loop-j l = All IsNearPoint l.points
