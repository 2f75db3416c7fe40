-- the points so far are within the limits
use Rattle.std.proofs.Common.{All}
use Rattle.point_rope.specs.Held.{IsNearPoint}
use Rattle.vertex_drop_tests.proofs.sweeps.points_of.Given as goal

abbrev pub invariant-loop-x : goal.invariant-loop-x
invariant-loop-x l = All IsNearPoint l.points
