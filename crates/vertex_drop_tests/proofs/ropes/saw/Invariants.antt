-- the points so far are within the limits
use Rattle.std.proofs.Common.{All}
use Rattle.point_rope.specs.Held.{IsNearPoint}
use Rattle.vertex_drop_tests.proofs.ropes.saw.Given as goal

abbrev pub invariant-loop-place : goal.invariant-loop-place
invariant-loop-place l = All IsNearPoint l.points
