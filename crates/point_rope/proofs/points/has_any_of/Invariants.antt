-- none of the points so far
use Rattle.std.proofs.Common.{◌≡◌, false, take}
use Rattle.std.specs.List.{list_any}
use Rattle.point_rope.proofs.points.has_any_of.Given as goal

abbrev pub invariant-loop-point : goal.invariant-loop-point
invariant-loop-point g l = list_any (g.T.PointTest.passes l.test) (take l.point-index l.points) ≡ false
