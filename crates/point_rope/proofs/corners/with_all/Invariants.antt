-- the corners of the points so far
use Rattle.std.proofs.Common.{◌++◌, List, take, All}
use Rattle.tgap_model.specs.declared.geometry.Point.{Point}
use Rattle.point_rope.specs.Ends.{AreCorners, ends_of}
use Rattle.point_rope.specs.Held.{IsNearPoint}
use Rattle.point_rope.proofs.corners.with_all.Given as goal

abbrev pub invariant-loop-point : goal.invariant-loop-point
invariant-loop-point l = record {
  corners : (before : List Point) → AreCorners before l.fn.corners → AreCorners (before ++ take l.point-index l.points) l.all;
  near : All IsNearPoint (ends_of l.all);
}
