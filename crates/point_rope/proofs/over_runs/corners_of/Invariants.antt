-- the corners of the runs so far
use Rattle.std.proofs.Common.{take, All}
use Rattle.point_rope.specs.Ends.{AreCorners, ends_of}
use Rattle.point_rope.specs.Held.{IsNearPoint}
use Rattle.point_rope.specs.Runs.{joined}
use Rattle.point_rope.proofs.over_runs.corners_of.Given as goal

abbrev pub invariant-loop-run : goal.invariant-loop-run
invariant-loop-run l = record {
  corners : AreCorners (joined (take l.run-index l.runs)) l.corners;
  near : All IsNearPoint (ends_of l.corners);
}
