use Rattle.std.proofs.Common.{◌≡◌, ◌++◌, take}
use Rattle.ring_walk.specs.Areas.{points_by, segments_of}
use Rattle.face_cuts.proofs.columns.push_segments.Given as goal

abbrev pub invariant-loop-place : goal.invariant-loop-place
invariant-loop-place l = l.segments ≡ l.fn.segments ++ take l.place (segments_of (points_by l.way l.points))
