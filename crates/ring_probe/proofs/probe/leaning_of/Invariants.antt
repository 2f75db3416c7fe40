use Rattle.std.proofs.Common.{◌≡◌, drop}
use Rattle.ring_walk.specs.Areas.{first_leaning, points_by, segments_of}
use Rattle.ring_probe.proofs.probe.leaning_of.Given as goal

-- the first of the segments that are left is the first of all
abbrev pub invariant-loop-place : goal.invariant-loop-place
invariant-loop-place l = first_leaning (drop l.place (segments_of (points_by l.way l.points))) ≡ first_leaning (segments_of (points_by l.way l.points))
