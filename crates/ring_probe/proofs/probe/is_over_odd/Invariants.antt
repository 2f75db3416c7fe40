use Rattle.std.proofs.Common.{◌≡◌, take}
use Rattle.std.specs.Prelude.{count_by}
use Rattle.lemmas.specs.Parity.{is_odd}
use Rattle.ring_walk.specs.Areas.{is_over, points_by, segments_of}
use Rattle.ring_probe.proofs.probe.is_over_odd.Given as goal

abbrev pub invariant-loop-place : goal.invariant-loop-place
invariant-loop-place l = l.odd ≡ is_odd (count_by (is_over l.probe) (take l.place (segments_of (points_by l.way l.points))))
