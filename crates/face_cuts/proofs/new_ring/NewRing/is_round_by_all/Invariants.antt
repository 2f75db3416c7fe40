use Rattle.std.proofs.Common.{◌≡◌, ◌++◌, take}
use Rattle.ring_walk.specs.Areas.{are_round, ring_segments, segments_of}
use Rattle.face_cuts.specs.Cuts.{lines_of}
use Rattle.face_cuts.proofs.new_ring.NewRing.is_round_by_all.Given as goal

-- of the arc and of the sides so far
abbrev pub invariant-loop-side : goal.invariant-loop-side
invariant-loop-side g l = l.odd ≡ are_round l.probe (segments_of l.self.points.now ++ ring_segments (lines_of (g.T.ArcTable.arcs l.table)) (take l.side-index l.self.walk.now))
