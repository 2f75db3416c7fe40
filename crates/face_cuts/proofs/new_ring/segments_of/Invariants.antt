use Rattle.std.proofs.Common.{◌≡◌, ◌++◌, take}
use Rattle.ring_walk.specs.Areas.{ring_segments, segments_of}
use Rattle.face_cuts.specs.Cuts.{lines_of}
use Rattle.face_cuts.proofs.new_ring.segments_of.Given as goal

-- of the arc and of the sides so far
abbrev pub invariant-loop-side : goal.invariant-loop-side
invariant-loop-side g l = l.segments ≡ segments_of l.points ++ ring_segments (lines_of (g.T.ArcTable.arcs l.table)) (take l.side-index l.walk)
