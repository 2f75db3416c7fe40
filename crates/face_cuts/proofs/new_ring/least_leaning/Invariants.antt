use Rattle.std.proofs.Common.{take}
use Rattle.face_cuts.specs.Cuts.{lines_of}
use Rattle.face_cuts.specs.NewRings.{IsLeast}
use Rattle.face_cuts.proofs.new_ring.least_leaning.Given as goal

-- the least of the sides so far
abbrev pub invariant-loop-side : goal.invariant-loop-side
invariant-loop-side g l = IsLeast (lines_of (g.T.ArcTable.arcs l.table)) (take l.side-index l.row) l.least
