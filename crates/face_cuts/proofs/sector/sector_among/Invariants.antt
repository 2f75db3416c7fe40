use Rattle.std.proofs.Common.{◌-◌, length}
use Rattle.face_cuts.specs.Sectors.{spans_of}
use Rattle.face_cuts.proofs.LastSpokes.{AreSeen}
use Rattle.face_cuts.proofs.sector.sector_among.Given as goal

-- the spokes of the greatest numbers are seen
abbrev pub invariant-loop-step : goal.invariant-loop-step
invariant-loop-step g l = AreSeen (spans_of (g.T.ArcTable.arcs l.table)) l.node l.toward (length l.spokes - l.step) l.last l.before
