use Rattle.std.proofs.Common.{◌≡◌, ◌-◌, drop}
use Rattle.map_version.specs.Positions.{segment_at}
use Rattle.map_version.proofs.Positions.{further}
use Rattle.map_version.proofs.path.segment_at.Given as goal

-- the segment is among those from the last point on
abbrev pub invariant-loop-i : goal.invariant-loop-i
invariant-loop-i l = segment_at l.a l.b l.points ≡ further (l.i - 1) (segment_at l.a l.b (drop (l.i - 1) l.points))
