use Rattle.std.proofs.Common.{◌≡◌, ◌-◌, drop}
use Rattle.map_version.specs.Positions.{inner_at}
use Rattle.map_version.proofs.Positions.{further}
use Rattle.map_version.proofs.path.inner_at.Given as goal

-- the point is among those from the last but one on
abbrev pub invariant-loop-i : goal.invariant-loop-i
invariant-loop-i l = inner_at l.old l.points ≡ further (l.i - 2) (inner_at l.old (drop (l.i - 2) l.points))
