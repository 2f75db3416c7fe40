use Rattle.std.proofs.Common.{◌≡◌, map, take}
use Rattle.tgap_build.proofs.point_set.points_of.Given as goal

-- the points so far
abbrev pub invariant-loop-removal : goal.invariant-loop-removal
invariant-loop-removal l = l.points.items ≡ map (λ r. r.point) (take l.removal-index l.removals)
