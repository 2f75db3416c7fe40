use Rattle.std.proofs.Common.{◌≡◌, ◌++◌, map, take, drop}
use Rattle.edit_laws.specs.Edits.{moved}
use Rattle.map_version.proofs.path.move_points.Given as goal

-- the points so far are moved
abbrev pub invariant-loop-i : goal.invariant-loop-i
invariant-loop-i l = l.points ≡ map (moved l.old l.new) (take l.i l.initial.points) ++ drop l.i l.initial.points
