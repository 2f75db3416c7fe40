use Rattle.std.proofs.Common.{◌≡◌, false, take}
use Rattle.tgap_build.specs.Running.{has_point}
use Rattle.tgap_build.proofs.point_set.is_among.Given as goal

-- none of the points so far
abbrev pub invariant-loop-other : goal.invariant-loop-other
invariant-loop-other l = has_point (take l.other-index l.points) l.point ≡ false
