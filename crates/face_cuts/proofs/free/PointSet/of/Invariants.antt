use Rattle.std.proofs.Common.{◌≡◌, take}
use Rattle.std.specs.List.{list_any}
use Rattle.tgap_model.specs.declared.geometry.Point.{Point as Position}
use Rattle.tgap_model.specs.Base.{same_point}
use Rattle.face_cuts.specs.PointSets.{has}
use Rattle.face_cuts.proofs.free.PointSet.of.Given as goal

-- the points so far are in it
abbrev pub invariant-loop-point : goal.invariant-loop-point
invariant-loop-point l = (p : Position) → has l.set p ≡ list_any (same_point p) (take l.point-index l.points)
