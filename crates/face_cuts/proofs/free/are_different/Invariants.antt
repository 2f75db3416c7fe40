use Rattle.std.proofs.Common.{◌≡◌, ◌-◌, true, drop, length}
use Rattle.std.specs.List.{list_any}
use Rattle.tgap_model.specs.declared.geometry.Point.{Point as Position}
use Rattle.tgap_model.specs.Base.{same_point}
use Rattle.face_cuts.specs.Cuts.{all_different}
use Rattle.face_cuts.specs.PointSets.{has}
use Rattle.face_cuts.proofs.free.are_different.Given as goal

-- the points at the end are different, and in the set
abbrev pub invariant-loop-step : goal.invariant-loop-step
invariant-loop-step l = record {
  seen : (p : Position) → has l.later p ≡ list_any (same_point p) (drop (length l.points - l.step) l.points);
  different : all_different (drop (length l.points - l.step) l.points) ≡ true;
}
