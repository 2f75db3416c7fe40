use Rattle.std.proofs.Common.{◌≡◌, ℕ, ◌==◌, ◌&&◌, ◌||◌, take}
use Rattle.std.specs.List.{list_any}
use Rattle.tgap_model.specs.declared.geometry.Point.{Point}
use Rattle.tgap_model.specs.Base.{same_point}
use Rattle.arc_places.specs.Places.{listed, is_among}
use Rattle.arc_places.proofs.places.Places.list_points.Given as goal

-- the arc is listed for the points so far
abbrev pub invariant-loop-point : goal.invariant-loop-point
invariant-loop-point l =
    (p : Point) (i : ℕ) → is_among i (listed l.self p) ≡ (is_among i (listed l.initial.self p) || ((l.arc == i) && list_any (same_point p) (take l.point-index l.points)))
