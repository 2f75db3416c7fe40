-- The points of a map, and the steps at which they were removed.
use Rattle.std.specs.Prelude.{◌≡◌, ℕ, Bool, ◌&&◌, nat_le, List, [], ◌∷◌, flat_map, length, if◌then◌else◌}
use Rattle.std.specs.declared.cmp.Ordering.{Ordering}
use Rattle.std.specs.Ordering.{int_cmp, ordering_then}
use Rattle.std.specs.List.Sorted.{IsStrictlySortedBy}
use Rattle.tgap_model.specs.declared.geometry.Point.{Point}
use Rattle.tgap_model.specs.declared.base.BaseArc.{BaseArc}
use Rattle.tgap_model.specs.Base.{same_point}

-- points, and beside each the step at which it was removed, or 0 where it was not
pub record PointSteps : Type 0 where
  pub points : List Point
  pub steps : List ℕ

-- the order of points, by x and then by y
abbrev pub point_cmp : Point → Point → Ordering
point_cmp p q = ordering_then (int_cmp p.x q.x) (int_cmp p.y q.y)

-- the points ascend, and each has a step
pub record IsTable (points : List Point) (steps : List ℕ) : Type 0 where
  pub ascend : IsStrictlySortedBy point_cmp points
  pub count : length steps ≡ length points

-- all points of these arcs
abbrev pub arc_points : List BaseArc → List Point
arc_points arcs = flat_map (λ a. a.points) arcs

-- the step beside a point, or 0 where the point is not listed
abbrev pub step_beside : List Point → List ℕ → Point → ℕ
step_beside [] steps p = 0
step_beside (q ∷ points) [] p = 0
step_beside (q ∷ points) (s ∷ steps) p = if same_point q p then s else step_beside points steps p

abbrev pub step_of : PointSteps → Point → ℕ
step_of t p = step_beside t.points t.steps p

-- the point was removed at step k or before
abbrev pub is_gone_by : PointSteps → ℕ → Point → Bool
is_gone_by t k p = nat_le 1 (step_of t p) && nat_le (step_of t p) k
