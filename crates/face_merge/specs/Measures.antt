-- What an arc adds to the areas and the lengths of faces, and how large that gets.
use Rattle.std.specs.Prelude.{◌≤◌, ℕ, pos, unsigned_abs, List, sum_by}
use Rattle.tgap_model.specs.declared.base.BaseArc.{BaseArc}
use Rattle.tgap_model.specs.declared.merge.LabelledArc.{LabelledArc}
use Rattle.tgap_model.specs.Point.{shoelace, path_length}
use Rattle.tgap_model.specs.Bounds.{max_arc_area, max_arc_length}
use Rattle.face_merge.specs.declared.measures.Measure.{Measure}

-- the measure of an arc: its shoelace sum and its length
abbrev pub measure_of : BaseArc → Measure
measure_of a = record { twice = shoelace a.points; length = pos (path_length a.points) }

-- the measures of the arc are those of points within the limits
pub record IsMeasured (a : LabelledArc) : Type 0 where
  pub area : unsigned_abs a.area ≤ max_arc_area
  pub extent : a.extent ≤ max_arc_length

-- the length of all these arcs together
abbrev pub total_length : List LabelledArc → ℕ
total_length arcs = sum_by (λ a. a.extent) arcs
