-- Where a segment or an inner point stands among the points of an arc, and among all arcs.
use Rattle.std.specs.Prelude.{ℕ, zero, suc, ◌+◌, ◌-◌, pos, Bool, slice_index_or, List, [], ◌∷◌, Option, Some, None, option_map, if◌then◌else◌}
use Rattle.std.specs.List.{position as position_by}
use Rattle.tgap_model.specs.declared.geometry.Point.{Point}
use Rattle.tgap_model.specs.declared.base.BaseArc.{BaseArc}
use Rattle.tgap_model.specs.Base.{same_point}
use Rattle.edit_laws.specs.Edits.{are_ends, with_points}
use Rattle.map_version.specs.declared.path.Sought.{Sought}
use Rattle.map_version.specs.declared.path.Sought.TheVariants.{Segment, Inner, Any}

-- the point at a position
abbrev pub point_of : List Point → ℕ → Point
point_of points at = slice_index_or points at (record { x = pos 0; y = pos 0 })

-- the points before and after a position are one
abbrev pub turns_at : List Point → ℕ → Bool
turns_at points at = same_point (point_of points (at - 1)) (point_of points (at + 1))

-- the position of the second point of the first segment with these ends
abbrev pub segment_at : Point → Point → List Point → Option ℕ
segment_at a b [] = None
segment_at a b (p ∷ []) = None
segment_at a b (p ∷ q ∷ points) = if are_ends a b p q then Some 1 else option_map (λ k. suc k) (segment_at a b (q ∷ points))

-- the position of the first inner point that is this
abbrev pub inner_at : Point → List Point → Option ℕ
inner_at old [] = None
inner_at old (p ∷ []) = None
inner_at old (p ∷ q ∷ []) = None
inner_at old (p ∷ q ∷ r ∷ points) = if same_point old q then Some 1 else option_map (λ k. suc k) (inner_at old (q ∷ r ∷ points))

-- the position of what is sought
abbrev pub position : Sought → List Point → Option ℕ
position (Segment a b) points = segment_at a b points
position (Inner old) points = inner_at old points
position (Any p) points = position_by (same_point p) points

-- a point that stands in the arc where what is sought is there
abbrev pub sought_point : Sought → Point
sought_point (Segment a b) = a
sought_point (Inner old) = old
sought_point (Any p) = p

-- the number of the first arc in which something is found, and its position there
abbrev pub first_place : (List Point → Option ℕ) → List BaseArc → Option (ℕ × ℕ)
first_place find [] = None
first_place find (a ∷ arcs) = elim (find a.points) [ None ↦ option_map (λ s. (suc s.0, s.1)) (first_place find arcs) | Some k ↦ Some (0, k) ]

-- the arcs with other points in the arc of this number
abbrev pub changed_at : ℕ → (List Point → List Point) → List BaseArc → List BaseArc
changed_at i change [] = []
changed_at zero change (a ∷ arcs) = with_points a (change a.points) ∷ arcs
changed_at (suc i) change (a ∷ arcs) = a ∷ changed_at i change arcs
