-- An inner vertex that becomes a node: its arc is split there.
use Rattle.std.specs.Prelude.{ℕ, ◌+◌, Bool, ◌||◌, not, List, [], ◌∷◌, ◌++◌, take, drop, set, Option, option_map, option_and_then, Result, Ok}
use Rattle.std.specs.List.{list_any, position}
use Rattle.std.specs.Option.{ok_or}
use Rattle.tgap_model.specs.declared.geometry.Point.{Point}
use Rattle.tgap_model.specs.declared.base.BaseArc.{BaseArc}
use Rattle.tgap_model.specs.Base.{BaseMap, same_point}
use Rattle.tgap_model.specs.Chains.{arc_number, first_point, last_point}
use Rattle.face_cuts.specs.Outcomes.{◌>>=◌, ensured, has_room}

-- the arc has the point
abbrev pub passes : Point → BaseArc → Bool
passes v a = list_any (same_point v) a.points

-- the arc begins or ends at the point
abbrev pub is_end : Point → BaseArc → Bool
is_end v a = same_point v (first_point a.points) || same_point v (last_point a.points)

-- some arc begins or ends at the point
abbrev pub is_node : Point → List BaseArc → Bool
is_node v arcs = list_any (is_end v) arcs

-- the least place of a point: the number of the first arc that has it, and its first position there
abbrev pub place_of : Point → List BaseArc → Option (ℕ × ℕ)
place_of v arcs = option_and_then (λ i. option_map (λ k. (i, k)) (position (same_point v) (arc_number arcs i).points)) (position (passes v) arcs)

-- the arc with other points
abbrev pub with_points : BaseArc → List Point → BaseArc
with_points a points = record a { points = points }

-- The arcs, of which one keeps its points up to a place; a new last arc with the same sides has the points from there on.
abbrev pub split_at : List BaseArc → ℕ × ℕ → List BaseArc
split_at arcs (i, k) =
    set arcs i (with_points (arc_number arcs i) (take (k + 1) (arc_number arcs i).points))
    ++ with_points (arc_number arcs i) (drop k (arc_number arcs i).points) ∷ []

-- The map with a node where it has an inner vertex. Cause 3: no arc has the point; 6: it is a node; 11: a limit would be passed. The vertex
-- stands in two arcs afterwards, so there is a point more.
unfoldable pub add_node : BaseMap → Point → Result BaseMap ℕ
add_node m v = do
  place ← ok_or (place_of v m.arcs) 3
  inner ← ensured (not (is_node v m.arcs)) 6
  room ← ensured (has_room m 0 1 1) 11
  Ok (record m { arcs = split_at m.arcs place })
