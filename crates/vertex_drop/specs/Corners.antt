-- Three points in a row that a sweep may cut short.
use Rattle.std.specs.Prelude.{ℕ, ℤ, pos, ◌*◌, ◌==◌, ◌||◌, ◌&&◌, int_le, not, Bool, false, List, [], ◌∷◌, length, get_or, if◌then◌else◌, Option, None}
use Rattle.tgap_model.specs.declared.geometry.Point.{Point}
use Rattle.tgap_model.specs.declared.slice.Edge.{Edge}
use Rattle.tgap_model.specs.Base.{same_point}
use Rattle.tgap_model.specs.Point.{area2}
use Rattle.tgap_model.specs.Removals.{has_side}
use Rattle.point_rope.specs.Corners.{least_area}

-- a triangle with twice this area is none, or small enough
abbrev pub small_area : ℕ → ℤ → ℕ → Bool
small_area ratio area twice = (twice == 0) || int_le (pos (ratio * twice)) area

-- the three points are on one line, or their triangle is small enough
abbrev pub is_small_corner : ℕ → ℤ → Point → Point → Point → Bool
is_small_corner ratio area a b c = small_area ratio area (area2 a b c)

-- some three points in a row of these are such
abbrev pub any_small_corner : ℕ → ℤ → List Point → Bool
any_small_corner ratio area [] = false
any_small_corner ratio area (a ∷ []) = false
any_small_corner ratio area (a ∷ b ∷ []) = false
any_small_corner ratio area (a ∷ b ∷ c ∷ points) = is_small_corner ratio area a b c || any_small_corner ratio area (b ∷ c ∷ points)

-- the point at a place
abbrev pub point_at : List Point → ℕ → Point
point_at points i = get_or points i (record { x = pos 0; y = pos 0 })

-- three points and the first of them again
abbrev pub is_closed : List Point → Bool
is_closed points = (length points == 4) && same_point (point_at points 0) (point_at points 3)

-- A closed row of four points of which three have a triangle with an area. No corner of it goes: the segment across is
-- one of its own.
abbrev pub is_triangle : List Point → Bool
is_triangle points =
    (length points == 4)
    && (same_point (point_at points 0) (point_at points 3) && not (area2 (point_at points 0) (point_at points 1) (point_at points 2) == 0))

-- some three points in a row of these are such, and they are no triangle
unfoldable pub has_small_corner : ℕ → ℤ → List Point → Bool
has_small_corner ratio area points = not (is_triangle points) && any_small_corner ratio area points

-- twice the area of the least triangle of three points in a row of these, where they are no triangle
unfoldable pub least_corner : List Point → Option ℕ
least_corner points = if is_triangle points then None else least_area points

-- the edge borders the face, and has three such points
abbrev pub may_lose : ℕ → ℤ → ℕ → Edge → Bool
may_lose ratio area made e = has_side made e && has_small_corner ratio area e.points
