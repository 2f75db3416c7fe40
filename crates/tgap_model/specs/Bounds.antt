-- How large the numbers of a base map get: each bound follows from the limits of the map.
use Rattle.std.specs.Prelude.{◌≤◌, ℕ, ◌+◌, ◌*◌, unsigned_abs}
use Rattle.tgap_model.specs.declared.geometry.Point.{Point}
use Rattle.tgap_model.specs.declared.geometry.Seg.{Seg}
use Rattle.tgap_model.specs.declared.limits.TheConstants.{MAX_COORDINATE, MAX_POINTS, MAX_ARCS, MAX_FACES}

-- of a coordinate, without its sign
abbrev pub max_coordinate : ℕ
max_coordinate = unsigned_abs MAX_COORDINATE

-- of the difference of two coordinates
abbrev pub max_difference : ℕ
max_difference = 2 * max_coordinate

-- of the length of a segment
abbrev pub max_length : ℕ
max_length = 2 * max_difference

-- of the product of two coordinates
abbrev pub max_product : ℕ
max_product = max_coordinate * max_coordinate

-- of the shoelace term of a segment
abbrev pub max_shoelace : ℕ
max_shoelace = 2 * max_product

-- of the cross product of two differences of points
abbrev pub max_cross : ℕ
max_cross = 2 * (max_difference * max_difference)

-- of the length of an arc
abbrev pub max_arc_length : ℕ
max_arc_length = MAX_POINTS * max_length

-- of the shoelace sum of an arc
abbrev pub max_arc_area : ℕ
max_arc_area = MAX_POINTS * max_shoelace

-- of twice the area of a face, to which each arc adds at either side
abbrev pub max_area : ℕ
max_area = 2 * (MAX_ARCS * max_arc_area)

-- of the number of a face: each step of a history makes one, and takes an arc out of the borders
abbrev pub max_face : ℕ
max_face = MAX_FACES + MAX_ARCS

-- both coordinates are within the limits
pub record IsNear (p : Point) : Type 0 where
  pub x : unsigned_abs p.x ≤ max_coordinate
  pub y : unsigned_abs p.y ≤ max_coordinate

-- both ends are
pub record HasNearEnds (s : Seg) : Type 0 where
  pub a : IsNear s.a
  pub b : IsNear s.b
