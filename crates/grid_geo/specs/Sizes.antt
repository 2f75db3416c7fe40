-- How large the numbers get that are computed of points within the limits.
use Rattle.std.specs.Prelude.{◌≤◌, ℕ, ◌+◌, ◌*◌, unsigned_abs}
use Rattle.tgap_model.specs.Bounds.{max_difference, max_shoelace, max_cross}
use Rattle.grid_geo.specs.declared.determinant.Step.{Step}

-- a step between two points within the limits
pub record IsShort (u : Step) : Type 0 where
  pub x : unsigned_abs u.x ≤ max_difference
  pub y : unsigned_abs u.y ≤ max_difference

-- of a cross product times a coordinate or a difference
abbrev pub max_scaled : ℕ
max_scaled = max_cross * max_difference

-- of a height, over twice the run of the segment
abbrev pub max_height : ℕ
max_height = (max_difference + 1) * max_difference + 2 * max_shoelace
