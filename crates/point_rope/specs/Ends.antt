-- What is kept of points that were looked at one after the other.
use Rattle.std.specs.Prelude.{◌≡◌, ◌≤◌, ℕ, List, [], ◌∷◌, Option, None, Some}
use Rattle.tgap_model.specs.declared.geometry.Point.{Point}
use Rattle.tgap_model.specs.Bounds.{max_cross}
use Rattle.point_rope.specs.declared.corners.Corners.{Corners}
use Rattle.point_rope.specs.Corners.{least_area}

-- the last two of some points, or all where there are fewer
abbrev pub last_two : List Point → List Point
last_two [] = []
last_two (a ∷ []) = a ∷ []
last_two (a ∷ b ∷ []) = a ∷ b ∷ []
last_two (a ∷ b ∷ c ∷ points) = last_two (b ∷ c ∷ points)

-- the last of some points, where there is one
abbrev pub last_one : List Point → List Point
last_one [] = []
last_one (a ∷ []) = a ∷ []
last_one (a ∷ b ∷ points) = last_one (b ∷ points)

-- two points that may be missing, the first one before the second
abbrev pub both_of : Option Point → Option Point → List Point
both_of p None = []
both_of None (Some q) = q ∷ []
both_of (Some p) (Some q) = p ∷ q ∷ []

abbrev pub ends_of : Corners → List Point
ends_of c = both_of c.before c.last

-- these are the least corner and the last two points of a row
pub record AreCorners (points : List Point) (c : Corners) : Type 0 where
  pub least : c.least ≡ least_area points
  pub ends : ends_of c ≡ last_two points
  pub small : (n : ℕ) → c.least ≡ Some n → n ≤ max_cross
