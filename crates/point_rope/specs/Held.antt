-- Points within the limits of a map, and boxes that hold points.
use Rattle.std.specs.Prelude.{◌≤ℤ◌, IsTrue}
use Rattle.tgap_model.specs.declared.geometry.Point.{Point}
use Rattle.tgap_model.specs.declared.geometry.Window.{Window}
use Rattle.tgap_model.specs.Base.{in_limits}

-- the point is within the limits of a map
abbrev pub IsNearPoint : Point → Type 0
IsNearPoint p = IsTrue (in_limits p)

-- the box holds the point
pub record IsHeld (b : Window) (p : Point) : Type 0 where
  pub left : b.x0 ≤ℤ p.x
  pub right : p.x ≤ℤ b.x1
  pub low : b.y0 ≤ℤ p.y
  pub high : p.y ≤ℤ b.y1
