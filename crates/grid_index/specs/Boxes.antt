-- Closed boxes with sides along the axes: which meet, which one holds another, and the box of a segment.
use Rattle.std.specs.Prelude.{ℤ, ◌≤ℤ◌, int_le, Bool, ◌&&◌}
use Rattle.std.specs.Int.{int_min, int_max}
use Rattle.tgap_model.specs.declared.geometry.Point.{Point}
use Rattle.tgap_model.specs.declared.geometry.Window.{Window}

-- the numbers from a0 to a1 and those from b0 to b1 have one in common
abbrev pub overlap : ℤ → ℤ → ℤ → ℤ → Bool
overlap a0 a1 b0 b1 = int_le a0 b1 && int_le b0 a1

-- two boxes have a point in common
abbrev pub meets : Window → Window → Bool
meets a b = overlap a.x0 a.x1 b.x0 b.x1 && overlap a.y0 a.y1 b.y0 b.y1

-- the first box holds the second
pub record Covers (a b : Window) : Type 0 where
  pub left : a.x0 ≤ℤ b.x0
  pub right : b.x1 ≤ℤ a.x1
  pub low : a.y0 ≤ℤ b.y0
  pub high : b.y1 ≤ℤ a.y1

-- the bounding box of a segment
abbrev pub segment_box : Point → Point → Window
segment_box a b = record { x0 = int_min a.x b.x; y0 = int_min a.y b.y; x1 = int_max a.x b.x; y1 = int_max a.y b.y }
