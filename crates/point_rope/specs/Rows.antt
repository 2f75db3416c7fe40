-- Rows of points: turned round, put together, and read in runs.
use Rattle.std.specs.Prelude.{◌≡◌, ℕ, ◌-◌, ◌<◌, ◌≤◌, Bool, List, ◌++◌, reverse, take, drop, length, All, Some, IfSome, if◌then◌else◌}
use Rattle.tgap_model.specs.declared.geometry.Point.{Point}
use Rattle.tgap_model.specs.Bounds.{max_cross}
use Rattle.point_rope.specs.declared.run.Summary.{Summary}
use Rattle.point_rope.specs.declared.run.Run.{Run}
use Rattle.point_rope.specs.Corners.{least_area}
use Rattle.point_rope.specs.Held.{IsHeld}

-- the points of an edge, or the same from the last one on
abbrev pub oriented : Bool → List Point → List Point
oriented turned points = if turned then reverse points else points

-- a row of points and more of them, which begin where the row ends
abbrev pub glued : List Point → List Point → List Point
glued row more = take (length row - 1) row ++ more

-- a box that holds the points, and an area that no corner of them is below
pub record IsSummary (points : List Point) (s : Summary) : Type 0 where
  pub held : All (IsHeld s.bounds) points
  pub least : (n : ℕ) → least_area points ≡ Some n → s.least ≤ n
  pub small : s.least ≤ max_cross

-- points of a row from a place on, at least one where there is one, with a summary of them where one is known
pub record IsRun (row : List Point) (place : ℕ) (run : Run) : Type 0 where
  pub there : (more : List Point) × (drop place row ≡ run.points.now ++ more)
  pub some : place < length row → 0 < length run.points.now
  pub known : IfSome run.summary (IsSummary run.points.now)
