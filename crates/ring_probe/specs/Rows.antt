-- Rows of points, and segments of them by which a ring is found.
use Rattle.std.specs.Prelude.{◌≢◌, ◌≤◌, List, length, All}
use Rattle.tgap_model.specs.declared.geometry.Point.{Point}
use Rattle.tgap_model.specs.declared.geometry.Seg.{Seg}
use Rattle.tgap_model.specs.declared.limits.TheConstants.{MAX_POINTS}
use Rattle.tgap_model.specs.Bounds.{HasNearEnds, IsNear}

-- a row of points within the limits of a map
pub record IsLine (points : List Point) : Type 0 where
  pub near : All IsNear points
  pub some : 1 ≤ length points
  pub short : length points ≤ MAX_POINTS

-- a segment within the limits of a map that is not vertical
pub record IsLeaning (s : Seg) : Type 0 where
  pub near : HasNearEnds s
  pub leaning : s.a.x ≢ s.b.x
