-- A point between two others.
use Rattle.std.specs.Prelude.{Bool, false, ◌&&◌, not, List, length, ◌-◌, Option, Some, None}
use Rattle.std.specs.List.{slice_get}
use Rattle.tgap_model.specs.declared.geometry.Point.{Point}
use Rattle.tgap_model.specs.Base.{same_point}

-- there is a point on either side, and the point differs from both
abbrev pub is_between : Option Point → Option Point → Point → Bool
is_between (Some a) (Some b) p = not (same_point a p) && not (same_point b p)
is_between (Some a) None p = false
is_between None after p = false

-- the last of some points, where there is one
abbrev pub last_of : List Point → Option Point
last_of points = slice_get points (length points - 1)
