-- Sets of points.
use Rattle.std.specs.Prelude.{Bool}
use Rattle.std.specs.declared.cmp.Ordering.{Ordering}
use Rattle.std.specs.Ordering.{int_cmp, ordering_then}
use Rattle.std.specs.BTreeSet.{contains}
use Rattle.tgap_model.specs.declared.geometry.Point.{Point}
use Rattle.face_cuts.specs.declared.free.PointSet.{PointSet}

-- the order of points, by x and then by y
abbrev pub point_cmp : Point → Point → Ordering
point_cmp p q = ordering_then (int_cmp p.x q.x) (int_cmp p.y q.y)

-- the point is in the set
abbrev pub has : PointSet → Point → Bool
has set p = contains point_cmp set.points p
