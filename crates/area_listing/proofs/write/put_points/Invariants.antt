use Rattle.std.proofs.Common.{◌≡◌, ◌++◌, take}
use Rattle.std.specs.Prelude.{flat_map}
use Rattle.map_forms.specs.Listing.{point_words}
use Rattle.plain_io.specs.Fields.{fields}
use Rattle.area_listing.proofs.write.put_points.Given as goal

-- the points so far
abbrev pub invariant-loop-point : goal.invariant-loop-point
invariant-loop-point l = l.out ≡ l.fn.out ++ fields (flat_map point_words (take l.point-index l.points))
