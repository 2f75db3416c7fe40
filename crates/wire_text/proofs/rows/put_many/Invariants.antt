use Rattle.std.proofs.Common.{◌≡◌, ◌++◌, map, length, decimal}
use Rattle.std.specs.Prelude.{flat_map}
use Rattle.map_forms.specs.Listing.{point_words}
use Rattle.plain_io.specs.Fields.{fields}
use Rattle.wire_text.proofs.rows.put_many.Given as goal

-- the counts and the points so far, which the points that are left make whole
abbrev pub invariant-loop-rest : goal.invariant-loop-rest
invariant-loop-rest l = l.out ++ fields (flat_map point_words l.rest) ≡ l.fn.out ++ fields (map decimal l.fn.counts ++ flat_map point_words l.points)

abbrev pub decreases-loop-rest : goal.decreases-loop-rest
decreases-loop-rest l = length l.rest
