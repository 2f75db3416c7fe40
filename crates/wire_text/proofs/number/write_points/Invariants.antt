use Rattle.std.proofs.Common.{◌≡◌, ◌+◌, ◌-◌, ◌*◌, ◌≤◌, ◌++◌, drop, length}
use Rattle.std.specs.Prelude.{flat_map}
use Rattle.map_forms.specs.Listing.{point_words}
use Rattle.plain_io.specs.Fields.{fields}
use Rattle.wire_text.proofs.number.write_points.Given as goal

-- the points from this place on, and room for those before it
abbrev pub invariant-loop-i : goal.invariant-loop-i
invariant-loop-i l =
    (l.i ≤ length l.points) × (42 * l.i ≤ l.at) × (l.at ≤ l.end) × (l.end ≤ l.at + 42 * (length l.points - l.i)) × (length l.room ≡ length l.fn.room)
    × (drop l.at l.room ≡ fields (flat_map point_words (drop l.i l.points)) ++ drop l.end l.fn.room)

abbrev pub decreases-loop-i : goal.decreases-loop-i
decreases-loop-i l = l.i
