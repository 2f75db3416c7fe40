use Rattle.std.proofs.Common.{◌≡◌, ◌+◌, ◌-◌, ◌*◌, ◌≤◌, ◌++◌, map, drop, length, decimal}
use Rattle.plain_io.specs.Fields.{fields}
use Rattle.wire_text.proofs.number.write_counts.Given as goal

-- the counts from this place on, and room for those before it
abbrev pub invariant-loop-i : goal.invariant-loop-i
invariant-loop-i l =
    (l.i ≤ length l.counts) × (21 * l.i ≤ l.at) × (l.at ≤ l.end) × (l.end ≤ l.at + 21 * (length l.counts - l.i)) × (length l.room ≡ length l.fn.room)
    × (drop l.at l.room ≡ fields (map decimal (drop l.i l.counts)) ++ drop l.end l.fn.room)

abbrev pub decreases-loop-i : goal.decreases-loop-i
decreases-loop-i l = l.i
