use Rattle.std.proofs.Common.{◌≡◌, ◌≤◌, ◌-◌, drop, get_or}
use Rattle.base_check.specs.Spokes.{gap_from, gap_of}
use Rattle.base_check.proofs.Rings.{no_spoke}
use Rattle.base_check.proofs.ring.first_gap.Given as goal

-- the first gap is among the spokes that are left, of which the first ones go on with the ring of the spoke at `first`
abbrev pub invariant-loop-i : goal.invariant-loop-i
invariant-loop-i l = (l.first ≤ l.i) × (gap_from (get_or l.spokes l.first no_spoke) (l.i - l.first) (drop l.i l.spokes) ≡ gap_of l.spokes)
