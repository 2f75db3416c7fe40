use Rattle.std.proofs.Common.{◌≡◌, ◌-◌, ℕ, length, take}
use Rattle.refine_packets.specs.Counts.{count_at, sides_at}
use Rattle.refine_packets.proofs.counts.take_sides.Given as goal

-- less the edges so far
abbrev pub invariant-loop-edge : goal.invariant-loop-edge
invariant-loop-edge l =
    (length l.counts.items ≡ length l.initial.counts.items)
    × ((f : ℕ) → count_at l.counts.items f ≡ count_at l.initial.counts.items f - sides_at f (take l.edge-index l.edges))
