-- The arcs so far are at the place: all are, if the rest is.
use Rattle.std.proofs.Common.{◌≡◌, drop}
use Rattle.ring_sides.specs.Arcs.{are_at}
use Rattle.ring_sides.proofs.arcs.Arcs.are_at.Given as goal

abbrev pub invariant-loop-index : goal.invariant-loop-index
invariant-loop-index l = are_at l.self (drop l.index-index l.ring) l.place ≡ are_at l.self l.ring l.place
