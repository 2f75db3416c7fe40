use Rattle.std.proofs.Common.{◌≡◌, map, take}
use Rattle.ring_walk.specs.Sides.{numbered}
use Rattle.arc_places.proofs.ordered.numbered_sides.Given as goal

-- the sides so far
abbrev pub invariant-loop-number : goal.invariant-loop-number
invariant-loop-number l = l.found.items ≡ map numbered (take l.number-index l.numbers)
