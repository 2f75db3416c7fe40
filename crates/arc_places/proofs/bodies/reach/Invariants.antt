use Rattle.std.proofs.Common.{◌≡◌, ◌+◌, ◌-◌, ℕ, length}
use Rattle.arc_places.specs.Bodies.{image}
use Rattle.arc_places.proofs.bodies.reach.Given as goal

-- no image changes
abbrev pub invariant-loop-numbers : goal.invariant-loop-numbers
invariant-loop-numbers l = (i : ℕ) → image l.numbers.items i ≡ image l.initial.numbers.items i

abbrev pub decreases-loop-numbers : goal.decreases-loop-numbers
decreases-loop-numbers l = l.last + 1 - length l.numbers.items
