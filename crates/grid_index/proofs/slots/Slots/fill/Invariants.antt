use Rattle.grid_index.proofs.Holding.{IsFilled}
use Rattle.grid_index.proofs.slots.Slots.fill.Given as goal

abbrev pub invariant-loop-place : goal.invariant-loop-place
invariant-loop-place l = IsFilled l.fn.self l.fn.come.items l.place l.self l.next l.come.items
