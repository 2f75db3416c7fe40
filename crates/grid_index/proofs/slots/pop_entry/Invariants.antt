-- What was taken off had nothing.
use Rattle.std.proofs.Common.{◌≡◌, length}
use Rattle.grid_index.specs.Slots.{held}
use Rattle.grid_index.proofs.slots.pop_entry.Given as goal

abbrev pub invariant-loop-top : goal.invariant-loop-top
invariant-loop-top l = held l.fn.come.items ≡ held l.come.items

abbrev pub decreases-loop-top : goal.decreases-loop-top
decreases-loop-top l = length l.come.items
