-- The boxes of the slots so far.
use Rattle.std.proofs.Common.{take}
use Rattle.grid_index.specs.Slots.{IsBounded}
use Rattle.grid_index.proofs.slots.row_of.Given as goal

abbrev pub invariant-loop-slot : goal.invariant-loop-slot
invariant-loop-slot l = IsBounded (take l.slot-index l.slots) l.row
