-- The numbers so far.
use Rattle.std.proofs.Common.{◌≡◌, take}
use Rattle.grid_index.proofs.boxes.narrowed.Given as goal

abbrev pub invariant-loop-number : goal.invariant-loop-number
invariant-loop-number l = l.list ≡ take l.number-index l.numbers
