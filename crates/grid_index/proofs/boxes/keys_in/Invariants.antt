-- The keys in the slots so far.
use Rattle.std.proofs.Common.{◌≡◌, map, take, get_or}
use Rattle.grid_index.proofs.boxes.keys_in.Given as goal

abbrev pub invariant-loop-slot : goal.invariant-loop-slot
invariant-loop-slot l = l.found.items ≡ map (λ i. get_or l.keys i 0) (take l.slot-index l.slots)
