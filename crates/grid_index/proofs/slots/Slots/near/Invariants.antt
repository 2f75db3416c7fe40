-- The segments so far.
use Rattle.std.proofs.Common.{◌≡◌, map, take}
use Rattle.std.specs.List.{flat_map}
use Rattle.grid_index.specs.Slots.{taken, entry_near}
use Rattle.grid_index.proofs.slots.Slots.near.Given as goal

abbrev pub invariant-loop-holder : goal.invariant-loop-holder
invariant-loop-holder l = l.found ≡ flat_map (entry_near l.area) (taken l.self (map (λ h. h.slot) (take l.holder-index l.holder-items)))
