use Rattle.std.proofs.Common.{◌≡◌, ◌++◌, drop}
use Rattle.arc_places.specs.Slots.{slots_from}
use Rattle.arc_places.proofs.slots.slots_of.Given as goal

-- the slots so far, and those of the arcs that are left, are all
abbrev pub invariant-loop-slot : goal.invariant-loop-slot
invariant-loop-slot l = l.there.items ++ slots_from l.slot (drop l.slot l.slots) ≡ slots_from 0 l.slots
