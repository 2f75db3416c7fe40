use Rattle.std.proofs.Common.{◌≡◌, map, take}
use Rattle.map_version.specs.Labels.{slot_side}
use Rattle.map_version.proofs.arcs.slots_of.Given as goal

-- the sides so far, by their slots
abbrev pub invariant-loop-side : goal.invariant-loop-side
invariant-loop-side l = l.made ≡ map (slot_side l.table) (take l.side-index l.sides)
