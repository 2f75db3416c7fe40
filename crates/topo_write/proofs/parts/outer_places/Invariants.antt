use Rattle.std.proofs.Common.{◌≡◌, take}
use Rattle.topo_write.specs.Building.{outer_places}
use Rattle.topo_write.proofs.parts.outer_places.Given as goal

abbrev pub invariant-loop-place : goal.invariant-loop-place
invariant-loop-place l = l.outer.items ≡ outer_places l.areas (take l.place-index l.places)
