use Rattle.std.proofs.Common.{◌≡◌, take}
use Rattle.topo_write.specs.Building.{inner_places}
use Rattle.topo_write.proofs.parts.inner_places.Given as goal

abbrev pub invariant-loop-place : goal.invariant-loop-place
invariant-loop-place l = l.inner.items ≡ inner_places l.areas (take l.place-index l.places)
