use Rattle.std.proofs.Common.{◌≡◌, map, take}
use Rattle.ring_walk.specs.Rings.{ring_face}
use Rattle.topo_write.proofs.areas.faces_of.Given as goal

abbrev pub invariant-loop-ring : goal.invariant-loop-ring
invariant-loop-ring l = l.faces.items ≡ map (ring_face l.spans) (take l.ring-index l.rings)
