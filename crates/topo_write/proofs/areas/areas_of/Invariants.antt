use Rattle.std.proofs.Common.{◌≡◌, map, take}
use Rattle.ring_walk.specs.Areas.{ring_area}
use Rattle.topo_write.specs.Polygons.{lines_of}
use Rattle.topo_write.proofs.areas.areas_of.Given as goal

abbrev pub invariant-loop-ring : goal.invariant-loop-ring
invariant-loop-ring l = l.areas.items ≡ map (ring_area (lines_of l.edges)) (take l.ring-index l.rings)
