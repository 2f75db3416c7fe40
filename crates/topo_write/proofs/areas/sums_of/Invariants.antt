use Rattle.std.proofs.Common.{take}
use Rattle.topo_write.specs.Building.{AreSums}
use Rattle.topo_write.specs.Polygons.{lines_of}
use Rattle.topo_write.proofs.areas.sums_of.Given as goal

abbrev pub invariant-loop-edge : goal.invariant-loop-edge
invariant-loop-edge l = AreSums (lines_of (take l.edge-index l.edges)) l.sums.items
