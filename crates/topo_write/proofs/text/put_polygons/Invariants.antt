use Rattle.std.proofs.Common.{◌≡◌, map}
use Rattle.topo_write.specs.Building.{told}
use Rattle.topo_write.specs.Topology.{polygon_data}
use Rattle.topo_write.proofs.Commas.{written}
use Rattle.topo_write.proofs.text.put_polygons.Given as goal

abbrev pub invariant-loop-place : goal.invariant-loop-place
invariant-loop-place l = l.out ≡ written l.fn.out (map polygon_data (map (told l.rings) l.parts)) l.place
