use Rattle.std.proofs.Common.{◌≡◌, map}
use Rattle.topo_write.specs.Polygons.{lines_of}
use Rattle.topo_write.specs.Topology.{arc_data}
use Rattle.topo_write.proofs.Commas.{written}
use Rattle.topo_write.proofs.text.put_arcs.Given as goal

abbrev pub invariant-loop-place : goal.invariant-loop-place
invariant-loop-place l = l.out ≡ written l.fn.out (map arc_data (lines_of l.edges)) l.place
