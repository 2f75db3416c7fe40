use Rattle.topology_forms.specs.Topology.{rings_of}
use Rattle.topo_read.proofs.Indexes.{IsReadTo}
use Rattle.topo_read.proofs.geometry.indexes.read_polygons.Given as goal

abbrev pub invariant-loop-item : goal.invariant-loop-item
invariant-loop-item l = IsReadTo rings_of l.polygons l.item-index l.items
