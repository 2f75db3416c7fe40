use Rattle.topology_forms.specs.Topology.{ring_of}
use Rattle.topo_read.proofs.Indexes.{IsReadTo}
use Rattle.topo_read.proofs.geometry.indexes.read_rings.Given as goal

abbrev pub invariant-loop-item : goal.invariant-loop-item
invariant-loop-item l = IsReadTo ring_of l.rings l.item-index l.items
