use Rattle.topology_forms.specs.Topology.{ring_read}
use Rattle.topology_forms.specs.Rings.{is_raw_ring}
use Rattle.topo_read.proofs.Indexes.{IsThrough}
use Rattle.topo_read.proofs.geometry.indexes.check_rings.Given as goal

abbrev pub invariant-loop-ring : goal.invariant-loop-ring
invariant-loop-ring l = IsThrough (ring_read l.arcs) (is_raw_ring l.arcs) l.first l.rings l.ring-index l.number
