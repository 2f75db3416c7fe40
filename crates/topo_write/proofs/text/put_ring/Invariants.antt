use Rattle.std.proofs.Common.{◌≡◌, map}
use Rattle.topo_write.specs.Topology.{index_data}
use Rattle.topo_write.proofs.Commas.{written}
use Rattle.topo_write.proofs.text.put_ring.Given as goal

abbrev pub invariant-loop-place : goal.invariant-loop-place
invariant-loop-place l = l.out ≡ written l.fn.out (map index_data l.ring) l.place
