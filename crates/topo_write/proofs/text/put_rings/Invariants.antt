use Rattle.std.proofs.Common.{◌≡◌, map}
use Rattle.topo_write.specs.Building.{ring_at}
use Rattle.topo_write.specs.Topology.{ring_data}
use Rattle.topo_write.proofs.Commas.{written}
use Rattle.topo_write.proofs.text.put_rings.Given as goal

abbrev pub invariant-loop-place : goal.invariant-loop-place
invariant-loop-place l = l.out ≡ written l.fn.out (map (λ p. ring_data (ring_at l.rings p)) l.places) l.place
