use Rattle.std.proofs.Common.{◌≡◌, map, take}
use Rattle.topo_write.specs.Polygons.{home_of, lines_of}
use Rattle.topo_write.specs.Building.{ring_at}
use Rattle.topo_write.proofs.homes.all_homes.Given as goal

abbrev pub invariant-loop-place : goal.invariant-loop-place
invariant-loop-place l = l.homes.items ≡ map (λ p. home_of (lines_of l.edges) (map (ring_at l.rings) l.outer) (ring_at l.rings p)) (take l.place-index l.inner)
