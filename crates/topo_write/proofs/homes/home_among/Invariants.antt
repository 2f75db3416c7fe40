use Rattle.std.proofs.Common.{◌≡◌, map, take}
use Rattle.std.specs.Prelude.{None, fold}
use Rattle.topo_write.specs.Polygons.{lines_of}
use Rattle.topo_write.specs.Building.{home_after, ring_at}
use Rattle.topo_write.proofs.homes.home_among.Given as goal

abbrev pub invariant-loop-place : goal.invariant-loop-place
invariant-loop-place l = l.home ≡ fold (home_after (lines_of l.edges) (map (ring_at l.rings) l.outer) l.probe) None (take l.place-index l.near)
