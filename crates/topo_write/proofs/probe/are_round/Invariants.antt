use Rattle.std.proofs.Common.{◌≡◌, take}
use Rattle.ring_walk.specs.Areas.{are_round, ring_segments}
use Rattle.topo_write.specs.Polygons.{lines_of}
use Rattle.topo_write.proofs.probe.are_round.Given as goal

abbrev pub invariant-loop-side : goal.invariant-loop-side
invariant-loop-side l = l.odd ≡ are_round l.probe (ring_segments (lines_of l.edges) (take l.side-index l.ring))
