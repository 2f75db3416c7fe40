use Rattle.std.proofs.Common.{take}
use Rattle.topo_write.specs.Polygons.{lines_of}
use Rattle.topo_write.specs.Building.{HoldsRing}
use Rattle.topo_write.proofs.columns.columns_of.Given as goal

-- the box holds the sides that were passed
abbrev pub invariant-loop-side : goal.invariant-loop-side
invariant-loop-side l = HoldsRing (lines_of l.edges) (take l.side-index l.ring) l.columns
