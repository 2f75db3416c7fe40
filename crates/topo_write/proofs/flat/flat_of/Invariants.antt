use Rattle.std.proofs.Common.{◌≡◌, drop}
use Rattle.topo_write.specs.Polygons.{flat_of}
use Rattle.topo_write.specs.Building.{rings_in}
use Rattle.topo_write.proofs.flat.flat_of.Given as goal

-- the first of the rows that are left is the first of all
abbrev pub invariant-loop-row : goal.invariant-loop-row
invariant-loop-row l = flat_of l.edges (rings_in l.rings.rings l.rings.groups) (drop l.row-index l.rows) ≡ flat_of l.edges (rings_in l.rings.rings l.rings.groups) l.rows
