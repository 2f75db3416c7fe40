use Rattle.std.proofs.Common.{take}
use Rattle.topo_write.specs.Polygons.{lines_of}
use Rattle.topo_write.specs.Building.{AreColumns}
use Rattle.topo_write.proofs.columns.all_columns.Given as goal

abbrev pub invariant-loop-place : goal.invariant-loop-place
invariant-loop-place l = AreColumns (lines_of l.edges) l.rings (take l.place-index l.places) l.boxes
