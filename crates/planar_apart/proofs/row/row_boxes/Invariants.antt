-- The boxes of the segments so far.
use Rattle.std.proofs.Common.{◌≡◌, map, take}
use Rattle.planar_apart.specs.Rows.{row_box}
use Rattle.planar_apart.proofs.row.row_boxes.Given as goal

abbrev pub invariant-loop-s : goal.invariant-loop-s
invariant-loop-s l = l.boxes ≡ map row_box (take l.s-index l.row)
