-- the box holds the boxes so far
use Rattle.std.proofs.Common.{take, All}
use Rattle.grid_index.specs.Boxes.{Covers}
use Rattle.grid_index.proofs.window.hull.Given as goal

abbrev pub invariant-loop-b : goal.invariant-loop-b
invariant-loop-b l = All (Covers l.all) (take l.b-index l.boxes)
