-- The boxes with the keys so far.
use Rattle.std.proofs.Common.{◌≡◌, map, take}
use Rattle.grid_index.specs.Picked.{box_at}
use Rattle.grid_index.proofs.boxes.picked.Given as goal

abbrev pub invariant-loop-key : goal.invariant-loop-key
invariant-loop-key l = l.row ≡ map (box_at l.boxes) (take l.key-index l.keys)
