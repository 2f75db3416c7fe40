use Rattle.std.proofs.Common.{◌≡◌, map}
use Rattle.std.specs.List.{range_with_len}
use Rattle.tgap_build.specs.Boxes.{edge_box}
use Rattle.tgap_build.proofs.boxes.boxes_of.Given as goal

-- the boxes of the edges so far
abbrev pub invariant-loop-id : goal.invariant-loop-id
invariant-loop-id l = l.boxes.items ≡ map (edge_box l.forest) (range_with_len 0 l.id)
