use Rattle.std.proofs.Common.{◌≡◌, filter, take}
use Rattle.grid_index.specs.Boxes.{meets}
use Rattle.grid_index.specs.Picked.{box_at}
use Rattle.slice_read.proofs.near.met_of.Given as goal

-- those of the numbers so far
abbrev pub invariant-loop-id : goal.invariant-loop-id
invariant-loop-id l = l.met ≡ filter (λ i. meets l.area (box_at l.boxes i)) (take l.id-index l.ids)
