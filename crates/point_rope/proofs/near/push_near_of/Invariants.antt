-- the segments of the points so far
use Rattle.std.proofs.Common.{◌≡◌, ◌++◌, map, take}
use Rattle.grid_index.specs.Near.{boxes_near}
use Rattle.grid_index.specs.Live.{segment_boxes}
use Rattle.point_rope.proofs.near.push_near_of.Given as goal

abbrev pub invariant-loop-i : goal.invariant-loop-i
invariant-loop-i l = l.found ≡ l.fn.found ++ map (λ i. record { key = l.key; place = i }) (boxes_near l.area l.place (segment_boxes (take l.i l.points)))
