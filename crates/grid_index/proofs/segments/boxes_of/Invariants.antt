-- The boxes of the segments up to a point.
use Rattle.std.proofs.Common.{◌≡◌, take}
use Rattle.grid_index.specs.Live.{segment_boxes}
use Rattle.grid_index.proofs.segments.boxes_of.Given as goal

abbrev pub invariant-loop-i : goal.invariant-loop-i
invariant-loop-i l = l.boxes ≡ segment_boxes (take l.i l.points)
