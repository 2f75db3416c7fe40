use Rattle.std.proofs.Common.{◌≡◌, map, take}
use Rattle.planar_apart.specs.Meetings.{box_of}
use Rattle.planar_apart.proofs.boxes.boxes_of.Given as goal

-- the boxes of the segments so far
abbrev pub invariant-loop-s : goal.invariant-loop-s
invariant-loop-s l = l.boxes ≡ map box_of (take l.s-index l.segments)
