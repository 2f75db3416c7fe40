use Rattle.std.proofs.Common.{◌≡◌, map, take}
use Rattle.tgap_build.specs.Boxes.{points_box}
use Rattle.tgap_build.proofs.boxes.arc_boxes.Given as goal

-- the boxes of the arcs so far
abbrev pub invariant-loop-arc : goal.invariant-loop-arc
invariant-loop-arc l = l.boxes.items ≡ map (λ a. points_box a.points) (take l.arc-index l.arcs)
