use Rattle.std.proofs.Common.{◌≡◌, ◌≤◌, map, take}
use Rattle.tgap_build.specs.Boxes.{hull_of, point_box}
use Rattle.tgap_build.proofs.boxes.points_box.Given as goal

-- the box of the points so far
abbrev pub invariant-loop-i : goal.invariant-loop-i
invariant-loop-i l = record {
  some : 1 ≤ l.i;
  hull : l.all ≡ hull_of (map point_box (take l.i l.points));
}
