use Rattle.std.proofs.Common.{◌≡◌, ◌≤◌, map, take}
use Rattle.tgap_build.specs.Boxes.{hull_of, part_box}
use Rattle.tgap_build.proofs.boxes.parts_box.Given as goal

-- the box of the parts so far
abbrev pub invariant-loop-i : goal.invariant-loop-i
invariant-loop-i l = record {
  some : 1 ≤ l.i;
  hull : l.all ≡ hull_of (map (part_box l.arcs l.edges) (take l.i l.parts));
}
