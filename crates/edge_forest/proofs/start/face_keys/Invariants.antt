use Rattle.std.proofs.Common.{◌≡◌, length}
use Rattle.edge_forest.specs.Start.{AreKeysListed}
use Rattle.edge_forest.proofs.start.face_keys.Given as goal

abbrev pub invariant-loop-i : goal.invariant-loop-i
invariant-loop-i l = record {
  count : length l.faces.items ≡ l.count;
  listed : AreKeysListed l.arcs l.faces.items l.i;
}
