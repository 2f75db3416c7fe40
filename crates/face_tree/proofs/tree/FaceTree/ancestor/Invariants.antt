-- The label is the same all the way up, and each face on it is made by then.
use Rattle.std.proofs.Common.{◌≡◌, ◌<◌, ◌≤◌, ◌+◌, ◌-◌}
use Rattle.face_tree.specs.Tree.{label_from}
use Rattle.face_tree.proofs.tree.FaceTree.ancestor.Given as goal

abbrev pub invariant-loop-next : goal.invariant-loop-next
invariant-loop-next l = record {
  made : l.label ≤ l.self.faces + l.k;
  some : 0 < l.face → 0 < l.label;
  label : label_from l.self l.k l.face ≡ label_from l.self l.k l.label;
}

abbrev pub decreases-loop-next : goal.decreases-loop-next
decreases-loop-next l = l.self.faces + l.k - l.label
