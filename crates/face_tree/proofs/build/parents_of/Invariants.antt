-- Each parent is the one by the steps from this one on.
use Rattle.std.proofs.Common.{◌≡◌, ◌+◌, ℕ, None, length, slice_index_or, drop}
use Rattle.face_tree.specs.Tree.{parent_by}
use Rattle.face_tree.proofs.build.parents_of.Given as goal

abbrev pub invariant-loop-i : goal.invariant-loop-i
invariant-loop-i l = record {
  count : length l.found.items ≡ l.faces + length l.steps + 1;
  value : (f : ℕ) → slice_index_or l.found.items f None ≡ parent_by (drop l.i l.steps) f;
}
