-- The boxes that meet the area lead on to the levels that are left.
use Rattle.std.proofs.Common.{drop}
use Rattle.grid_index.specs.Tower.{Reaches}
use Rattle.grid_index.proofs.tree.BoxTree.near.Given as goal

abbrev pub invariant-loop-level : goal.invariant-loop-level
invariant-loop-level l = Reaches l.area l.parents.items (drop l.level-index l.level-items) l.self-inside.boxes
