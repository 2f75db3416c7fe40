-- The children of the boxes so far that meet the area.
use Rattle.std.proofs.Common.{◌≡◌, take}
use Rattle.grid_index.specs.Tower.{meeting}
use Rattle.grid_index.proofs.tree.meeting.Given as goal

abbrev pub invariant-loop-parent : goal.invariant-loop-parent
invariant-loop-parent l = l.kept.items ≡ meeting l.area l.level (take l.parent-index l.parents)
