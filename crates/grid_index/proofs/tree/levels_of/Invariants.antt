-- Each level holds the next one, down to the boxes.
use Rattle.std.proofs.Common.{length}
use Rattle.grid_index.specs.Tower.{AreHulls}
use Rattle.grid_index.proofs.tree.levels_of.Given as goal

abbrev pub invariant-up : goal.invariant-up
invariant-up l = AreHulls l.top l.levels.items l.boxes

abbrev pub decreases-up : goal.decreases-up
decreases-up l = length l.top
