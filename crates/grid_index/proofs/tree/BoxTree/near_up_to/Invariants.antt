-- The places so far are those below this one.
use Rattle.std.proofs.Common.{◌-◌, length}
use Rattle.grid_index.proofs.Counted.{AreFound}
use Rattle.grid_index.proofs.tree.BoxTree.near_up_to.Given as goal

abbrev pub invariant-walk : goal.invariant-walk
invariant-walk l = AreFound l.area l.self l.places.items l.at

abbrev pub decreases-walk : goal.decreases-walk
decreases-walk l = length l.self - l.at
