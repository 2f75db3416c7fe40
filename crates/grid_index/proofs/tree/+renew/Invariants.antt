use Rattle.std.proofs.Common.{length}
use Rattle.grid_index.proofs.tree.«+renew».Given as goal

abbrev pub decreases-renew : goal.decreases-renew
decreases-renew l = length l.levels.now.items
