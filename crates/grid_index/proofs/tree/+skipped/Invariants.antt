use Rattle.std.proofs.Common.{length}
use Rattle.grid_index.proofs.tree.+skipped.Given as goal

abbrev pub decreases-skipped : goal.decreases-skipped
decreases-skipped g l = length l.levels.now
