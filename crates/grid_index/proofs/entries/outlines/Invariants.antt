-- As many boxes as edges so far.
use Rattle.std.proofs.Common.{◌≡◌, length}
use Rattle.grid_index.proofs.entries.outlines.Given as goal

abbrev pub invariant-loop-edge : goal.invariant-loop-edge
invariant-loop-edge l = length l.boxes ≡ l.edge-index
