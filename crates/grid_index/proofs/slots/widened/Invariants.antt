-- The boxes, and those so far that meet nothing.
use Rattle.std.proofs.Common.{◌≡◌, ◌++◌, replicate}
use Rattle.grid_index.specs.declared.segments.TheConstants.{NOWHERE}
use Rattle.grid_index.proofs.slots.widened.Given as goal

abbrev pub invariant-loop-i : goal.invariant-loop-i
invariant-loop-i l = l.row ≡ l.boxes ++ replicate l._i NOWHERE
