-- the row stays
use Rattle.std.proofs.Common.{◌≡◌, ◌++◌, length, All}
use Rattle.point_rope.specs.Held.{IsNearPoint}
use Rattle.point_rope.specs.Runs.{joined}
use Rattle.point_rope.proofs.joining.settle.Given as goal

abbrev pub invariant-loop-full : goal.invariant-loop-full
invariant-loop-full l = record {
  same : joined l.full ++ l.last.items ≡ joined l.fn.full ++ l.fn.last.items;
  near : All IsNearPoint l.last.items;
}

abbrev pub decreases-loop-full : goal.decreases-loop-full
decreases-loop-full l = length l.full
