-- the runs so far stand behind the row
use Rattle.std.proofs.Common.{◌≡◌, ◌++◌, All}
use Rattle.point_rope.specs.Held.{IsNearPoint}
use Rattle.point_rope.specs.Runs.{joined}
use Rattle.point_rope.proofs.joining.put_runs.Given as goal

abbrev pub invariant-loop-run : goal.invariant-loop-run
invariant-loop-run l = record {
  row : joined l.full ++ l.last.items ≡ (joined l.fn.full ++ l.fn.last.items) ++ joined l.yielded;
  near : All IsNearPoint l.last.items;
}
