-- the points of the runs so far stand at the end
use Rattle.std.proofs.Common.{◌≡◌, ◌++◌, take}
use Rattle.point_rope.specs.Runs.{joined}
use Rattle.point_rope.proofs.rope.push_runs.Given as goal

abbrev pub invariant-loop-run : goal.invariant-loop-run
invariant-loop-run l = l.list.items ≡ l.fn.list.items ++ joined (take l.run-index l.runs)
