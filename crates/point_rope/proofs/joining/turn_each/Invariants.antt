-- The runs so far are turned round.
use Rattle.std.proofs.Common.{◌≡◌, ◌++◌, map, reverse, take, drop}
use Rattle.point_rope.proofs.joining.turn_each.Given as goal

abbrev pub invariant-loop-run : goal.invariant-loop-run
invariant-loop-run l = l.runs ≡ map reverse (take l.run-index l.initial.runs) ++ drop l.run-index l.initial.runs
