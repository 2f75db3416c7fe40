use Rattle.std.proofs.Common.{◌≡◌, map}
use Rattle.std.specs.List.{range_with_len}
use Rattle.planar_stack.specs.Sweep.{end_of}
use Rattle.planar_stack.proofs.events.ends_of.Given as goal

abbrev pub invariant-loop-number : goal.invariant-loop-number
invariant-loop-number l = l.ends.items ≡ map (end_of l.starts) (range_with_len 0 l.number)
