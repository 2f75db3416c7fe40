use Rattle.std.proofs.Common.{◌≡◌, ◌++◌, map}
use Rattle.std.specs.List.{range_with_len}
use Rattle.planar_sweep.specs.Ends.{front_mark}
use Rattle.planar_sweep.proofs.marks.push_fronts.Given as goal

abbrev pub invariant-loop-number : goal.invariant-loop-number
invariant-loop-number l = l.marks.items ≡ l.initial.marks.items ++ map (front_mark l.segments) (range_with_len 0 l.number)
