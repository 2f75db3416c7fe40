use Rattle.std.proofs.Common.{◌≡◌, ◌++◌, map, filter}
use Rattle.std.specs.List.{range_with_len}
use Rattle.planar_sweep.specs.Ends.{last_mark, is_loose}
use Rattle.planar_sweep.proofs.marks.push_lasts.Given as goal

abbrev pub invariant-loop-number : goal.invariant-loop-number
invariant-loop-number l = l.marks.items ≡ l.initial.marks.items ++ filter (is_loose l.segments) (map (last_mark l.segments) (range_with_len 0 l.number))
