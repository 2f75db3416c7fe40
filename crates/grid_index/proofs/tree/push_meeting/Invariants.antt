-- The children so far that meet the area.
use Rattle.std.proofs.Common.{◌≡◌, ◌-◌, ◌++◌, filter}
use Rattle.std.specs.List.{range_with_len}
use Rattle.grid_index.specs.Tower.{meets_at}
use Rattle.grid_index.proofs.tree.push_meeting.Given as goal

abbrev pub invariant-loop-i : goal.invariant-loop-i
invariant-loop-i l = l.kept.items ≡ l.fn.kept.items ++ filter (meets_at l.area l.level) (range_with_len l.start (l.i - l.start))
