-- The vertices so far.
use Rattle.std.proofs.Common.{◌≡◌, sum_by, take}
use Rattle.commands.specs.Grid.{put_count}
use Rattle.commands.proofs.grid.count_puts.Given as goal

abbrev pub invariant-loop-step_record : goal.invariant-loop-step_record
invariant-loop-step_record l = l.count ≡ sum_by put_count (take l.step_record-index l.records)
