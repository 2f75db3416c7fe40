-- The run before `low` is the first one or begins up to the place, and the one at `high` does not.
use Rattle.std.proofs.Common.{◌<◌, ◌≤◌, ◌-◌, length, get_or}
use Rattle.point_rope.proofs.starts.last_up_to.Given as goal

abbrev pub invariant-loop-low : goal.invariant-loop-low
invariant-loop-low l = record {
  first : 1 ≤ l.low;
  order : l.low ≤ l.high;
  within : l.high ≤ length l.starts;
  begun : 1 < l.low → get_or l.starts (l.low - 1) 0 ≤ l.place;
  next : l.high < length l.starts → l.place < get_or l.starts l.high 0;
}

abbrev pub decreases-loop-low : goal.decreases-loop-low
decreases-loop-low l = l.high - l.low
