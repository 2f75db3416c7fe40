-- The number before `low` passes, and the one at `high` fails.
use Rattle.std.proofs.Common.{◌<◌, ◌≤◌, ◌-◌, true, false, length, get_or}
use Rattle.chunked_row.proofs.search.index_of.Given as goal

abbrev pub invariant-loop-low : goal.invariant-loop-low
invariant-loop-low g l = record {
  from : l.from ≤ l.low;
  order : l.low ≤ l.high;
  within : l.high ≤ length l.numbers;
  passed : l.from < l.low → goal.P-post g l.passes (get_or l.numbers (l.low - 1) 0) true;
  failed : l.high < length l.numbers → goal.P-post g l.passes (get_or l.numbers l.high 0) false;
}

abbrev pub decreases-loop-low : goal.decreases-loop-low
decreases-loop-low g l = l.high - l.low
