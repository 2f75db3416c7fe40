-- The chunk before `low` begins with a number that passes, and the one at `high` with one that fails.
use Rattle.std.proofs.Common.{◌<◌, ◌≤◌, ◌-◌, true, false, [], length, get_or}
use Rattle.chunked_row.proofs.search.chunks_before.Given as goal

abbrev pub invariant-loop-low : goal.invariant-loop-low
invariant-loop-low g l = record {
  order : l.low ≤ l.high;
  within : l.high ≤ length l.chunks;
  passed : 0 < l.low → goal.P-post g l.passes (get_or (get_or l.chunks (l.low - 1) []) 0 0) true;
  failed : l.high < length l.chunks → goal.P-post g l.passes (get_or (get_or l.chunks l.high []) 0 0) false;
}

abbrev pub decreases-loop-low : goal.decreases-loop-low
decreases-loop-low g l = l.high - l.low
