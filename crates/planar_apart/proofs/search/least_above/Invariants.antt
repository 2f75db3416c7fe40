-- The least meeting with the segments up to this one.
use Rattle.std.proofs.Common.{◌≤◌, ◌-◌, length}
use Rattle.planar_apart.proofs.RowSearch.{IsLeastAboveUpTo}
use Rattle.planar_apart.proofs.search.least_above.Given as goal

abbrev pub invariant-near : goal.invariant-near
invariant-near l = record {
  within : l.at ≤ length l.row;
  so_far : IsLeastAboveUpTo l.row l.first l.at l.least;
}

abbrev pub decreases-near : goal.decreases-near
decreases-near l = length l.row - l.at
