-- The numbers of the rows so far.
use Rattle.std.proofs.Common.{◌≡◌, take}
use Rattle.edge_forest.specs.Net.{numbers_of}
use Rattle.edge_forest.proofs.present.numbers_of.Given as goal

abbrev pub invariant-loop-row : goal.invariant-loop-row
invariant-loop-row l = l.ids ≡ numbers_of (take l.row-index l.rows)
