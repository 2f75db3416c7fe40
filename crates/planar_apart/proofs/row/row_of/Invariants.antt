-- The segments so far.
use Rattle.std.proofs.Common.{◌≡◌, map, take}
use Rattle.planar_apart.specs.Rows.{numbered}
use Rattle.planar_apart.proofs.row.row_of.Given as goal

abbrev pub invariant-loop-number : goal.invariant-loop-number
invariant-loop-number l = l.row ≡ map (numbered l.segments) (take l.number-index l.numbers)
