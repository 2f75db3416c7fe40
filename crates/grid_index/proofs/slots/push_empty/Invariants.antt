-- The empty slots so far.
use Rattle.std.proofs.Common.{◌≡◌, ◌++◌, replicate, None}
use Rattle.std.specs.Vec.{vec_capacity}
use Rattle.grid_index.proofs.slots.push_empty.Given as goal

abbrev pub invariant-loop-i : goal.invariant-loop-i
invariant-loop-i l = record {
  items : l.slots.items ≡ l.fn.slots.items ++ replicate l._i None;
  capacity : vec_capacity l.slots ≡ vec_capacity l.fn.slots;
}
