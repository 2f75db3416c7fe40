-- What is left comes after what was moved.
use Rattle.std.proofs.Common.{◌≡◌, ◌+◌, ◌++◌, length}
use Rattle.std.specs.Vec.{vec_capacity, vec_len}
use Rattle.grid_index.specs.Merged.{in_order, IsFront}
use Rattle.grid_index.proofs.edges.push_all.Given as goal

abbrev pub invariant-loop-edge : goal.invariant-loop-edge
invariant-loop-edge l = record {
  sum : l.changed.items ++ in_order l.come.items ≡ l.fn.changed.items ++ in_order l.fn.come.items;
  front : IsFront l.come.items l.fn.come.items;
  len : vec_len l.changed + vec_len l.come ≡ vec_len l.fn.changed + vec_len l.fn.come;
  capacity : vec_capacity l.changed ≡ vec_capacity l.fn.changed;
}

abbrev pub decreases-loop-edge : goal.decreases-loop-edge
decreases-loop-edge l = length l.come.items
