-- What was moved is below the key.
use Rattle.std.proofs.Common.{◌≡◌, ◌+◌, length}
use Rattle.std.specs.Vec.{vec_capacity, vec_len}
use Rattle.grid_index.proofs.Merging.{IsBelow}
use Rattle.grid_index.proofs.edges.push_below.Given as goal

abbrev pub invariant-loop-edge : goal.invariant-loop-edge
invariant-loop-edge l = record {
  below : IsBelow l.key l.fn.changed.items l.fn.come.items l.changed.items l.come.items;
  len : vec_len l.changed + vec_len l.come ≡ vec_len l.fn.changed + vec_len l.fn.come;
  capacity : vec_capacity l.changed ≡ vec_capacity l.fn.changed;
}

abbrev pub decreases-loop-edge : goal.decreases-loop-edge
decreases-loop-edge l = length l.come.items
