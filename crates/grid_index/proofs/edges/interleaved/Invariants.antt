-- What is left of both lists comes after what was moved.
use Rattle.std.proofs.Common.{◌+◌, ◌≤◌, length}
use Rattle.std.specs.Vec.{vec_capacity, vec_len}
use Rattle.grid_index.proofs.Merging.{IsMerging}
use Rattle.grid_index.proofs.edges.interleaved.Given as goal

abbrev pub invariant-loop-edge : goal.invariant-loop-edge
invariant-loop-edge l = record {
  merging : IsMerging l.gone l.fn.rest.items l.fn.come.items l.rest.items l.changed.items l.come.items;
  room : vec_len l.changed + vec_len l.rest + vec_len l.come ≤ vec_capacity l.changed;
}

abbrev pub decreases-loop-edge : goal.decreases-loop-edge
decreases-loop-edge l = length l.rest.items
