-- The lists so far.
use Rattle.std.proofs.Common.{◌≡◌, ◌≤◌, [], length}
use Rattle.std.specs.List.{All}
use Rattle.std.specs.Vec.{vec_capacity}
use Rattle.edge_forest.proofs.step.rooms_for.Given as goal

abbrev pub invariant-loop : goal.invariant-loop
invariant-loop l = record {
  count : length l.rooms.items ≡ l.counter;
  empty : All (λ room. room.items ≡ []) l.rooms.items;
  room : All (λ room. 2 ≤ vec_capacity room) l.rooms.items;
}
