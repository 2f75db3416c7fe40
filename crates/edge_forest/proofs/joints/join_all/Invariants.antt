-- The joins at the nodes so far are made, and there is room for the others.
use Rattle.std.proofs.Common.{◌≡◌, ◌≤◌, ◌+◌, take, length, []}
use Rattle.std.specs.List.{All}
use Rattle.std.specs.Vec.{vec_capacity, vec_len}
use Rattle.edge_forest.specs.Continued.{AreContinued, AreJoined}
use Rattle.edge_forest.specs.Growth.{IsStored, IsJoinedInTurn, IsFew}
use Rattle.edge_forest.proofs.joints.join_all.Given as goal

abbrev pub invariant-loop-node : goal.invariant-loop-node
invariant-loop-node l = record {
  stored : IsStored l.low l.growth;
  joined : IsJoinedInTurn l.low l.fn.growth (take l.node-index l.joints) l.growth;
  continued : AreContinued l.fn.growth.edges.items l.growth.edges.items;
  parts : AreJoined l.low (length l.fn.growth.edges.items) l.growth.edges.items;
  few : IsFew l.growth;
  rooms : length l.joints ≤ l.node-index + length l.rooms.items;
  empty : All (λ room. room.items ≡ []) l.rooms.items;
  room : All (λ room. 2 ≤ vec_capacity room) l.rooms.items;
  capacity : vec_capacity l.growth.edges ≡ vec_capacity l.fn.growth.edges;
  count : vec_len l.growth.edges ≤ vec_len l.fn.growth.edges + l.node-index;
}
