use Rattle.std.proofs.Common.{◌≡◌, ◌≤◌, [], length, Some, refl, ◌∙◌, arith}
use Rattle.std.specs.Vec.{vec_capacity}
use Rattle.std.proofs.lemmas.List.Elements.{All-pop}
use Rattle.edge_forest.proofs.Continued.{continued_twice}
use Rattle.edge_forest.proofs.Few.{joined_few, few_small}
use Rattle.edge_forest.proofs.InTurn.{turn_next, turn_nodes, popped}
use Rattle.edge_forest.proofs.joints.join_all.Goals as goal

pub join-requires-clause-node : goal.join-requires-clause-node
join-requires-clause-node c =
    omega (arith, turn_nodes c.args.low c.args.growth.now c.loop-node.growth _ c.loop-node.invariant.joined, c.requires.nodes c.loop-node.node-index 0 c.loop-node-test.true)

pub join-requires-clause-empty : goal.join-requires-clause-empty
join-requires-clause-empty c =
    (All-pop (λ room. room.items ≡ []) c.loop-node.rooms.items c.pop.new.self.items (Some c.in-Some.room) c.in-Some.ensures.items c.loop-node.invariant.empty).1

pub join-requires-clause-room : goal.join-requires-clause-room
join-requires-clause-room c =
    (All-pop (λ room. 2 ≤ vec_capacity room) c.loop-node.rooms.items c.pop.new.self.items (Some c.in-Some.room) c.in-Some.ensures.items c.loop-node.invariant.room).1

pub join-requires-clause-few : goal.join-requires-clause-few
join-requires-clause-few c = few_small c.args.low c.loop-node.growth c.loop-node.invariant.stored c.loop-node.invariant.few

pub loop-node-preserved : goal.loop-node-preserved
loop-node-preserved c = record {
  stored = c.join.ensures.stored;
  few = joined_few c.args.low c.loop-node.growth c.join.new.growth _ c.loop-node.invariant.stored c.join.ensures.joined c.loop-node.invariant.few;
  joined =
      turn_next c.args.low c.args.growth.now c.loop-node.growth c.join.new.growth c.args.joints.now c.loop-node.node-index 0 _
      c.loop-node.invariant.joined c.loop-node-test.true refl c.join.ensures.joined c.join.ensures.stored;
  continued = continued_twice _ _ _ c.loop-node.invariant.continued c.join.ensures.continued;
  parts = c.join.ensures.parts (length c.args.growth.now.edges.items) c.loop-node.invariant.continued.count c.loop-node.invariant.parts;
  rooms = omega (arith, c.loop-node.invariant.rooms, popped c.loop-node.rooms.items c.pop.new.self.items c.in-Some.room c.in-Some.ensures.items);
  empty = (All-pop (λ room. room.items ≡ []) c.loop-node.rooms.items c.pop.new.self.items (Some c.in-Some.room) c.in-Some.ensures.items c.loop-node.invariant.empty).0;
  room = (All-pop (λ room. 2 ≤ vec_capacity room) c.loop-node.rooms.items c.pop.new.self.items (Some c.in-Some.room) c.in-Some.ensures.items c.loop-node.invariant.room).0;
  capacity = c.join.ensures.capacity ∙ c.loop-node.invariant.capacity;
  count = omega (arith, c.join.ensures.count, c.loop-node.invariant.count);
}
