-- One more key is visited.
use Rattle.std.proofs.Common.{ap, ◌∙◌, length, length-append, ◌+◌, arith}
use Rattle.edge_forest.specs.Settle.{is_ending}
use Rattle.edge_forest.proofs.SettledKeys.{count_next, count_all, visit_next}
use Rattle.edge_forest.proofs.settle.settle_keys.Goals as goal

pub settle_key-requires-clause-edge : goal.settle_key-requires-clause-edge
settle_key-requires-clause-edge c = λ r e. (c.loop-key.invariant.settling.of_edges _ r e).id

pub settle_key-requires-clause-room : goal.settle_key-requires-clause-room
settle_key-requires-clause-room c =
    let before = c.loop-key.invariant in
    omega (
      arith,
      count_next c.args.sides c.args.low c.args.keys.now c.loop-key.key-index c.args.growth.now c.loop-key.growth.nodes _ _ c.loop-key.touched.items
          before.settling c.requires.apart c.loop-key-test.true before.room,
      count_all (is_ending c.args.sides c.args.growth.now.net.rows.items) c.args.keys.now (c.loop-key.key-index + 1),
      c.requires.room.1,
      before.capacity,
    )

pub loop-key-preserved : goal.loop-key-preserved
loop-key-preserved c =
    let before = c.loop-key.invariant in
    let after = c.settle_key.ensures in
    record {
      base = after.base ∙ before.base;
      nodes = after.nodes ∙ before.nodes;
      labels = after.labels ∙ before.labels;
      keys = after.keys ∙ before.keys;
      net = after.net;
      settling = visit_next c.args.sides c.args.low c.args.keys.now c.loop-key.key-index c.args.growth.now c.loop-key.growth.nodes _ _ _ _ _ _
          before.settling c.requires.apart c.requires.low c.loop-key-test.true before.nodes after.rows after.edges after.touched;
      room = omega (
        arith,
        ap length after.touched ∙ length-append c.loop-key.touched.items _,
        count_next c.args.sides c.args.low c.args.keys.now c.loop-key.key-index c.args.growth.now c.loop-key.growth.nodes _ _ c.loop-key.touched.items
            before.settling c.requires.apart c.loop-key-test.true before.room,
      );
      edges_capacity = after.edges_capacity ∙ before.edges_capacity;
      edges_count = after.edges_count ∙ before.edges_count;
      capacity = after.capacity ∙ before.capacity;
    }
