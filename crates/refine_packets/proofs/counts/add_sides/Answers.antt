-- The counts stay below those with all edges.
use Rattle.std.proofs.Common.{arith}
use Rattle.refine_packets.proofs.CountLists.{one_self, sides_next}
use Rattle.refine_packets.proofs.counts.add_sides.Goals as goal

pub add_side-requires-clause-room : goal.add_side-requires-clause-room
add_side-requires-clause-room c =
    let e = c.edge-item.result in
    omega (
      arith,
      c.requires.room e.left,
      c.loop-edge.invariant.1 e.left,
      sides_next e.left c.args.edges.now c.loop-edge.edge-index e c.loop-edge-test.true c.edge-item.is,
      one_self e.left,
    )

pub add_side-requires-in-loop-edge-clause-room : goal.add_side-requires-in-loop-edge-clause-room
add_side-requires-in-loop-edge-clause-room c =
    let e = c.edge-item.result in
    omega (
      arith,
      c.requires.room e.right,
      c.loop-edge.invariant.1 e.right,
      c.add_side.ensures.each e.right,
      sides_next e.right c.args.edges.now c.loop-edge.edge-index e c.loop-edge-test.true c.edge-item.is,
      one_self e.right,
    )
