use Rattle.std.proofs.Common.{◌<◌, length, length-drop, ap, ◌∙◌, arith}
use Rattle.edge_forest.specs.declared.edge.ForestEdge.{ForestEdge}
use Rattle.edge_forest.specs.Growth.{ended}
use Rattle.edge_forest.specs.Kept.{closed_edge}
use Rattle.face_merge.proofs.Scan.{mapped_next}
use Rattle.edge_forest.proofs.forest.close_edges.Goals as goal

pub loop-i-preserved : goal.loop-i-preserved
loop-i-preserved c =
    let e : ForestEdge = c.index_mut-edge.result.now in
    let short : c.loop-i.i < length c.loop-i.edges.items = omega (
      arith,
      c.loop-i-test.true,
      ap length c.loop-i.invariant.left,
      length-drop c.loop-i.i c.loop-i.edges.items,
      length-drop c.loop-i.i c.args.edges.now.items,
      c.args.edges.now.ok.0,
    ) in
    let same = ap (λ high. ended high e) c.closed_high-edge.ensures ∙ ap (closed_edge c.args.high) c.index_mut-edge.ensures.value in
    let h = mapped_next (closed_edge c.args.high) c.args.edges.now.items c.loop-i.edges.items c.loop-i.i e _ short c.loop-i.invariant.done c.loop-i.invariant.left same in
    record { done = h.0; left = h.1 }
