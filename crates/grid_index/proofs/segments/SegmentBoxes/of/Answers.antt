use Rattle.std.proofs.Common.{◌∙◌, ap, length, arith}
use Rattle.grid_index.proofs.Pieces.{length-segment_boxes}
use Rattle.grid_index.proofs.segments.SegmentBoxes.of.Goals as goal

pub invariant_of-result : goal.invariant_of-result
invariant_of-result c =
    let few = length-segment_boxes c.args.points.now in
    let same = ap length (c.in_ok-tree.ensures ∙ c.in_ok-boxes_of.ensures) in
    omega arith
