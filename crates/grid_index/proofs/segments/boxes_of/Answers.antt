use Rattle.std.proofs.Common.{pos, ◌≤◌, sym, ap, ◌∙◌, ◌++◌, ◌∷◌, [], take}
use Rattle.tgap_model.specs.declared.geometry.Point.{Point}
use Rattle.grid_index.specs.Live.{segment_boxes}
use Rattle.grid_index.proofs.Pieces.{segment_boxes_at}
use Rattle.grid_index.proofs.segments.boxes_of.Goals as goal

pub loop-i-preserved : goal.loop-i-preserved
loop-i-preserved c =
    let points = c.args.points.now in
    let i = c.loop-i.i in
    let none : Point = record { x = pos 0; y = pos 0 } in
    let first : 1 ≤ i = c.loop-i.auto.i in
    c.in_ok-push.ensures ∙ ap (λ boxes. boxes ++ c.segment_box.result ∷ []) c.loop-i.invariant
    ∙ ap (λ b. segment_boxes (take i points) ++ b ∷ []) c.segment_box.ensures ∙ sym (segment_boxes_at points i none none first c.loop-i-test.true)
