use Rattle.std.proofs.Common.{◌≡◌, ◌∙◌, ◌||◌, List, get_or, sym, ap}
use Rattle.std.specs.List.{list_any}
use Rattle.ring_walk.specs.declared.side.Side.{Side}
use Rattle.ring_walk.specs.Sides.{same_side}
use Rattle.face_cuts.specs.Cuts.{goes_over, lines_of}
use Rattle.face_cuts.specs.SideSets.{has}
use Rattle.face_cuts.proofs.OverRings.{rings_more, rings_same}
use Rattle.face_cuts.proofs.over.moved_set.Goals as goal
use Rattle.face_cuts.proofs.over.moved_set.Goals.{then-branch+in_ok-put_all, else-branch}

pub loop-row-preserved : goal.loop-row-preserved
loop-row-preserved g c = λ s.
    let ring = c.args.ring.now in
    let over = goes_over (lines_of (g.T.ArcTable.arcs c.args.table.now)) ring.points.now ring.walk.now in
    let rings = c.args.rings.now in
    let i = c.loop-row.row-index in
    let row = c.row-item.result in
    let here : row ≡ get_or rings i row = c.row-item.is in
    let walk = list_any (same_side s) ring.walk.now in
    let told : c.in_ok-goes_over.field-0 ≡ over row = c.in_ok-goes_over.ensures ∙ ap over c.as_slice-row.ensures in
    elim c.if-branch.branch [
      | then-branch+in_ok-put_all w ↦
          rings_more row over (list_any (same_side s)) rings walk (has c.loop-row.moved s) (has c.if-branch.moved s) i c.loop-row-test.true here (sym told ∙ w.if-branch.true)
          (ap (λ set. has set s) w.moved-is ∙ w.in_ok-put_all.ensures s ∙ ap (λ (r : List Side). has c.loop-row.moved s || list_any (same_side s) r) c.as_slice-row.ensures)
          (c.loop-row.invariant s)
      | else-branch w ↦
          rings_same row over (list_any (same_side s)) rings walk (has c.if-branch.moved s) i c.loop-row-test.true here (sym told ∙ w.if-branch.false)
          (ap (λ set. has set s) w.moved-is ∙ c.loop-row.invariant s)
    ]
