use Rattle.std.proofs.Common.{◌++◌, ◌+◌, ◌-◌, ◌∷◌, [], ℕ, List, take, get_or, map, pos, sym, ap, ◌∙◌, append_assoc}
use Rattle.std.proofs.lemmas.List.{map-append}
use Rattle.tgap_model.specs.declared.geometry.Point.{Point}
use Rattle.grid_index.specs.declared.live.SegmentPlace.{SegmentPlace}
use Rattle.grid_index.specs.Near.{boxes_near}
use Rattle.grid_index.specs.Live.{segment_boxes}
use Rattle.point_rope.proofs.NearRuns.{near_more}
use Rattle.point_rope.proofs.near.push_near_of.Goals as goal

pub loop-i-preserved : goal.loop-i-preserved
loop-i-preserved c =
    let points = c.args.points.now in
    let area = c.args.area.now in
    let place = c.args.place in
    let i = c.loop-i.i in
    let o : Point = record { x = pos 0; y = pos 0 } in
    let at : ℕ → SegmentPlace = λ n. record { key = c.args.key; place = n } in
    let before = boxes_near area place (segment_boxes (take i points)) in
    let next = boxes_near area (place + i - 1) (segment_boxes (get_or points (i - 1) o ∷ get_or points i o ∷ [])) in
    c.in_ok-push_if_near.ensures ∙ ap (λ (found : List SegmentPlace). found ++ map at next) c.loop-i.invariant
    ∙ append_assoc c.args.found.now (map at before) (map at next)
    ∙ ap (λ (more : List SegmentPlace). c.args.found.now ++ more)
    (sym (map-append at before next) ∙ ap (map at) (sym (near_more area place points i o o c.loop-i.auto.i c.loop-i-test.true)))
