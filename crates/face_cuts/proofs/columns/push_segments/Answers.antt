use Rattle.std.proofs.Common.{◌∙◌, ◌++◌, ◌<◌, ◌≤◌, List, [], ◌∷◌, length, take, sym, ap, append_assoc, arith}
use Rattle.std.proofs.lemmas.List.{take_all, take_more}
use Rattle.tgap_model.specs.declared.geometry.Seg.{Seg}
use Rattle.ring_walk.specs.Areas.{points_by, segments_of}
use Rattle.ring_probe.proofs.Probes.{length-segments}
use Rattle.face_cuts.proofs.columns.push_segments.Goals as goal

pub loop-place-preserved : goal.loop-place-preserved
loop-place-preserved c =
    let row = segments_of (points_by c.args.way c.args.points.now) in
    let k = c.loop-place.place in
    let s = c.segment_at.result in
    let inside : k < length row = omega (arith, c.loop-place-test.true, length-segments c.args.way c.args.points.now) in
    c.in_ok-push.ensures
    ∙ ap (λ (ss : List Seg). ss ++ s ∷ []) c.loop-place.invariant ∙ append_assoc c.args.segments.now (take k row) (s ∷ [])
    ∙ ap (λ (ss : List Seg). c.args.segments.now ++ ss) (sym (take_more row k s inside ∙ ap (λ (t : Seg). take k row ++ t ∷ []) (sym (c.segment_at.ensures s))))

pub returns : goal.returns
returns c =
    let row = segments_of (points_by c.args.way c.args.points.now) in
    let all : length row ≤ c.loop-place.place = omega (arith, c.loop-place-test.false, length-segments c.args.way c.args.points.now) in
    c.loop-place.invariant ∙ ap (λ (ss : List Seg). c.args.segments.now ++ ss) (take_all c.loop-place.place row all)
