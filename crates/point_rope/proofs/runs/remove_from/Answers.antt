use Rattle.std.proofs.Common.{◌<◌, List, length, get_or, not, filter, set, ap, ◌∙◌, arith}
use Rattle.std.proofs.lemmas.List.{get_or_default}
use Rattle.std.proofs.lemmas.List.Edits.{map_over_more}
use Rattle.tgap_model.specs.declared.geometry.Point.{Point}
use Rattle.point_rope.proofs.runs.remove_from.Goals as goal

pub loop-run-preserved : goal.loop-run-preserved
loop-run-preserved g c =
    let runs = c.loop-run.runs in
    let i = c.loop-run.run-index in
    let run = get_or runs i c.run-item.result in
    let short : i < length runs = omega (arith, c.loop-run-test.true, c.loop-run.auto.runs) in
    ap (λ (r : List Point). set runs i r) c.remove.ensures
    ∙ map_over_more (filter (λ (p : Point). not (g.T.PointTest.passes c.args.test.now p))) c.args.runs.now runs i run c.loop-run-test.true c.loop-run.invariant
    (get_or_default runs i c.run-item.result run short)
