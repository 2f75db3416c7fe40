-- Each arc has its measure, which fits.
use Rattle.std.proofs.Common.{◌<◌, ◌∙◌, ap, sym, subst, arith, pos, List, length, get_or, map}
use Rattle.std.proofs.lemmas.List.{get_or-map, length-map}
use Rattle.tgap_model.specs.History.{labelled}
use Rattle.face_merge.specs.declared.measures.Measure.{Measure}
use Rattle.face_merge.specs.Measures.{IsMeasured, measure_of}
use Rattle.face_merge.proofs.measures.labelled_arcs.Goals as goal

pub with_measure-requires-clause-size : goal.with_measure-requires-clause-size
with_measure-requires-clause-size c =
    let arcs = c.args.arcs.now in
    let a = c.index-arcs-i.result in
    let inside : c.loop-i.i < length (map labelled arcs) = omega (arith, c.loop-i-test.true, length-map arcs labelled) in
    let size : IsMeasured (get_or (map labelled arcs) c.loop-i.i (labelled a)) = c.requires.sizes c.loop-i.i (labelled a) inside in
    subst IsMeasured (get_or-map labelled arcs c.loop-i.i a (labelled a) c.loop-i-test.true ∙ ap labelled (sym c.index-arcs-i.is)) size

pub with_measure-requires-clause-measure : goal.with_measure-requires-clause-measure
with_measure-requires-clause-measure c =
    let arcs = c.args.arcs.now in
    let a = c.index-arcs-i.result in
    let d : Measure = record { twice = pos 0; length = pos 0 } in
    ap (λ (ms : List Measure). get_or ms c.loop-i.i d) c.requires.measures ∙ (get_or-map measure_of arcs c.loop-i.i a d c.loop-i-test.true ∙ ap measure_of (sym c.index-arcs-i.is))
