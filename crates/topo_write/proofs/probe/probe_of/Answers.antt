use Rattle.std.proofs.Common.{◌∙◌, List, get_or, sym, ap}
use Rattle.std.proofs.lemmas.List.{get_or_default}
use Rattle.tgap_model.specs.declared.geometry.Point.{Point}
use Rattle.ring_walk.specs.declared.side.Side.{Side}
use Rattle.ring_walk.specs.declared.side.Way.TheVariants.{Along}
use Rattle.ring_walk.specs.Areas.{first_leaning, points_by, segments_of}
use Rattle.topo_write.specs.Polygons.{lines_of}
use Rattle.topo_write.proofs.Probes.{probe_here, probe_later}
use Rattle.topo_write.proofs.probe.probe_of.Goals as goal

abbrev none : Side
none = record { span = 0; way = Along }

pub returns-in-Some-clause-value : goal.returns-in-Some-clause-value
returns-in-Some-clause-value c =
    let ring = c.args.ring.now in
    let i = c.loop-side.side-index in
    let s = get_or ring i none in
    sym (probe_here (lines_of c.args.edges.now) ring i s c.in-Some.segment c.loop-side-test.true (get_or_default ring i none s c.loop-side-test.true)
    (ap (λ (ps : List Point). first_leaning (segments_of (points_by s.way ps))) (sym c.points_at.ensures.value) ∙ sym c.in-Some.ensures.value))
    ∙ c.loop-side.invariant

pub loop-side-preserved : goal.loop-side-preserved
loop-side-preserved c =
    let ring = c.args.ring.now in
    let i = c.loop-side.side-index in
    let s = get_or ring i none in
    probe_later (lines_of c.args.edges.now) ring i s c.loop-side-test.true (get_or_default ring i none s c.loop-side-test.true)
    (ap (λ (ps : List Point). first_leaning (segments_of (points_by s.way ps))) (sym c.points_at.ensures.value) ∙ sym c.in_default.ensures.value)
    ∙ c.loop-side.invariant
