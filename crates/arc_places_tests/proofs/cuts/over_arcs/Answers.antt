use Rattle.std.proofs.Common.{◌∙◌, ap, sym, subst}
use Rattle.tgap_model.proofs.BaseFacts.{base_facts}
use Rattle.ring_walk.specs.Spans.{AreSpans}
use Rattle.face_cuts.specs.NewRings.{AreLines}
use Rattle.face_cuts.specs.Sectors.{spans_of}
use Rattle.face_cuts.proofs.NewLines.{are_lines, are_spans}
use Rattle.arc_places_tests.proofs.cuts.over_arcs.Goals as goal

pub of-requires : goal.of-requires
of-requires c =
    let m = c.args.base.now in
    subst AreSpans (sym (ap spans_of (c.as_slice.ensures ∙ c.arcs.ensures.value))) (are_spans m (base_facts m c.arcs.ensures.base))

pub cut_along-requires-clause-lines : goal.cut_along-requires-clause-lines
cut_along-requires-clause-lines c =
    let m = c.args.base.now in
    subst AreLines (sym (c.in_ok-table.ensures ∙ c.as_slice.ensures ∙ c.arcs.ensures.value)) (are_lines m (base_facts m c.arcs.ensures.base))

pub cut_along-requires-clause-spans : goal.cut_along-requires-clause-spans
cut_along-requires-clause-spans c =
    let m = c.args.base.now in
    subst AreSpans (sym (ap spans_of (c.in_ok-table.ensures ∙ c.as_slice.ensures ∙ c.arcs.ensures.value))) (are_spans m (base_facts m c.arcs.ensures.base))
