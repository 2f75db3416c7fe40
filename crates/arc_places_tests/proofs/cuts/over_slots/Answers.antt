use Rattle.std.proofs.Common.{◌≡◌, ◌∙◌, ℕ, List, length, ap, sym, subst, subst₂, arith}
use Rattle.tgap_model.specs.declared.base.BaseArc.{BaseArc}
use Rattle.tgap_model.proofs.BaseFacts.{base_facts}
use Rattle.ring_walk.specs.Spans.{AreSpans}
use Rattle.face_cuts.specs.NewRings.{AreLines}
use Rattle.face_cuts.specs.Sectors.{spans_of}
use Rattle.face_cuts.proofs.NewLines.{are_lines, are_spans}
use Rattle.arc_places.specs.Borders.{HaveFaces}
use Rattle.arc_places.specs.Slots.{arcs_in}
use Rattle.arc_places_tests.proofs.Gaps.{all_there, have_faces}
use Rattle.arc_places_tests.proofs.cuts.over_slots.Goals as goal

pub of-requires-2-clause-few : goal.of-requires-2-clause-few
of-requires-2-clause-few c =
    let few = (base_facts c.args.base.now c.arcs.ensures.base).few_faces in
    let same = ap (length {A = ℕ}) c.classes.ensures.value in
    omega (arith, c.len.ensures, same, few)

pub of-requires-2-clause-faces : goal.of-requires-2-clause-faces
of-requires-2-clause-faces c =
    let m = c.args.base.now in
    let n = length m.classes in
    subst₂ (λ (count : ℕ) (slots : List BaseArc). HaveFaces count slots) (sym (c.len.ensures ∙ ap (length {A = ℕ}) c.classes.ensures.value)) (sym c.deref-2.ensures.value)
    (c.in_ok-slots.ensures.faces n (subst (HaveFaces n) (sym (c.as_slice.ensures ∙ c.arcs.ensures.value)) (have_faces n m.arcs (base_facts m c.arcs.ensures.base).arcs)))

pub of-requires-3-clause-spans : goal.of-requires-3-clause-spans
of-requires-3-clause-spans c =
    let m = c.args.base.now in
    let facts = base_facts m c.arcs.ensures.base in
    let same : arcs_in c.deref-3.result.now ≡ m.arcs =
    ap arcs_in c.deref-3.ensures.value ∙ c.in_ok-slots.ensures.arcs ∙ ap arcs_in (c.as_slice.ensures ∙ c.arcs.ensures.value) ∙ all_there (length m.classes) m.arcs facts.arcs in
    subst AreSpans (sym (ap spans_of same)) (are_spans m facts)

pub cut_along-requires-clause-lines : goal.cut_along-requires-clause-lines
cut_along-requires-clause-lines c =
    let m = c.args.base.now in
    let facts = base_facts m c.arcs.ensures.base in
    let same : arcs_in c.in_ok-table.table ≡ m.arcs =
    ap arcs_in (c.in_ok-table.ensures ∙ c.deref-3.ensures.value) ∙ c.in_ok-slots.ensures.arcs ∙ ap arcs_in (c.as_slice.ensures ∙ c.arcs.ensures.value)
    ∙ all_there (length m.classes) m.arcs facts.arcs in
    subst AreLines (sym same) (are_lines m facts)
