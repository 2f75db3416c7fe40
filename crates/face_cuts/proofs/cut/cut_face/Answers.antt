use Rattle.std.proofs.Common.{◌≡◌, ◌∙◌, ◌++◌, [], ◌∷◌, true, Ok, List, ℕ, length, sym, ap, ap₂, subst}
use Rattle.tgap_model.specs.Base.{is_base}
use Rattle.tgap_model.proofs.BaseFacts.{base_facts}
use Rattle.ring_walk.specs.Spans.{AreSpans}
use Rattle.face_cuts.specs.Outcomes.{has_room}
use Rattle.face_cuts.specs.Sectors.{spans_of}
use Rattle.face_cuts.specs.Cuts.{are_free}
use Rattle.face_cuts.specs.NewRings.{AreLines, IsNewLine}
use Rattle.face_cuts.proofs.CutCalls.{cut_copy_is_base, of_map}
use Rattle.face_cuts.proofs.NewLines.{are_lines, are_spans, new_line}
use Rattle.face_cuts.proofs.cut.cut_face.Goals as goal

pub arcs_after-requires-clause-lines : goal.arcs_after-requires-clause-lines
arcs_after-requires-clause-lines c =
    let m = c.args.base.now in
    subst AreLines (sym (c.as_slice-arcs.ensures ∙ c.arcs.ensures.value)) (are_lines m (base_facts m c.arcs.ensures.base))

pub arcs_after-requires-clause-line : goal.arcs_after-requires-clause-line
arcs_after-requires-clause-line c =
    let m = c.args.base.now in
    let points = c.as_slice-points.ensures in
    let arcs = c.as_slice-arcs.ensures ∙ c.arcs.ensures.value in
    let room : has_room m 1 1 (length c.args.points.now) ≡ true = ap (has_room m 1 1) (sym c.len.ensures) ∙ sym c.has_room.ensures ∙ c.if-not-has_room.false in
    let free : are_free m.arcs c.args.points.now ≡ true = ap₂ are_free (sym arcs) (sym points) ∙ sym c.in_ok-are_free.ensures ∙ c.if-not-branch.false in
    subst IsNewLine (sym points) (new_line m c.args.points.now c.requires.long c.requires.limits room free)

pub arcs_after-requires-clause-spans : goal.arcs_after-requires-clause-spans
arcs_after-requires-clause-spans c =
    let m = c.args.base.now in
    subst AreSpans (sym (ap spans_of (c.as_slice-arcs.ensures ∙ c.arcs.ensures.value))) (are_spans m (base_facts m c.arcs.ensures.base))

pub with_parts-requires : goal.with_parts-requires
with_parts-requires c =
    let m = c.args.base.now in
    let points = c.as_slice-points.ensures in
    let arcs = c.as_slice-arcs.ensures ∙ c.arcs.ensures.value in
    let room : has_room m 1 1 (length c.args.points.now) ≡ true = ap (has_room m 1 1) (sym c.len.ensures) ∙ sym c.has_room.ensures ∙ c.if-not-has_room.false in
    let free : are_free m.arcs c.args.points.now ≡ true = ap₂ are_free (sym arcs) (sym points) ∙ sym c.in_ok-are_free.ensures ∙ c.if-not-branch.false in
    let made = of_map m c.args.face c.count_faces.result c.as_slice-arcs.result.now c.as_slice-points.result.now c.args.points.now (Ok c.in_ok-arcs.arcs) c.count_faces.ensures arcs points c.in_ok-arcs.ensures.exact in
    subst (λ (classes : List ℕ). is_base (record m { classes = classes; arcs = c.in_ok-arcs.arcs }) ≡ true)
    (sym (c.in_ok-classes.ensures ∙ ap (λ (ks : List ℕ). ks ++ c.args.class ∷ []) (c.as_slice.ensures ∙ c.classes.ensures.value)))
    (cut_copy_is_base m c.args.face c.args.class c.args.points.now (sym c.is_face.ensures ∙ c.if-not-is_face.false) (sym c.is_class.ensures ∙ c.if-not-is_class.false) room free
    c.in_ok-arcs.arcs c.arcs.ensures.base c.requires.long c.requires.limits made)
