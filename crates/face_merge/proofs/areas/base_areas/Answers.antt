-- What a base map keeps to: its points are within the limits, its labels are faces, and its measures fit.
use Rattle.std.proofs.Common.{arith, ◌∙◌, ap, sym, subst, ℕ, List, map, length}
use Rattle.std.specs.List.{All}
use Rattle.tgap_model.specs.declared.base.BaseArc.{BaseArc}
use Rattle.tgap_model.specs.History.{labelled}
use Rattle.std.proofs.lemmas.Result.{IfOk-weaker}
use Rattle.tgap_model.specs.declared.merge.LabelledArc.{LabelledArc}
use Rattle.tgap_model.proofs.BaseFacts.{base_facts}
use Rattle.face_merge.specs.Measures.{IsMeasured}
use Rattle.face_merge.specs.Merging.{AreAreas, IsLabelled}
use Rattle.face_merge.proofs.Start.{base_measured, merging_start}
use Rattle.face_merge.proofs.areas.base_areas.Goals as goal

pub labelled_arcs-requires-clause-sizes : goal.labelled_arcs-requires-clause-sizes
labelled_arcs-requires-clause-sizes c =
    subst (λ (arcs : List BaseArc). All IsMeasured (map labelled arcs)) (sym (c.as_slice-arcs.ensures ∙ c.arcs.ensures.value)) (base_measured c.args.base.now c.arcs.ensures.base)

pub areas_of-requires-clause-faces : goal.areas_of-requires-clause-faces
areas_of-requires-clause-faces c = omega (arith, c.len.ensures, ap length c.classes.ensures.value, (base_facts c.args.base.now c.arcs.ensures.base).few_faces)

pub areas_of-requires-clause-labelled : goal.areas_of-requires-clause-labelled
areas_of-requires-clause-labelled c =
    let e = c.deref.ensures.value ∙ (c.in_ok-labelled.ensures ∙ ap (map labelled) (c.as_slice-arcs.ensures ∙ c.arcs.ensures.value)) in
    let n = c.len.ensures ∙ ap length c.classes.ensures.value in
    subst (λ (k : ℕ). All (IsLabelled k) c.deref.result.now) (sym n)
    (subst (All (IsLabelled (length c.args.base.now.classes))) (sym e) (merging_start c.args.base.now c.arcs.ensures.base).labelled)

pub areas_of-requires-clause-measured : goal.areas_of-requires-clause-measured
areas_of-requires-clause-measured c =
    let e = c.deref.ensures.value ∙ (c.in_ok-labelled.ensures ∙ ap (map labelled) (c.as_slice-arcs.ensures ∙ c.arcs.ensures.value)) in
    subst (All IsMeasured) (sym e) (base_measured c.args.base.now c.arcs.ensures.base)

pub areas_of-requires-clause-few : goal.areas_of-requires-clause-few
areas_of-requires-clause-few c =
    let e = c.deref.ensures.value ∙ (c.in_ok-labelled.ensures ∙ ap (map labelled) (c.as_slice-arcs.ensures ∙ c.arcs.ensures.value)) in
    omega (arith, ap length e, (merging_start c.args.base.now c.arcs.ensures.base).few_arcs)

pub returns-clause-areas : goal.returns-clause-areas
returns-clause-areas c =
    let e = c.deref.ensures.value ∙ (c.in_ok-labelled.ensures ∙ ap (map labelled) (c.as_slice-arcs.ensures ∙ c.arcs.ensures.value)) in
    let n = c.len.ensures ∙ ap length c.classes.ensures.value in
    IfOk-weaker c.areas_of.result (λ areas. AreAreas c.len.result c.deref.result.now areas.items) (λ areas. AreAreas (length c.args.base.now.classes) (map labelled c.args.base.now.arcs) areas.items)
    (λ areas h. subst (λ (k : ℕ). AreAreas k (map labelled c.args.base.now.arcs) areas.items) n (subst (λ (xs : List LabelledArc). AreAreas c.len.result xs areas.items) e h))
    c.areas_of.ensures
