use Rattle.std.proofs.Common.{◌≡◌, ◌≤◌, ◌∙◌, IsTrue, Option, List, length, sym, ap, subst, arith}
use Rattle.std.proofs.lemmas.Result.{IfOk-weaker}
use Rattle.tgap_model.specs.declared.base.BaseArc.{BaseArc}
use Rattle.tgap_model.specs.declared.limits.TheConstants.{MAX_POINTS}
use Rattle.tgap_model.specs.Base.{count_points, is_base}
use Rattle.tgap_model.proofs.BaseFacts.{base_facts}
use Rattle.arc_places.specs.Slots.{arcs_in}
use Rattle.arc_places.specs.Borders.{HaveFaces}
use Rattle.map_version.specs.Indexed.{Indexed, arcs_of}
use Rattle.map_version.specs.Drafts.{arcs_now, drafted}
use Rattle.map_version.proofs.Drafts.{have_faces}
use Rattle.map_version.proofs.InSlots.{all_there}
use Rattle.map_version.proofs.draft.own_arcs.Goals as goal

pub of-requires-clause-few : goal.of-requires-clause-few
of-requires-clause-few c =
    let few = (base_facts (drafted c.args.base.now c.args.classes.now (arcs_now c.args.indexed c.args.base.now.arcs)) c.requires.base).few_faces in
    omega (arith, few)

pub of-requires-clause-faces : goal.of-requires-clause-faces
of-requires-clause-faces c =
    let is_map = subst (λ (o : Option Indexed). IsTrue (is_base (drafted c.args.base.now c.args.classes.now (arcs_now o c.args.base.now.arcs)))) c.in-None.is c.requires.base in
    let faces = have_faces (length c.args.classes.now) c.args.base.now.arcs (base_facts (drafted c.args.base.now c.args.classes.now c.args.base.now.arcs) is_map).arcs in
    subst (HaveFaces (length c.args.classes.now)) (sym (c.as_slice.ensures ∙ c.arcs.ensures.value)) faces

pub of-requires-clause-points : goal.of-requires-clause-points
of-requires-clause-points c =
    subst (λ (arcs : List BaseArc). count_points arcs ≤ MAX_POINTS) (sym (c.as_slice.ensures ∙ c.arcs.ensures.value)) (base_facts c.args.base.now c.arcs.ensures.base).few_points

pub of-requires-clause-there : goal.of-requires-clause-there
of-requires-clause-there c =
    subst (λ (arcs : List BaseArc). arcs_in arcs ≡ arcs) (sym (c.as_slice.ensures ∙ c.arcs.ensures.value)) (all_there (length c.args.base.now.classes) c.args.base.now.arcs (base_facts c.args.base.now c.arcs.ensures.base).arcs)

pub returns-in-None-clause-arcs : goal.returns-in-None-clause-arcs
returns-in-None-clause-arcs c =
    IfOk-weaker c.of.result _ _
    (λ x h.
    ap arcs_of h
    ∙ (subst (λ (arcs : List BaseArc). arcs_in arcs ≡ arcs) (sym (c.as_slice.ensures ∙ c.arcs.ensures.value)) (all_there (length c.args.base.now.classes) c.args.base.now.arcs (base_facts c.args.base.now c.arcs.ensures.base).arcs)
    ∙ (c.as_slice.ensures ∙ (c.arcs.ensures.value ∙ sym (ap (λ (o : Option Indexed). arcs_now o c.args.base.now.arcs) c.in-None.is)))))
    c.of.ensures
