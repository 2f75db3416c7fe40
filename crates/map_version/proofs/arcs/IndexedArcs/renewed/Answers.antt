use Rattle.std.proofs.Common.{◌≡◌, ◌∙◌, ℕ, List, sym, ap, subst}
use Rattle.std.proofs.lemmas.Result.{IfOk-weaker}
use Rattle.tgap_model.specs.declared.base.BaseArc.{BaseArc}
use Rattle.arc_places.specs.Slots.{arcs_in}
use Rattle.arc_places.specs.Borders.{HaveFaces}
use Rattle.map_version.specs.Indexed.{Indexed, arcs_of}
use Rattle.map_version.proofs.InSlots.{there_again}
use Rattle.map_version.proofs.Renaming.{faces_listed}
use Rattle.map_version.proofs.arcs.IndexedArcs.renewed.Goals as goal

pub of-requires-clause-faces : goal.of-requires-clause-faces
of-requires-clause-faces c =
    let own = subst (λ (x : Indexed). HaveFaces x.faces (arcs_of x)) c.self.view_is (faces_listed c.self.inside.borders c.self.inside.slots.items c.self.invariant.by_face) in
    let arcs = c.as_slice.ensures ∙ c.into_list-arcs.ensures in
    subst (λ (xs : List BaseArc). HaveFaces c.args.faces xs) (sym arcs) (subst (λ (n : ℕ). HaveFaces n (arcs_of c.args.self)) (sym c.requires.count) own)

pub of-requires-clause-there : goal.of-requires-clause-there
of-requires-clause-there c =
    let arcs = c.as_slice.ensures ∙ c.into_list-arcs.ensures in
    ap arcs_in arcs ∙ there_again c.args.self.slots ∙ sym arcs

pub returns-clause-arcs : goal.returns-clause-arcs
returns-clause-arcs c =
    let arcs = c.as_slice.ensures ∙ c.into_list-arcs.ensures in
    IfOk-weaker c.of.result _ (λ made. arcs_of made ≡ arcs_of c.args.self)
    (λ made e. ap arcs_of e ∙ ap arcs_in arcs ∙ there_again c.args.self.slots)
    c.of.ensures
