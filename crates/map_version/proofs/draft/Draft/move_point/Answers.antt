use Rattle.std.proofs.Common.{◌≡◌, ◌∙◌, ℕ, IsTrue, List, length, not, false, sym, ap, subst}
use Rattle.std.proofs.lemmas.Bool.{not-true}
use Rattle.tgap_model.specs.declared.base.BaseArc.{BaseArc}
use Rattle.tgap_model.specs.Base.{BaseMap, is_base}
use Rattle.edit_laws.specs.Edits.{has_point}
use Rattle.edit_laws.proofs.Laws.{move_again}
use Rattle.map_version.specs.Indexed.{arcs_of}
use Rattle.map_version.specs.Drafts.{drafted}
use Rattle.map_version.proofs.Drafts.{ensured_holds}
use Rattle.map_version.proofs.draft.Draft.move_point.Goals as goal

pub invariant_of-self : goal.invariant_of-self
invariant_of-self c =
    let arcs = arcs_of c.in_ok-arcs.arcs in
    let m : BaseMap = drafted c.self.inside.base.now c.self.inside.classes.items arcs in
    let is_map = subst (λ (xs : List BaseArc). IsTrue (is_base (drafted c.self.inside.base.now c.self.inside.classes.items xs))) (sym c.in_ok-arcs.ensures.arcs) c.self.invariant.base in
    let free : has_point c.args.new arcs ≡ false = sym c.has_point-2.ensures ∙ not-true c.has_point-2.result (ensured_holds (not c.has_point-2.result) _ _ c.in_ok-ensured-2.ensures) in
    record {
      base = subst (λ (xs : List BaseArc). IsTrue (is_base (record m { arcs = xs }))) (sym c.in_ok-move_all.ensures.arcs) (move_again m c.args.old.now c.args.new is_map c.requires free);
      faces = c.in_ok-move_all.ensures.faces ∙ (c.in_ok-arcs.ensures.faces ∙ ap (length {A = ℕ}) c.deref.ensures.value);
    }
