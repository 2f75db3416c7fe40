use Rattle.std.proofs.Common.{◌≡◌, ◌-◌, ◌<◌, ℕ, IfSome, length, sym, subst}
use Rattle.std.proofs.lemmas.List.{length-set}
use Rattle.tgap_model.specs.Base.{BaseMap}
use Rattle.edit_laws.proofs.Laws.{classes_again}
use Rattle.map_version.specs.Indexed.{Indexed}
use Rattle.map_version.specs.Drafts.{arcs_now, drafted}
use Rattle.map_version.proofs.draft.Draft.set_class.Goals as goal

pub invariant_of-self : goal.invariant_of-self
invariant_of-self c =
    let m : BaseMap = drafted c.self.inside.base.now c.self.inside.classes.items (arcs_now c.self.inside.arcs c.self.inside.base.now.arcs) in
    record {
      base = classes_again m (c.in_ok-face.face - 1) c.in_ok-class.class c.self.invariant.base (subst (λ (x : BaseMap). c.in_ok-class.class < length x.rules.weights) (sym c.self.view_is) c.in_ok-class.ensures.range);
      faces = subst (λ (n : ℕ). IfSome c.self.inside.arcs (λ (x : Indexed). x.faces ≡ n)) (sym (length-set c.self.inside.classes.items (c.in_ok-face.face - 1) c.in_ok-class.class)) c.self.invariant.faces;
    }
