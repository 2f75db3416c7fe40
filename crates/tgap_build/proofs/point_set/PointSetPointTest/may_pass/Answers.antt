-- None of the set lies in the box.
use Rattle.std.proofs.Common.{List, All, subst, ◌∙◌}
use Rattle.tgap_model.specs.declared.geometry.Point.{Point}
use Rattle.point_rope.specs.Held.{IsHeld}
use Rattle.tgap_build.proofs.PointsInBoxes.{none_in_box}
use Rattle.tgap_build.proofs.point_set.PointSetPointTest.may_pass.Goals as goal

pub returns : goal.returns
returns c = λ e.
    let b = c.args.bounds.now in
    none_in_box c.args.self.now b (subst (λ (ps : List Point). All (λ (p : Point). IsHeld b p → ⊥) ps) (c.deref.ensures.value ∙ c.self.view_is) (c.may_lie_in.ensures e))
