-- Where no point passes, none goes.
use Rattle.std.proofs.Common.{All, List, not, sym, ap, ◌∙◌, subst}
use Rattle.std.proofs.lemmas.List.Elements.{All-filter}
use Rattle.tgap_model.specs.declared.geometry.Point.{Point}
use Rattle.point_rope.specs.Corners.{least_area}
use Rattle.point_rope.specs.Held.{IsHeld, IsNearPoint}
use Rattle.point_rope.proofs.Holding.{none_goes}
use Rattle.point_rope.proofs.full_run.FullRun.remove.Goals as goal

pub least_area-self-inside-requires : goal.least_area-self-inside-requires
least_area-self-inside-requires g c =
    subst (λ (ps : List Point). All IsNearPoint ps) (sym (c.deref-then-has_any.ensures.value ∙ c.take_out.ensures))
    (All-filter (λ (p : Point). not (g.T.PointTest.passes c.args.test.now p)) IsNearPoint c.self.inside.points.items c.self.invariant.near)

pub invariant_of-self : goal.invariant_of-self
invariant_of-self g c = record {
  near =
      subst (λ (ps : List Point). All IsNearPoint ps) (sym c.take_out.ensures)
      (All-filter (λ (p : Point). not (g.T.PointTest.passes c.args.test.now p)) IsNearPoint c.self.inside.points.items c.self.invariant.near);
  held = subst (λ (ps : List Point). All (IsHeld c.bounds_of-self-inside.result) ps) c.deref.ensures.value c.bounds_of-self-inside.ensures;
  exact = c.least_area-self-inside.ensures.exact ∙ ap least_area c.deref-then-has_any.ensures.value;
}

pub returns-else-has_any : goal.returns-else-has_any
returns-else-has_any g c = sym (none_goes (g.T.PointTest.passes c.args.test.now) c.args.self.now (sym c.has_any.ensures ∙ c.if-has_any.false))
