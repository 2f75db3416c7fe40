use Rattle.std.proofs.Common.{All, List, sym, ◌∙◌, subst}
use Rattle.tgap_model.specs.declared.geometry.Point.{Point}
use Rattle.point_rope.specs.Held.{IsHeld}
use Rattle.point_rope.proofs.Holding.{none_held}
use Rattle.point_rope.proofs.full_run.FullRun.has_any.Goals as goal

pub returns-else-may_pass : goal.returns-else-may_pass
returns-else-may_pass g c =
    let bounds = c.self.inside.bounds in
    c.if-may_pass.false
    ∙ sym (none_held (g.T.PointTest.passes c.args.test.now) bounds c.args.self.now (subst (λ (ps : List Point). All (IsHeld bounds) ps) c.self.view_is c.self.invariant.held)
    (c.may_pass.ensures c.if-may_pass.false))
