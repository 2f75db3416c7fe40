use Rattle.std.proofs.Common.{◌≤◌, ℕ, All, List, sym, subst}
use Rattle.tgap_model.specs.declared.geometry.Point.{Point}
use Rattle.tgap_model.specs.Bounds.{max_cross}
use Rattle.point_rope.specs.Held.{IsHeld}
use Rattle.point_rope.proofs.Rests.{least_bound, least_within}
use Rattle.point_rope.proofs.full_run.FullRun.summary.Goals as goal

pub returns : goal.returns
returns c = record {
  held = subst (λ (ps : List Point). All (IsHeld c.self.inside.bounds) ps) c.self.view_is c.self.invariant.held;
  least = λ n e. subst (λ (k : ℕ). k ≤ n) (sym c.unwrap_or.ensures) (least_bound c.args.self.now c.least.result n c.least.ensures.exact e);
  small = subst (λ (k : ℕ). k ≤ max_cross) (sym c.unwrap_or.ensures) (least_within c.args.self.now c.least.result max_cross c.least.ensures.exact c.least.ensures.small);
}
