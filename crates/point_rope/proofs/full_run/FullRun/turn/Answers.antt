use Rattle.std.proofs.Common.{sym, ap, ◌∙◌}
use Rattle.std.proofs.lemmas.List.Sorted.{All-permutation}
use Rattle.point_rope.specs.Corners.{least_area}
use Rattle.point_rope.specs.Held.{IsHeld, IsNearPoint}
use Rattle.point_rope.proofs.LeastAreas.{least_area-reverse}
use Rattle.point_rope.proofs.full_run.FullRun.turn.Goals as goal

pub invariant_of-self : goal.invariant_of-self
invariant_of-self c =
    let points = c.self.inside.points.items in
    record {
      near = All-permutation IsNearPoint points c.reverse.new.self.items c.reverse.ensures.permutation c.self.invariant.near;
      held = All-permutation (IsHeld c.self.inside.bounds) points c.reverse.new.self.items c.reverse.ensures.permutation c.self.invariant.held;
      exact = c.self.invariant.exact ∙ sym (ap least_area c.reverse.ensures.items ∙ least_area-reverse points);
    }
