use Rattle.std.proofs.Common.{All, List, subst}
use Rattle.tgap_model.specs.declared.geometry.Point.{Point}
use Rattle.point_rope.specs.Held.{IsNearPoint}
use Rattle.point_rope.proofs.SmallAreas.{least_small}
use Rattle.point_rope.proofs.full_run.FullRun.least.Goals as goal

pub returns-clause-small : goal.returns-clause-small
returns-clause-small c n e = least_small c.args.self.now n (subst (λ (ps : List Point). All IsNearPoint ps) c.self.view_is c.self.invariant.near) e
