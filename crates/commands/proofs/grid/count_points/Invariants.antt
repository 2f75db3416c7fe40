-- The points so far.
use Rattle.std.proofs.Common.{◌≡◌, sum_by, take, length}
use Rattle.tgap_model.specs.declared.base.BaseArc.{BaseArc}
use Rattle.commands.proofs.grid.count_points.Given as goal

abbrev pub invariant-loop-arc : goal.invariant-loop-arc
invariant-loop-arc l = l.count ≡ sum_by (λ (a : BaseArc). length a.points) (take l.arc-index l.arcs)
