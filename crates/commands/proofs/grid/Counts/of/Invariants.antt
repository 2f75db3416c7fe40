-- The points so far.
use Rattle.std.proofs.Common.{◌≡◌, sum_by, take, length}
use Rattle.tgap_model.specs.declared.slice.Edge.{Edge}
use Rattle.commands.proofs.grid.Counts.of.Given as goal

abbrev pub invariant-loop-edge : goal.invariant-loop-edge
invariant-loop-edge l = l.points ≡ sum_by (λ (e : Edge). length e.points) (take l.edge-index l.edges)
