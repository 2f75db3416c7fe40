-- the removals of the points so far
use Rattle.std.proofs.Common.{◌≡◌, map, take}
use Rattle.tgap_model.specs.declared.geometry.Point.{Point}
use Rattle.vertex_drop.proofs.steps.removals_of.Given as goal

abbrev pub invariant-loop-point : goal.invariant-loop-point
invariant-loop-point l = l.removals ≡ map (λ (p : Point). record { point = p; step = l.step }) (take l.point-index l.points)
