use Rattle.std.proofs.Common.{◌≡◌, take}
use Rattle.edge_forest.specs.Removed.{arc_points}
use Rattle.edge_forest.proofs.removed.points_in_order.Given as goal

-- the points of the arcs so far
abbrev pub invariant-loop-arc : goal.invariant-loop-arc
invariant-loop-arc l = l.points.items ≡ arc_points (take l.arc-index l.arcs)
