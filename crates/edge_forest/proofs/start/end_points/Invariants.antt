use Rattle.std.proofs.Common.{◌≡◌, take}
use Rattle.edge_forest.specs.Rows.{end_points}
use Rattle.edge_forest.proofs.start.end_points.Given as goal

abbrev pub invariant-loop-arc : goal.invariant-loop-arc
invariant-loop-arc l = l.points.items ≡ end_points (take l.arc-index l.arcs)
