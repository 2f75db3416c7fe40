use Rattle.std.proofs.Common.{All, take}
use Rattle.topo_write.specs.Building.{HoldsPoint, IsWider}
use Rattle.topo_write.proofs.columns.with_points.Given as goal

abbrev pub invariant-loop-point : goal.invariant-loop-point
invariant-loop-point l = record {
  wider : IsWider l.wider l.fn.columns;
  points : All (HoldsPoint l.wider) (take l.point-index l.points);
}
