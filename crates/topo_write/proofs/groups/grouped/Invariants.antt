use Rattle.std.proofs.Common.{◌≡◌, length}
use Rattle.topo_write.specs.Building.{AreGroups}
use Rattle.topo_write.proofs.groups.grouped.Given as goal

abbrev pub invariant-loop-place : goal.invariant-loop-place
invariant-loop-place l = record {
  count : length l.groups.items ≡ l.count;
  groups : AreGroups l.keys l.place l.groups.items;
}
