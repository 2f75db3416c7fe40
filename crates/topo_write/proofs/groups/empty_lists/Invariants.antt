use Rattle.std.proofs.Common.{◌≡◌, [], replicate}
use Rattle.topo_write.proofs.groups.empty_lists.Given as goal

abbrev pub invariant-loop : goal.invariant-loop
invariant-loop l = l.lists.items ≡ replicate l.counter []
