-- The lists so far.
use Rattle.std.proofs.Common.{◌≡◌, [], replicate}
use Rattle.tgap_build.proofs.edge_table.empty_lists.Given as goal

abbrev pub invariant-loop : goal.invariant-loop
invariant-loop l = l.lists.items ≡ replicate l.counter []
