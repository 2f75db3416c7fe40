-- The queues so far.
use Rattle.std.proofs.Common.{◌≡◌, [], replicate}
use Rattle.tgap_build.proofs.corner_queues.empty_queues.Given as goal

abbrev pub invariant-loop : goal.invariant-loop
invariant-loop l = l.queues.items ≡ replicate l.counter []
