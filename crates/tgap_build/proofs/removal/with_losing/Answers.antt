-- A sort puts all in order.
use Rattle.std.proofs.Common.{rules}
use Rattle.std.proofs.lemmas.List.Sorted.{IsNonDecreasingBy-from_sort_by_key}
use Rattle.tgap_build.specs.declared.live_edges.Made.{Made}
use Rattle.tgap_build.proofs.removal.with_losing.Goals as goal

pub returns-clause-order : goal.returns-clause-order
returns-clause-order c = IsNonDecreasingBy-from_sort_by_key (λ (o : Made). o.key) _ c.sort_unstable_by_key.ensures.sorted (λ a r q k. search rules)
