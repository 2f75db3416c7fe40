use Rattle.std.proofs.Common.{rules}
use Rattle.std.proofs.lemmas.List.Sorted.{IsNonDecreasingBy-from_sort}
use Rattle.std.proofs.lemmas.Fn.{always_returns_same}
use Rattle.client_replay.proofs.coming.sort_by_key.Goals as goal

pub returns-clause-sorted : goal.returns-clause-sorted
returns-clause-sorted c = IsNonDecreasingBy-from_sort (λ e. e.key) _ (c.sort_unstable_by_key.ensures.sorted (λ e. e.key) (always_returns_same _ _ _ (λ a r f k. search rules)))
