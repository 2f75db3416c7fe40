-- The keys are those that are listed, in their order.
use Rattle.std.proofs.Common.{ℕ, List, IsPermutation, subst, arith}
use Rattle.std.proofs.lemmas.List.Sorted.{IsNonDecreasingBy-from_sort}
use Rattle.planar_sweep.proofs.EventKeys.{are_events}
use Rattle.planar_sweep.proofs.events.events_of.Goals as goal

pub returns-clause-events : goal.returns-clause-events
returns-clause-events c =
    let keys = c.sort_unstable.new.self.items in
    are_events c.args.segments.now c.args.segs.now c.requires.same c.requires.near (omega (arith, c.if-segs-ge-NUMBERS.false)) keys
    (subst (λ (ns : List ℕ). IsPermutation ns keys) c.in_ok-keys.ensures c.sort_unstable.ensures.permutation)
    (IsNonDecreasingBy-from_sort (λ n. n) keys c.sort_unstable.ensures.sorted)
