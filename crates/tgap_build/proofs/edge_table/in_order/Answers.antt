-- Keys that are sorted and stand there once ascend.
use Rattle.std.proofs.Common.{◌≡◌, ◌<◌, nat_eq, ℕ, List, AllPairs, Contains, sym, subst}
use Rattle.std.specs.List.{dedup}
use Rattle.std.proofs.lemmas.List.Filters.{dedup_is}
use Rattle.std.proofs.lemmas.List.Kept.{AllPairs-from_increasing, Contains-dedup_nat, Contains-from_dedup}
use Rattle.std.proofs.lemmas.List.Sorted.{Contains-permutation, IsPermutation-sym}
use Rattle.std.proofs.lemmas.Map.Keys.{IsStrictlyIncreasing-dedup}
use Rattle.tgap_build.proofs.edge_table.in_order.Goals as goal

after : (c : goal.After-dedup) → c.dedup.new.self.items ≡ dedup nat_eq c.sort_unstable.new.self.items
after c = dedup_is nat_eq c.sort_unstable.new.self.items c.dedup.new.self.items c.dedup.ensures.filtered

pub returns-clause-ascending : goal.returns-clause-ascending
returns-clause-ascending c =
    subst (AllPairs (λ (j k : ℕ). j < k)) (sym (after c))
    (AllPairs-from_increasing (dedup nat_eq c.sort_unstable.new.self.items) (IsStrictlyIncreasing-dedup c.sort_unstable.new.self.items c.sort_unstable.ensures.sorted))

pub returns-clause-same : goal.returns-clause-same
returns-clause-same c = λ k. (
  λ m. subst (λ (ks : List ℕ). Contains ks k) c.into_vec-keys.ensures
      (Contains-permutation c.sort_unstable.new.self.items c.into_vec-keys.result.items k
      (IsPermutation-sym c.into_vec-keys.result.items c.sort_unstable.new.self.items c.sort_unstable.ensures.permutation)
      (Contains-from_dedup nat_eq c.sort_unstable.new.self.items k (subst (λ (ks : List ℕ). Contains ks k) (after c) m))),
  λ m. subst (λ (ks : List ℕ). Contains ks k) (sym (after c))
      (Contains-dedup_nat c.sort_unstable.new.self.items k
      (Contains-permutation c.into_vec-keys.result.items c.sort_unstable.new.self.items k c.sort_unstable.ensures.permutation
      (subst (λ (ks : List ℕ). Contains ks k) (sym c.into_vec-keys.ensures) m))),
)
