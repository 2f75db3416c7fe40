-- Keys in ascending order, and what has them.
use Rattle.std.proofs.Common.{◌≡◌, ◌≢◌, inl, inr, ℕ, ◌+◌, ◌<◌, ◌≤◌, true, false, nat_lt, ◌==◌, List, length, get_or, AllPairs, IsPermutation, Result, Ok, Err, is_ok, MatchResult, sym, arith}
use Rattle.std.specs.List.{list_any}
use Rattle.std.specs.List.Sorted.{IsNonDecreasing, IsNonDecreasingBy, IsBinarySearchResult}
use Rattle.std.specs.Ordering.{nat_cmp}
use Rattle.std.proofs.lemmas.Bool.Decides.{nat_tests}
use Rattle.std.proofs.lemmas.Bool.{cases_lt}
use Rattle.std.proofs.lemmas.List.{get_or_default}
use Rattle.std.proofs.lemmas.List.Folds.{list_any-from_Any, list_any_none}
use Rattle.std.proofs.lemmas.List.Sorted.{searched}
use Rattle.lemmas.specs.Sorting.{is_sorted_by}
use Rattle.lemmas.proofs.Sorting.{sorted_permutation, sorted_from_adjacent, AllPairs-permutation}
use Rattle.lemmas.proofs.Orders.{nat_lt_order, order_by_key}
use Rattle.grid_index.proofs.Sorted.{lt_test, strict_by_key}

same : (n key : ℕ) → n ≡ key → (n == key) ≡ true
same n key e = grind (arith, nat_tests)

differ : (n key : ℕ) → n ≢ key → (n == key) ≡ false
differ n key ne = grind (arith, nat_tests)

-- a search among ascending keys finds a key exactly if it is there
pub is_found : (keys : List ℕ) (key : ℕ) (r : Result ℕ ℕ) → IsNonDecreasing keys → IsBinarySearchResult (λ y. nat_cmp y key) keys r → is_ok r ≡ list_any (λ k. k == key) keys
is_found keys key r up h = by r (searched keys key r h (λ i j le l. up i j 0 le l))
  where
    by : (r : Result ℕ ℕ) → MatchResult r (λ i. (i < length keys) × (get_or keys i 0 ≡ key)) (λ i. (i ≤ length keys) × ((k : ℕ) → k < i → get_or keys k 0 < key) × ((k : ℕ) → i ≤ k → k < length keys → key < get_or keys k 0))
        → is_ok r ≡ list_any (λ k. k == key) keys
    by (Ok i) m = sym (list_any-from_Any (λ k. k == key) keys (i, get_or keys i 0, m.0, sym (get_or_default keys i 0 (get_or keys i 0) m.0), same (get_or keys i 0) key m.1))
    by (Err i) m = sym (list_any_none (λ k. k == key) keys (λ k d l. elim (cases_lt k i) [
      | inl less ↦ differ (get_or keys k d) key (λ e. let h = m.1 k less in let f = get_or_default keys k d 0 l in omega arith)
      | inr le ↦ differ (get_or keys k d) key (λ e. let h = m.2 k le l in let f = get_or_default keys k d 0 l in omega arith)
    ]))

-- strictly ascending keys
pub sorted_by_pairs : {A : Type 0} (key : A → ℕ) (xs : List A) → AllPairs (λ x y. key x < key y) xs → is_sorted_by (λ x y. nat_lt (key x) (key y)) xs ≡ true
sorted_by_pairs key xs up = sorted_from_adjacent (λ x y. nat_lt (key x) (key y)) xs (λ k d l. lt_test (key (get_or xs k d)) (key (get_or xs (k + 1) d)) (up k (k + 1) d (omega arith) l))

-- what has strictly ascending keys is what a sort makes of it
pub sorted_by_keys : {A : Type 0} (key : A → ℕ) (xs ys : List A) → AllPairs (λ x y. key x < key y) xs → IsPermutation xs ys → IsNonDecreasingBy key ys → ys ≡ xs
sorted_by_keys key xs ys ascend moved up =
    let apart : AllPairs (λ x y. key x ≢ key y) xs = λ i j d less short e. let h = ascend i j d less short in absurd (omega arith) in
    let still = AllPairs-permutation (λ x y. key x ≢ key y) (λ x y ne e. ne (sym e)) xs ys moved apart in
    sym (sorted_permutation (order_by_key key nat_lt_order) xs ys (λ k d l. tt) (sorted_by_pairs key xs ascend) (strict_by_key key ys up still) moved)
