-- Lists in ascending order: what is sorted and has no two equal keys ascends strictly.
use Rattle.std.proofs.Common.{◌≡◌, ◌≢◌, ℕ, zero, suc, ◌+◌, ◌<◌, ◌≤◌, true, nat_lt, List, length, get_or, All, AllPairs, IsPermutation, refl, sym, arith}
use Rattle.std.specs.List.{range_with_len}
use Rattle.std.specs.List.Sorted.{IsNonDecreasingBy}
use Rattle.std.specs.Cmp.Derive.{both_true}
use Rattle.std.proofs.lemmas.Bool.Decides.{nat_tests}
use Rattle.tgap_model.specs.declared.geometry.Window.{Window}
use Rattle.lemmas.specs.Sorting.{is_sorted_by, is_before_first}
use Rattle.lemmas.proofs.Sorting.{sorted_from_adjacent, filter-is_sorted, sorted_permutation, sorted_pairs, AllPairs-permutation}
use Rattle.lemmas.proofs.Orders.{nat_lt_order}
use Rattle.grid_index.specs.Near.{near_boxes}
use Rattle.grid_index.specs.Tower.{meets_at}
use Rattle.grid_index.proofs.Meeting.{near_filtered}

pub lt_test : (m n : ℕ) → m < n → nat_lt m n ≡ true
lt_test m n h = grind (arith, nat_tests)

pub test_lt : (m n : ℕ) → nat_lt m n ≡ true → m < n
test_lt m n h = grind (arith, nat_tests)

-- no two keys are equal, so none is followed by an equal one
pub strict_by_key : {A : Type 0} (key : A → ℕ) (xs : List A) → IsNonDecreasingBy key xs → AllPairs (λ x y. key x ≢ key y) xs → is_sorted_by (λ x y. nat_lt (key x) (key y)) xs ≡ true
strict_by_key key xs up apart = sorted_from_adjacent (λ x y. nat_lt (key x) (key y)) xs (λ k d l.
    let le : key (get_or xs k d) ≤ key (get_or xs (k + 1) d) = up k (k + 1) d (omega arith) l in
    let ne : key (get_or xs k d) ≢ key (get_or xs (k + 1) d) = apart k (k + 1) d (omega arith) l in
    lt_test (key (get_or xs k d)) (key (get_or xs (k + 1) d)) (omega arith))

-- numbers in a row ascend
range-is_sorted : (a n : ℕ) → is_sorted_by nat_lt (range_with_len a n) ≡ true
range-is_sorted a zero = refl
range-is_sorted a (suc n) = both_true (next n) (range-is_sorted (a + 1) n)
  where
    next : (n : ℕ) → is_before_first nat_lt a (range_with_len (a + 1) n) ≡ true
    next zero = refl
    next (suc n) = lt_test a (a + 1) (omega arith)

anything : (xs : List ℕ) → All (λ n. Unit {0}) xs
anything xs k d l = tt

-- so do the places of the boxes that meet an area
pub near_boxes-is_sorted : (area : Window) (boxes : List Window) → is_sorted_by nat_lt (near_boxes area boxes) ≡ true
near_boxes-is_sorted area boxes =
    rw (← near_filtered area boxes (length boxes) (omega arith))
    (filter-is_sorted nat_lt_order (meets_at area boxes) (range_with_len 0 (length boxes)) (anything (range_with_len 0 (length boxes))) (range-is_sorted 0 (length boxes)))

-- numbers that ascend are what a sort makes of them
pub sorted_numbers : (xs ys : List ℕ) → is_sorted_by nat_lt xs ≡ true → IsPermutation xs ys → IsNonDecreasingBy (λ n. n) ys → ys ≡ xs
sorted_numbers xs ys sorted moved up =
    let apart : AllPairs (λ m n. m ≢ n) xs = λ i j d less short e.
    let h = test_lt (get_or xs i d) (get_or xs j d) (sorted_pairs nat_lt_order xs (anything xs) sorted i j d less short) in
    absurd (omega arith) in
    let still = AllPairs-permutation (λ m n. m ≢ n) (λ m n ne e. ne (sym e)) xs ys moved apart in
    sym (sorted_permutation nat_lt_order xs ys (anything xs) sorted (strict_by_key (λ n. n) ys up still) moved)
