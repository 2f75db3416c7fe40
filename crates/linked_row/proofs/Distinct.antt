-- Rows in which no number stands twice.
use Rattle.std.proofs.Common.{◌≡◌, ⊎_elim, ℕ, zero, suc, ◌<◌, ◌≤◌, false, eqb, List, ◌∷◌, length, get_or, All, Contains, refl, sym, ◌∙◌, arith}
use Rattle.std.specs.List.{insert, remove, IsDistinct}
use Rattle.std.proofs.lemmas.Bool.{cases_lt, eqb-false, ne_eqb, eqb-true}
use Rattle.std.proofs.lemmas.Bool.Decides.{nat_tests}
use Rattle.std.proofs.lemmas.List.{get_or_default}
use Rattle.std.proofs.lemmas.List.Elements.{All-contains}
use Rattle.std.proofs.lemmas.List.Sorted.{IsPermutation-insert, IsPermutation-remove, Contains-permutation}
use Rattle.std.proofs.lemmas.Map.Keys.{apart_from_distinct, IsDistinct-from_apart, IsDistinct-tail, IsDistinct-IsPermutation}
use Rattle.std.proofs.lemmas.Map.Steps.{length-le_from_distinct_below}
use Rattle.std.proofs.lemmas.Map.Views.{Contains-from_any}
use Rattle.std.proofs.lemmas.Map.Made.{Contains-tail}
use Rattle.linked_row.proofs.Neighbours.{AreApart, IsNew}

eqb_flips : (x y : ℕ) → eqb x y ≡ eqb y x
eqb_flips x y = grind (arith, nat_tests)

pub are_apart : (xs : List ℕ) → IsDistinct eqb xs → AreApart xs
are_apart xs d i j li lj ne e = ⊎_elim
    (λ less. eqb-false (get_or xs i 0) (get_or xs j 0) (apart_from_distinct eqb xs i j 0 d less lj) e)
    (λ le. eqb-false (get_or xs j 0) (get_or xs i 0) (apart_from_distinct eqb xs j i 0 d (omega (arith, le, ne)) li) (sym e))
    (cases_lt i j)

-- a number that a row does not have is at none of its places
pub is_new : (xs : List ℕ) (x : ℕ) → (Contains xs x → ⊥) → IsNew xs x
is_new xs x new j l e = new (j, l, get_or_default xs j x 0 l ∙ e)

pub distinct_cons : (x : ℕ) (xs : List ℕ) → IsNew xs x → IsDistinct eqb xs → IsDistinct eqb (x ∷ xs)
distinct_cons x xs new d = IsDistinct-from_apart eqb (x ∷ xs) apart
  where
    apart : (i j z : ℕ) → i < j → j < length (x ∷ xs) → eqb (get_or (x ∷ xs) i z) (get_or (x ∷ xs) j z) ≡ false
    apart i zero z less l = absurd (omega arith)
    apart zero (suc j) z less l =
        let short : j < length xs = omega arith in
        ne_eqb x (get_or xs j z) (λ e. new j short (get_or_default xs j 0 z short ∙ sym e))
    apart (suc i) (suc j) z less l = apart_from_distinct eqb xs i j z d (omega arith) (omega arith)

pub distinct_insert : (xs : List ℕ) (k x : ℕ) → IsNew xs x → IsDistinct eqb xs → IsDistinct eqb (insert xs k x)
distinct_insert xs k x new d = IsDistinct-IsPermutation eqb eqb_flips (x ∷ xs) (insert xs k x) (IsPermutation-insert xs k x) (distinct_cons x xs new d)

pub distinct_remove : (xs : List ℕ) (k : ℕ) → k < length xs → IsDistinct eqb xs → IsDistinct eqb (remove xs k)
distinct_remove xs k l d =
    let x = get_or xs k 0 in
    let same : x ≡ get_or xs k x = get_or_default xs k 0 x l in
    IsDistinct-tail eqb x (remove xs k) (IsDistinct-IsPermutation eqb eqb_flips xs (x ∷ remove xs k) (IsPermutation-remove xs k x l same) d)

-- the number that goes out is at no place of the others
pub removed_is_new : (xs : List ℕ) (k : ℕ) → k < length xs → IsDistinct eqb xs → IsNew (remove xs k) (get_or xs k 0)
removed_is_new xs k l d j less e =
    let x = get_or xs k 0 in
    let same : x ≡ get_or xs k x = get_or_default xs k 0 x l in
    are_apart (x ∷ remove xs k) (IsDistinct-IsPermutation eqb eqb_flips xs (x ∷ remove xs k) (IsPermutation-remove xs k x l same) d) (suc j) 0 (omega arith) (omega arith) (λ f. absurd (omega (arith, f))) e

-- ---- members

pub contains_insert : (xs : List ℕ) (k x n : ℕ) → Contains xs n → Contains (insert xs k x) n
contains_insert xs k x n h = Contains-permutation (x ∷ xs) (insert xs k x) n (IsPermutation-insert xs k x) (suc h.0, omega (arith, h.1), h.2)

pub contains_inserted : (xs : List ℕ) (k x : ℕ) → Contains (insert xs k x) x
contains_inserted xs k x = Contains-permutation (x ∷ xs) (insert xs k x) x (IsPermutation-insert xs k x) (0, omega arith, refl)

pub contains_remove : (xs : List ℕ) (k n : ℕ) → k < length xs → (get_or xs k 0 ≡ n → ⊥) → Contains xs n → Contains (remove xs k) n
contains_remove xs k n l ne h =
    let x = get_or xs k 0 in
    let same : x ≡ get_or xs k x = get_or_default xs k 0 x l in
    Contains-tail x (remove xs k) n ne (Contains-permutation xs (x ∷ remove xs k) n (IsPermutation-remove xs k x l same) h)

-- distinct numbers below a count are at most so many
pub at_most : (xs : List ℕ) (n : ℕ) → IsDistinct eqb xs → All (λ x. x < n) xs → length xs ≤ n
at_most xs n d below = length-le_from_distinct_below xs n d (λ q h. All-contains (λ x. x < n) xs q below (Contains-from_any eqb-true q xs h))
