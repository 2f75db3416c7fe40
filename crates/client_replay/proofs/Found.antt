-- What has a key, in a list in the order of the keys.
use Rattle.std.proofs.Common.{◌≡◌, ⊎_elim, ◌≤◌, ◌<◌, ℕ, zero, suc, Bool, true, false, ◌||◌, cond, nat_lt, List, [], ◌∷◌, map, length, get_or, Some, None, Result, Ok, Err, refl, sym, ap, ◌∙◌, arith}
use Rattle.std.specs.Prelude.{⊤, ◌==◌, find, MatchResult, is_some, is_ok}
use Rattle.std.specs.List.{list_any}
use Rattle.std.specs.List.Sorted.{IsBinarySearchResult, IsSearchInRange}
use Rattle.std.specs.Ordering.{nat_cmp, ordering_index}
use Rattle.std.specs.declared.cmp.Ordering.TheVariants.{Less, Equal, Greater}
use Rattle.std.proofs.lemmas.Bool.{eq-eqb, ne_eqb, ltb-true, cases_lt}
use Rattle.std.proofs.lemmas.Bool.Decides.{nat_tests}
use Rattle.lemmas.specs.Sorting.{is_sorted_by}
use Rattle.lemmas.proofs.Sorting.{sorted_tail, sorted_head, map-is_sorted}
use Rattle.lemmas.proofs.Orders.{nat_lt_order, order_by_key}

-- a member passes a test where one is found
pub any_found : {A : Type 0} (p : A → Bool) (xs : List A) → list_any p xs ≡ is_some (find p xs)
any_found p [] = refl
any_found p (x ∷ xs) = by (p x) (any_found p xs)
  where
    by : (b : Bool) → list_any p xs ≡ is_some (find p xs) → (b || list_any p xs) ≡ is_some (cond b (Some x) (find p xs))
    by true e = refl
    by false e = e

module _ {A : Type 0} (key : A → ℕ) where
  -- keys ascend where what has them does
  pub ascend_by : (xs : List A) → is_sorted_by nat_lt (map key xs) ≡ is_sorted_by (λ x y. nat_lt (key x) (key y)) xs
  ascend_by xs = map-is_sorted (λ _. ⊤) (λ x y. nat_lt (key x) (key y)) nat_lt key (λ x y p q. refl) xs (λ k d l. tt)

  -- all that follow have greater keys
  pub above_first : (x : A) (xs : List A) → is_sorted_by (λ x y. nat_lt (key x) (key y)) (x ∷ xs) ≡ true → (i : ℕ) (d : A) → i < length xs → key x < key (get_or xs i d)
  above_first x xs s i d l =
      ltb-true (key x) (key (get_or xs i d)) (sorted_head (λ x y. nat_lt (key x) (key y)) (order_by_key key nat_lt_order) x xs tt (λ k d l. tt) s i d l)

  rising : (xs : List A) → is_sorted_by (λ x y. nat_lt (key x) (key y)) xs ≡ true → (i j : ℕ) (d : A) → i ≤ j → j < length xs → key (get_or xs i d) ≤ key (get_or xs j d)
  rising [] s i j d le l = absurd (omega arith)
  rising (x ∷ xs) s zero zero d le l = omega arith
  rising (x ∷ xs) s zero (suc j) d le l = omega (arith, above_first x xs s j d (omega arith))
  rising (x ∷ xs) s (suc i) zero d le l = absurd (omega arith)
  rising (x ∷ xs) s (suc i) (suc j) d le l = rising xs (sorted_tail (λ x y. nat_lt (key x) (key y)) x xs s) i j d (omega arith) (omega arith)

  -- only one member has a key
  pub find_at : (k : ℕ) (xs : List A) (i : ℕ) (d : A) → is_sorted_by (λ x y. nat_lt (key x) (key y)) xs ≡ true → i < length xs → key (get_or xs i d) ≡ k
      → find (λ x. key x == k) xs ≡ Some (get_or xs i d)
  find_at k [] i d s l e = absurd (omega arith)
  find_at k (x ∷ xs) zero d s l e = ap (λ (b : Bool). cond b (Some x) (find (λ y. key y == k) xs)) (eq-eqb (key x) k e)
  find_at k (x ∷ xs) (suc i) d s l e =
      let more = above_first x xs s i d (omega arith) in
      ap (λ (b : Bool). cond b (Some x) (find (λ y. key y == k) xs)) (ne_eqb (key x) k (λ same. omega arith))
      ∙ find_at k xs i d (sorted_tail (λ x y. nat_lt (key x) (key y)) x xs s) (omega arith) e

  pub find_none : (k : ℕ) (xs : List A) → ((i : ℕ) (d : A) → i < length xs → key (get_or xs i d) ≡ k → ⊥) → find (λ x. key x == k) xs ≡ None
  find_none k [] h = refl
  find_none k (x ∷ xs) h =
      ap (λ (b : Bool). cond b (Some x) (find (λ y. key y == k) xs)) (ne_eqb (key x) k (h 0 x (omega arith)))
      ∙ find_none k xs (λ i d l e. h (suc i) d (omega arith) e)

  -- what a binary search for a key answers
  pub searched_key : (k : ℕ) (xs : List A) (r : Result ℕ ℕ) → is_sorted_by nat_lt (map key xs) ≡ true → IsSearchInRange r (length xs)
      → IsBinarySearchResult (λ x. nat_cmp (key x) k) xs r → MatchResult r (λ i. (d : A) → find (λ x. key x == k) xs ≡ Some (get_or xs i d)) (λ i. find (λ x. key x == k) xs ≡ None)
  searched_key k xs (Ok i) s l h = λ d. find_at k xs i d (sym (ascend_by xs) ∙ s) l (equal (key (get_or xs i d)) (h d))
    where
      equal : (a : ℕ) → nat_cmp a k ≡ Equal → a ≡ k
      equal a e = grind (arith, nat_tests)
  searched_key k xs (Err n) s l h =
      let t = sym (ascend_by xs) ∙ s in
      let parted = h (λ i j d le m. higher (key (get_or xs i d)) (key (get_or xs j d)) (rising xs t i j d le m)) in
      find_none k xs (λ i d m e. ⊎_elim
      (λ low. omega (arith, less (key (get_or xs i d)) (parted.0 i d (omega arith) low)))
      (λ high. omega (arith, greater (key (get_or xs i d)) (parted.1 i d high m)))
      (cases_lt i n))
    where
      less : (a : ℕ) → nat_cmp a k ≡ Less → a < k
      less a e = grind (arith, nat_tests)

      greater : (a : ℕ) → nat_cmp a k ≡ Greater → k < a
      greater a e = grind (arith, nat_tests)

      higher : (a b : ℕ) → a ≤ b → ordering_index (nat_cmp a k) ≤ ordering_index (nat_cmp b k)
      higher a b le = grind (arith, nat_tests)

  -- whether it finds one
  pub searched_any : (k : ℕ) (xs : List A) (r : Result ℕ ℕ) → is_sorted_by nat_lt (map key xs) ≡ true → IsSearchInRange r (length xs)
      → IsBinarySearchResult (λ x. nat_cmp (key x) k) xs r → is_ok r ≡ list_any (λ x. key x == k) xs
  searched_any k [] (Ok i) s l h = absurd (omega (arith, l))
  searched_any k (x ∷ xs) (Ok i) s l h = sym (any_found (λ y. key y == k) (x ∷ xs) ∙ ap is_some (searched_key k (x ∷ xs) (Ok i) s l h x))
  searched_any k xs (Err n) s l h = sym (any_found (λ y. key y == k) xs ∙ ap is_some (searched_key k xs (Err n) s l h))
