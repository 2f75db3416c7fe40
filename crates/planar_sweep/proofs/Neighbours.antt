-- A list with one member more or less: its neighbours, its members, and that each stands in it once.
use Rattle.std.proofs.Common.{◌≡◌, ◌≢◌, ◌⊎◌, ⊎_elim, ℕ, zero, suc, ◌+◌, ◌<◌, ◌≤◌, List, [], ◌∷◌, ◌++◌, length, take, drop, get_or, AllPairs, Contains, IsPermutation, refl, sym, ap, ◌∙◌, subst, arith}
use Rattle.std.proofs.lemmas.List.{drop_more, take-append-drop}
use Rattle.std.proofs.lemmas.List.Elements.{All-contains}
use Rattle.std.proofs.lemmas.List.Kept.{AllPairs-cons}
use Rattle.std.proofs.lemmas.List.Sorted.{IsPermutation-middle, IsPermutation-sym, Contains-permutation}
use Rattle.lemmas.proofs.Members.{in_head, in_tail, in_cases, All-from_members, AllPairs-head, AllPairs-tail}
use Rattle.lemmas.proofs.Sorting.{AllPairs-permutation}
use Rattle.planar_sweep.specs.Rows.{Adjacent}

module _ {A : Type 0} (R : A → A → Type 0) where
  -- a member between two that it stands in the relation to
  pub adjacent_insert : (xs : List A) (i : ℕ) (x d : A) → i ≤ length xs → Adjacent R xs → ((k : ℕ) → k + 1 ≡ i → R (get_or xs k d) x) → (i < length xs → R x (get_or xs i d)) → Adjacent R (take i xs ++ x ∷ drop i xs)
  adjacent_insert [] zero x d le h above below = (tt, tt)
  adjacent_insert [] (suc i) x d le h above below = absurd (omega (arith, le))
  adjacent_insert (y ∷ ys) zero x d le h above below = (below (omega arith), h)
  adjacent_insert (y ∷ []) (suc zero) x d le h above below = (above 0 (omega arith), (tt, tt))
  adjacent_insert (y ∷ []) (suc (suc i)) x d le h above below = absurd (omega (arith, le))
  adjacent_insert (y ∷ z ∷ zs) (suc zero) x d le h above below = (above 0 (omega arith), (below (omega arith), h.1))
  adjacent_insert (y ∷ z ∷ zs) (suc (suc i)) x d le h above below =
      (h.0, adjacent_insert (z ∷ zs) (suc i) x d (omega (arith, le)) h.1 (λ k e. above (suc k) (omega (arith, e))) (λ l. below (omega (arith, l))))

  -- a member less, where its neighbours stand in the relation
  less_one : (xs : List A) (i : ℕ) (d : A) → i < length xs → Adjacent R xs → ((k : ℕ) → suc k ≡ i → suc i < length xs → R (get_or xs k d) (get_or xs (suc i) d)) → Adjacent R (take i xs ++ drop (suc i) xs)
  less_one [] i d short h joined = absurd (omega (arith, short))
  less_one (y ∷ ys) zero d short h joined = h.1
  less_one (y ∷ []) (suc i) d short h joined = absurd (omega (arith, short))
  less_one (y ∷ z ∷ []) (suc zero) d short h joined = (tt, tt)
  less_one (y ∷ z ∷ w ∷ ws) (suc zero) d short h joined = (joined 0 refl (omega arith), h.1.1)
  less_one (y ∷ z ∷ zs) (suc (suc i)) d short h joined =
      (h.0, less_one (z ∷ zs) (suc i) d (omega (arith, short)) h.1 (λ k e l. joined (suc k) (omega (arith, e)) (omega (arith, l))))

  pub adjacent_remove : (xs : List A) (i : ℕ) (d : A) → i < length xs → Adjacent R xs → ((k : ℕ) → k + 1 ≡ i → i + 1 < length xs → R (get_or xs k d) (get_or xs (i + 1) d)) → Adjacent R (take i xs ++ drop (i + 1) xs)
  adjacent_remove xs i d short h joined =
      let next : suc i ≡ i + 1 = omega arith in
      subst (λ (n : ℕ). Adjacent R (take i xs ++ drop n xs)) next
      (less_one xs i d short h (λ k e l. subst (λ (n : ℕ). R (get_or xs k d) (get_or xs n d)) (sym next) (joined k (omega (arith, e)) (omega (arith, l)))))

-- ---- as a permutation

pub removed : {A : Type 0} (xs : List A) (i : ℕ) (d : A) → i < length xs → IsPermutation xs (get_or xs i d ∷ (take i xs ++ drop (i + 1) xs))
removed xs i d short = subst (λ ys. IsPermutation ys (get_or xs i d ∷ (take i xs ++ drop (i + 1) xs)))
    (ap (λ ys. take i xs ++ ys) (sym (drop_more xs i d short)) ∙ take-append-drop i xs)
    (IsPermutation-middle (take i xs) (get_or xs i d) (drop (i + 1) xs))

-- ---- what the permutations keep: a list of different members

abbrev pub Once : {A : Type 0} → List A → Type 0
Once xs = AllPairs (λ x y. x ≢ y) xs

module _ {A : Type 0} where
  turned : (x y : A) → x ≢ y → y ≢ x
  turned x y n e = n (sym e)

  pub once_more : (x : A) (xs ys : List A) → IsPermutation (x ∷ xs) ys → Once xs → (Contains xs x → ⊥) → Once ys
  once_more x xs ys moved once new = AllPairs-permutation (λ y z. y ≢ z) turned (x ∷ xs) ys moved
      (AllPairs-cons (λ y z. y ≢ z) x xs (All-from_members (λ y. x ≢ y) xs (λ y c e. new (subst (Contains xs) (sym e) c))) once)

  pub once_less : (x : A) (xs ys : List A) → IsPermutation xs (x ∷ ys) → Once xs → Once ys × (Contains ys x → ⊥)
  once_less x xs ys moved once =
      let all = AllPairs-permutation (λ y z. y ≢ z) turned xs (x ∷ ys) moved once in
      (AllPairs-tail (λ y z. y ≢ z) x ys all, λ c. All-contains (λ y. x ≢ y) ys x (AllPairs-head (λ y z. y ≢ z) x ys all) c refl)

  pub member_more : (x : A) (xs ys : List A) → IsPermutation (x ∷ xs) ys → (y : A) → Contains ys y → (x ≡ y) ⊎ Contains xs y
  member_more x xs ys moved y c = in_cases x xs y (Contains-permutation ys (x ∷ xs) y (IsPermutation-sym (x ∷ xs) ys moved) c)

  pub stays_more : (x : A) (xs ys : List A) → IsPermutation (x ∷ xs) ys → (y : A) → Contains xs y → Contains ys y
  stays_more x xs ys moved y c = Contains-permutation (x ∷ xs) ys y moved (in_tail x xs y c)

  pub comes_in : (x : A) (xs ys : List A) → IsPermutation (x ∷ xs) ys → Contains ys x
  comes_in x xs ys moved = Contains-permutation (x ∷ xs) ys x moved (in_head x xs)

  pub member_less : (x : A) (xs ys : List A) → IsPermutation xs (x ∷ ys) → (y : A) → Contains ys y → Contains xs y
  member_less x xs ys moved y c = Contains-permutation (x ∷ ys) xs y (IsPermutation-sym xs (x ∷ ys) moved) (in_tail x ys y c)

  pub stays_less : (x : A) (xs ys : List A) → IsPermutation xs (x ∷ ys) → (y : A) → Contains xs y → x ≢ y → Contains ys y
  stays_less x xs ys moved y c differ = ⊎_elim (λ e. absurd (differ e)) (λ k. k) (in_cases x ys y (Contains-permutation xs (x ∷ ys) y moved c))
