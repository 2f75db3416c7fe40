-- Laws of `insert_once` and `distinct_by`: the members stay, and the list ascends. Ascending lists of integers, by their places.
use Rattle.std.proofs.Common.{◌≡◌, ◌⊎◌, inl, inr, ⊎_elim, ℕ, ◌+◌, ◌<◌, ◌≤◌, Bool, true, false, cond, List, [], ◌∷◌, length, drop, get_or, All, Contains, IsPermutation, ℤ, ◌<ℤ◌, ◌≤ℤ◌, int_lt, Ordering, Less, Equal, Greater, refl, sym, ap, ◌∙◌, subst, true≢false, arith}
use Rattle.std.specs.List.{dedup}
use Rattle.std.specs.List.Sorted.{IsSorted, IsSortedByKey, IsStrictlySortedBy}
use Rattle.std.specs.Ordering.{int_cmp, int_eq, is_lt}
use Rattle.std.specs.Cmp.Derive.{both_true}
use Rattle.std.proofs.lemmas.Bool.{cases_order}
use Rattle.std.proofs.lemmas.Bool.Decides.{Decides-int_eq}
use Rattle.std.proofs.lemmas.Cmp.{int_cmp_total, int_eq_equiv}
use Rattle.std.proofs.lemmas.List.{get_or_default, get_or-drop, length-drop}
use Rattle.std.proofs.lemmas.List.Kept.{Contains-dedup, Contains-from_dedup, IsStrictlySortedBy-dedup}
use Rattle.std.proofs.lemmas.List.Sorted.{ranks_by, sorted_far, Contains-permutation, IsPermutation-sym}
use Rattle.lemmas.specs.Sorting.{is_before_first, is_sorted_by}
use Rattle.lemmas.specs.Ascending.{insert_once, distinct_by}
use Rattle.lemmas.proofs.Signs.{Decides-int_lt, int_lt-false, le_from_lt, le_from_same, same_from_le}
use Rattle.lemmas.proofs.Orders.{int_lt_order}
use Rattle.lemmas.proofs.Sorting.{sorted_tail, sorted_next, sorted_head, sorted_same, sorted_pairs}
use Rattle.lemmas.proofs.Members.{in_head, in_tail, in_cases}

module _ {A : Type 0} (before : A → A → Bool) where
  insert_once-first : (y x : A) (ys : List A) → before y x ≡ true → is_before_first before y ys ≡ true → is_before_first before y (insert_once before x ys) ≡ true
  insert_once-first y x [] e f = e
  insert_once-first y x (z ∷ zs) e f = by (before x z)
    where
      by : (b : Bool) → is_before_first before y (elim b [ true ↦ x ∷ z ∷ zs | false ↦ z ∷ elim (before z x) [ true ↦ insert_once before x zs | false ↦ zs ] ]) ≡ true
      by true = e
      by false = f

  pub insert_once-is_sorted : (x : A) (ys : List A) → is_sorted_by before ys ≡ true → is_sorted_by before (insert_once before x ys) ≡ true
  insert_once-is_sorted x [] s = refl
  insert_once-is_sorted x (y ∷ ys) s = by (before x y) refl (before y x) refl (insert_once-is_sorted x ys (sorted_tail before y ys s))
    where
      by : (b : Bool) → before x y ≡ b → (c : Bool) → before y x ≡ c → is_sorted_by before (insert_once before x ys) ≡ true
          → is_sorted_by before (elim b [ true ↦ x ∷ y ∷ ys | false ↦ y ∷ elim c [ true ↦ insert_once before x ys | false ↦ ys ] ]) ≡ true
      by true e c f k = both_true e s
      by false e true f k = both_true (insert_once-first y x ys f (sorted_next before y ys s)) k
      by false e false f k = s

  pub distinct_by-is_sorted : (xs : List A) → is_sorted_by before (distinct_by before xs) ≡ true
  distinct_by-is_sorted [] = refl
  distinct_by-is_sorted (x ∷ xs) = insert_once-is_sorted x (distinct_by before xs) (distinct_by-is_sorted xs)

  -- no other member comes in
  pub Contains-from_insert_once : (x : A) (ys : List A) (z : A) → Contains (insert_once before x ys) z → (x ≡ z) ⊎ Contains ys z
  Contains-from_insert_once x [] z c = in_cases x [] z c
  Contains-from_insert_once x (y ∷ ys) z c = by (before x y) (before y x) c (Contains-from_insert_once x ys z)
    where
      by : (b d : Bool) → Contains (elim b [ true ↦ x ∷ y ∷ ys | false ↦ y ∷ elim d [ true ↦ insert_once before x ys | false ↦ ys ] ]) z
          → (Contains (insert_once before x ys) z → (x ≡ z) ⊎ Contains ys z) → (x ≡ z) ⊎ Contains (y ∷ ys) z
      by true d c r = in_cases x (y ∷ ys) z c
      by false true c r = ⊎_elim (λ e. inr (subst_head e)) (λ k. ⊎_elim inl (λ m. inr (in_tail y ys z m)) (r k)) (in_cases y (insert_once before x ys) z c)
        where
          subst_head : y ≡ z → Contains (y ∷ ys) z
          subst_head e = (0, omega arith, e)
      by false false c r = inr c

  pub Contains-from_distinct_by : (xs : List A) (z : A) → Contains (distinct_by before xs) z → Contains xs z
  Contains-from_distinct_by [] z c = c
  Contains-from_distinct_by (x ∷ xs) z c = ⊎_elim (λ e. (0, omega arith, e)) (λ k. in_tail x xs z (Contains-from_distinct_by xs z k)) (Contains-from_insert_once x (distinct_by before xs) z c)

  -- each member stays, where the order decides between any two
  module _ (decided : (x y : A) → before x y ≡ false → before y x ≡ false → x ≡ y) where
    pub Contains-insert_once_old : (x : A) (ys : List A) (z : A) → Contains ys z → Contains (insert_once before x ys) z
    Contains-insert_once_old x [] z c = in_tail x [] z c
    Contains-insert_once_old x (y ∷ ys) z c = by (before x y) (before y x) (Contains-insert_once_old x ys z)
      where
        by : (b d : Bool) → (Contains ys z → Contains (insert_once before x ys) z) → Contains (elim b [ true ↦ x ∷ y ∷ ys | false ↦ y ∷ elim d [ true ↦ insert_once before x ys | false ↦ ys ] ]) z
        by true d r = in_tail x (y ∷ ys) z c
        by false true r = ⊎_elim (λ e. (0, omega arith, e)) (λ k. in_tail y (insert_once before x ys) z (r k)) (in_cases y ys z c)
        by false false r = c

    pub Contains-insert_once_new : (x : A) (ys : List A) → Contains (insert_once before x ys) x
    Contains-insert_once_new x [] = in_head x []
    Contains-insert_once_new x (y ∷ ys) = by (before x y) refl (before y x) refl (Contains-insert_once_new x ys)
      where
        by : (b : Bool) → before x y ≡ b → (d : Bool) → before y x ≡ d → Contains (insert_once before x ys) x
            → Contains (elim b [ true ↦ x ∷ y ∷ ys | false ↦ y ∷ elim d [ true ↦ insert_once before x ys | false ↦ ys ] ]) x
        by true e d f r = in_head x (y ∷ ys)
        by false e true f r = in_tail y (insert_once before x ys) x r
        by false e false f r = (0, omega arith, sym (decided x y e f))

    pub Contains-distinct_by : (xs : List A) (z : A) → Contains xs z → Contains (distinct_by before xs) z
    Contains-distinct_by [] z c = c
    Contains-distinct_by (x ∷ xs) z c = ⊎_elim at_head (λ k. Contains-insert_once_old x (distinct_by before xs) z (Contains-distinct_by xs z k)) (in_cases x xs z c)
      where
        at_head : x ≡ z → Contains (insert_once before x (distinct_by before xs)) z
        at_head e = subst (λ w. Contains (insert_once before x (distinct_by before xs)) w) e (Contains-insert_once_new x (distinct_by before xs))

-- ---- ascending integers

pub int_lt_decides : (x y : ℤ) → int_lt x y ≡ false → int_lt y x ≡ false → x ≡ y
int_lt_decides x y e f = same_from_le (int_lt-false y x f) (int_lt-false x y e)

-- by their places
pub ascending : (xs : List ℤ) → is_sorted_by int_lt xs ≡ true → (i j : ℕ) (d : ℤ) → i ≤ j → j < length xs → get_or xs i d ≤ℤ get_or xs j d
ascending xs s i j d le short = by (cases_order i j)
  where
    by : (i ≡ j) ⊎ ((i < j) ⊎ (j < i)) → get_or xs i d ≤ℤ get_or xs j d
    by (inl same) = le_from_same (ap (λ k. get_or xs k d) same)
    by (inr (inl less)) = le_from_lt ((Decides-int_lt _ _).0 (sorted_pairs int_lt_order xs (λ _ _ _. tt) s i j d less short))
    by (inr (inr more)) = absurd (omega arith)

-- what stands from a place on is no less than what stands there
pub from_place : (xs : List ℤ) → is_sorted_by int_lt xs ≡ true → (n : ℕ) (d z : ℤ) → n < length xs → Contains (drop n xs) z → get_or xs n d ≤ℤ z
from_place xs s n d z short (k, l, e) =
    let long : n + k < length xs = omega (arith, length-drop n xs) in
    subst (λ (w : ℤ). get_or xs n d ≤ℤ w) (get_or_default xs (n + k) d z long ∙ sym (get_or-drop n xs k z) ∙ e) (ascending xs s n (n + k) d (omega arith) long)

-- those that follow the head are greater
pub above_head : (x : ℤ) (xs : List ℤ) → is_sorted_by int_lt (x ∷ xs) ≡ true → All (λ y. x <ℤ y) xs
above_head x xs s n d short = (Decides-int_lt x (get_or xs n d)).0 (sorted_head int_lt int_lt_order x xs tt (λ _ _ _. tt) s n d short)

lt_from_less : (x y : ℤ) → int_cmp x y ≡ Less → int_lt x y ≡ true
lt_from_less x y e = by (int_lt x y) (int_lt y x) e
  where
    by : (b c : Bool) → ◌≡◌ {A = Ordering} (cond b Less (cond c Greater Equal)) Less → b ≡ true
    by true c h = refl
    by false true h = absurd cc
    by false false h = absurd cc

strictly_sorted : (xs : List ℤ) → IsStrictlySortedBy int_cmp xs → is_sorted_by int_lt xs ≡ true
unfolding IsStrictlySortedBy
strictly_sorted [] h = refl
strictly_sorted (x ∷ []) h = refl
strictly_sorted (x ∷ y ∷ ys) h = both_true (lt_from_less x y h.0.0) (strictly_sorted (y ∷ ys) h.1)

-- a sorted list without its repeats is the ascending list of what it was sorted from
pub sorted_and_distinct : (xs ys : List ℤ) → IsPermutation xs ys → IsSorted int_cmp ys → dedup int_eq ys ≡ distinct_by int_lt xs
sorted_and_distinct xs ys moved sorted = sorted_same int_lt_order (dedup int_eq ys) (distinct_by int_lt xs) (λ _ _ _. tt) (λ _ _ _. tt)
    (strictly_sorted (dedup int_eq ys) (IsStrictlySortedBy-dedup int_cmp_total (λ x y. refl) ys sorted))
    (distinct_by-is_sorted int_lt xs)
    (λ z c. Contains-distinct_by int_lt int_lt_decides xs z (Contains-permutation ys xs z (IsPermutation-sym xs ys moved) (Contains-from_dedup int_eq ys z c)))
    (λ z c. Contains-dedup int_eq_equiv (λ x y e. (Decides-int_eq x y).0 e) ys z (Contains-permutation xs ys z moved (Contains-from_distinct_by int_lt xs z c)))

-- what is sorted by a key ascends by it
pub ascending_by_key : {A : Type 0} (key : A → ℤ) (xs : List A) → IsSortedByKey key int_cmp xs → (i j : ℕ) (d : A) → i ≤ j → j < length xs → key (get_or xs i d) ≤ℤ key (get_or xs j d)
ascending_by_key key xs up i j d le short =
    int_lt-false (key (get_or xs j d)) (key (get_or xs i d))
    (not_less (key (get_or xs j d)) (key (get_or xs i d)) (sorted_far (λ a b. is_lt (int_cmp (key a) (key b))) (ranks_by int_cmp_total key) xs up i j d le short))
  where
    not_less : (x y : ℤ) → is_lt (int_cmp x y) ≡ false → int_lt x y ≡ false
    not_less x y e = by (int_lt x y) (int_lt y x) e
      where
        by : (b c : Bool) → is_lt (cond b Less (cond c Greater Equal)) ≡ false → b ≡ false
        by true c h = absurd (true≢false h)
        by false c h = refl
