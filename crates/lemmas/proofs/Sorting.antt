-- Laws of `insert_by`, `sort_by` and `is_sorted_by`.
use Rattle.std.proofs.Common.{◌≡◌, ◌≢◌, ◌⊎◌, inl, inr, ⊎_elim, ℕ, zero, suc, ◌+◌, ◌<◌, Bool, true, false, cond, ◌&&◌, ◌||◌, List, [], ◌∷◌, ◌++◌, map, map-id, length, get_or, filter, All, AllPairs, Contains, IsPermutation, count_by, sum_by, refl, sym, ap, ap₂, ◌∙◌, subst, subst₂, true≢false, swap, arith}
use Rattle.std.specs.List.{list_any, list_all, AllAdjacentBelow}
use Rattle.std.proofs.lemmas.List.Elements.{All-nil, All-cons, All-head, All-tail, All-filter, All-contains}
use Rattle.std.proofs.lemmas.List.Sums.{AllPass-from_list_all, list_all-from_AllPass}
use Rattle.std.proofs.lemmas.List.Sorted.{IsPermutation-refl, IsPermutation-cons, IsPermutation-middle, IsPermutation-trans, IsPermutation-sym, All-permutation, Contains-permutation, length_permutation, sum_by-IsPermutation, list_any-IsPermutation}
use Rattle.std.proofs.lemmas.List.Sorted.{IsPermutation-keeps}
use Rattle.std.proofs.lemmas.List.Edits.{swapped_from_swap, length-swap}
use Rattle.std.proofs.lemmas.Bool.{and_parts, cases_eq, cases_lt}
use Rattle.std.specs.Cmp.Derive.{both_true}
use Rattle.lemmas.specs.Sorting.{insert_by, sort_by, is_before_first, is_sorted_by, IsStrictOrderOn}

-- ---- sorted lists

module _ {A : Type 0} (before : A → A → Bool) where
  -- the tail of a sorted list is sorted, and the head stands before the next member
  pub sorted_tail : (x : A) (xs : List A) → is_sorted_by before (x ∷ xs) ≡ true → is_sorted_by before xs ≡ true
  sorted_tail x xs s = (and_parts (is_before_first before x xs) (is_sorted_by before xs) s).1

  pub sorted_next : (x : A) (xs : List A) → is_sorted_by before (x ∷ xs) ≡ true → is_before_first before x xs ≡ true
  sorted_next x xs s = (and_parts (is_before_first before x xs) (is_sorted_by before xs) s).0

  -- a head before every member, in front of a sorted list
  pub before_first_from_all : (x : A) (xs : List A) → All (λ y. before x y ≡ true) xs → is_before_first before x xs ≡ true
  before_first_from_all x [] h = refl
  before_first_from_all x (y ∷ ys) h = All-head (λ y. before x y ≡ true) y ys h

  pub sorted_cons : (x : A) (xs : List A) → All (λ y. before x y ≡ true) xs → is_sorted_by before xs ≡ true → is_sorted_by before (x ∷ xs) ≡ true
  sorted_cons x xs h s = both_true (before_first_from_all x xs h) s

  -- the head of a sorted list stands before every other member
  pub sorted_head : {P : A → Type 0} → IsStrictOrderOn P before → (x : A) (xs : List A) → P x → All P xs → is_sorted_by before (x ∷ xs) ≡ true → All (λ y. before x y ≡ true) xs
  sorted_head {P} o x [] p ps s = All-nil (λ y. before x y ≡ true)
  sorted_head {P} o x (y ∷ ys) p ps s =
      let q = All-head P y ys ps in
      let qs = All-tail P y ys ps in
      let next = sorted_next x (y ∷ ys) s in
      let rest = sorted_head o y ys q qs (sorted_tail x (y ∷ ys) s) in
      All-cons (λ z. before x z ≡ true) y ys next (λ k d l. o.passes x y (get_or ys k d) p q (qs k d l) next (rest k d l))

  -- a list is sorted where each member stands before the next one, by their places
  pub adjacent_from_sorted : (xs : List A) → is_sorted_by before xs ≡ true → AllAdjacentBelow (λ x y. before x y ≡ true) xs (length xs)
  adjacent_from_sorted [] s k d l = absurd (omega arith)
  adjacent_from_sorted (x ∷ []) s k d l = absurd (omega arith)
  adjacent_from_sorted (x ∷ y ∷ ys) s zero d l = sorted_next x (y ∷ ys) s
  adjacent_from_sorted (x ∷ y ∷ ys) s (suc k) d l =
      let e : suc (k + 1) ≡ suc k + 1 = omega arith in
      subst (λ n. before (get_or (y ∷ ys) k d) (get_or (x ∷ y ∷ ys) n d) ≡ true) e (adjacent_from_sorted (y ∷ ys) (sorted_tail x (y ∷ ys) s) k d (omega arith))

  pub sorted_from_adjacent : (xs : List A) → AllAdjacentBelow (λ x y. before x y ≡ true) xs (length xs) → is_sorted_by before xs ≡ true
  sorted_from_adjacent [] h = refl
  sorted_from_adjacent (x ∷ []) h = refl
  sorted_from_adjacent (x ∷ y ∷ ys) h = both_true (h 0 x (omega arith)) (sorted_from_adjacent (y ∷ ys) (λ k d l.
      let e : suc k + 1 ≡ suc (k + 1) = omega arith in
      subst (λ n. before (get_or (y ∷ ys) k d) (get_or (x ∷ y ∷ ys) n d) ≡ true) e (h (suc k) d (omega arith))))

  -- two sorted lists, each member of the first before each member of the second
  pub append-is_sorted : (xs ys : List A) → All (λ x. All (λ y. before x y ≡ true) ys) xs → is_sorted_by before xs ≡ true → is_sorted_by before ys ≡ true → is_sorted_by before (xs ++ ys) ≡ true
  append-is_sorted [] ys h s t = t
  append-is_sorted (x ∷ xs) ys h s t = both_true (next xs (sorted_next x xs s)) (append-is_sorted xs ys (All-tail (λ z. All (λ y. before z y ≡ true) ys) x xs h) (sorted_tail x xs s) t)
    where
      next : (zs : List A) → is_before_first before x zs ≡ true → is_before_first before x (zs ++ ys) ≡ true
      next [] e = before_first_from_all x ys (All-head (λ z. All (λ y. before z y ≡ true) ys) x xs h)
      next (z ∷ zs) e = e

  -- the parts of a sorted list are sorted
  pub sorted_front : (xs ys : List A) → is_sorted_by before (xs ++ ys) ≡ true → is_sorted_by before xs ≡ true
  sorted_front [] ys s = refl
  sorted_front (x ∷ xs) ys s = both_true (next xs (sorted_next x (xs ++ ys) s)) (sorted_front xs ys (sorted_tail x (xs ++ ys) s))
    where
      next : (zs : List A) → is_before_first before x (zs ++ ys) ≡ true → is_before_first before x zs ≡ true
      next [] e = refl
      next (z ∷ zs) e = e

  pub sorted_back : (xs ys : List A) → is_sorted_by before (xs ++ ys) ≡ true → is_sorted_by before ys ≡ true
  sorted_back [] ys s = s
  sorted_back (x ∷ xs) ys s = sorted_back xs ys (sorted_tail x (xs ++ ys) s)

-- ---- inserting and sorting

module _ {A : Type 0} (before : A → A → Bool) where
  -- they only move elements
  pub insert_by-permutation : (x : A) (ys : List A) → IsPermutation (x ∷ ys) (insert_by before x ys)
  insert_by-permutation x [] = IsPermutation-refl (x ∷ [])
  insert_by-permutation x (y ∷ ys) = by (before x y) (insert_by-permutation x ys)
    where
      by : (b : Bool) → IsPermutation (x ∷ ys) (insert_by before x ys) → IsPermutation (x ∷ y ∷ ys) (cond b (x ∷ y ∷ ys) (y ∷ insert_by before x ys))
      by true h = IsPermutation-refl (x ∷ y ∷ ys)
      by false h = IsPermutation-trans (x ∷ y ∷ ys) (y ∷ x ∷ ys) (y ∷ insert_by before x ys) (IsPermutation-middle (x ∷ []) y ys) (IsPermutation-cons y (x ∷ ys) (insert_by before x ys) h)

  pub sort_by-permutation : (xs : List A) → IsPermutation xs (sort_by before xs)
  sort_by-permutation [] = IsPermutation-refl []
  sort_by-permutation (x ∷ xs) = IsPermutation-trans (x ∷ xs) (x ∷ sort_by before xs) (insert_by before x (sort_by before xs))
      (IsPermutation-cons x xs (sort_by before xs) (sort_by-permutation xs)) (insert_by-permutation x (sort_by before xs))

  -- so the members, their number and their counts stay
  pub length-sort_by : (xs : List A) → length (sort_by before xs) ≡ length xs
  length-sort_by xs = length_permutation xs (sort_by before xs) (sort_by-permutation xs)

  pub All-sort_by : (P : A → Type 0) (xs : List A) → All P xs → All P (sort_by before xs)
  All-sort_by P xs h = All-permutation P xs (sort_by before xs) (sort_by-permutation xs) h

  pub All-from_sort_by : (P : A → Type 0) (xs : List A) → All P (sort_by before xs) → All P xs
  All-from_sort_by P xs h = All-permutation P (sort_by before xs) xs (IsPermutation-sym xs (sort_by before xs) (sort_by-permutation xs)) h

  pub Contains-sort_by : (xs : List A) (x : A) → Contains xs x → Contains (sort_by before xs) x
  Contains-sort_by xs x h = Contains-permutation xs (sort_by before xs) x (sort_by-permutation xs) h

  pub Contains-from_sort_by : (xs : List A) (x : A) → Contains (sort_by before xs) x → Contains xs x
  Contains-from_sort_by xs x h = Contains-permutation (sort_by before xs) xs x (IsPermutation-sym xs (sort_by before xs) (sort_by-permutation xs)) h

  pub list_any-sort_by : (p : A → Bool) (xs : List A) → list_any p (sort_by before xs) ≡ list_any p xs
  list_any-sort_by p xs = sym (list_any-IsPermutation p xs (sort_by before xs) (sort_by-permutation xs))

  pub sum_by-sort_by : (f : A → ℕ) (xs : List A) → sum_by f (sort_by before xs) ≡ sum_by f xs
  sum_by-sort_by f xs = sum_by-IsPermutation f xs (sort_by before xs) (sort_by-permutation xs)

  pub count_by-sort_by : (p : A → Bool) (xs : List A) → count_by p (sort_by before xs) ≡ count_by p xs
  count_by-sort_by p xs = sum_by-sort_by (λ x. cond (p x) 1 0) xs

  pub list_all-sort_by : (p : A → Bool) (xs : List A) → list_all p (sort_by before xs) ≡ list_all p xs
  list_all-sort_by p xs = by (list_all p (sort_by before xs)) (list_all p xs) refl refl
    where
      by : (a b : Bool) → list_all p (sort_by before xs) ≡ a → list_all p xs ≡ b → a ≡ b
      by true true e f = refl
      by false false e f = refl
      by true false e f = absurd (true≢false (sym (list_all-from_AllPass p xs (All-from_sort_by (λ x. p x ≡ true) xs (AllPass-from_list_all p (sort_by before xs) e))) ∙ f))
      by false true e f = absurd (true≢false (sym (list_all-from_AllPass p (sort_by before xs) (All-sort_by (λ x. p x ≡ true) xs (AllPass-from_list_all p xs f))) ∙ e))

  -- an element goes in front of the first member that it stands before
  pub insert_by-first : (x : A) (ys : List A) → is_before_first before x ys ≡ true → insert_by before x ys ≡ x ∷ ys
  insert_by-first x [] e = refl
  insert_by-first x (y ∷ ys) e = ap (λ (b : Bool). cond b (x ∷ y ∷ ys) (y ∷ insert_by before x ys)) e

  pub insert_by-between : (x : A) (front back : List A) → All (λ y. before x y ≡ false) front → is_before_first before x back ≡ true → insert_by before x (front ++ back) ≡ front ++ x ∷ back
  insert_by-between x [] back h e = insert_by-first x back e
  insert_by-between x (y ∷ front) back h e =
      ap (λ (b : Bool). cond b (x ∷ y ∷ (front ++ back)) (y ∷ insert_by before x (front ++ back))) (All-head (λ z. before x z ≡ false) y front h)
      ∙ ap (λ zs. y ∷ zs) (insert_by-between x front back (All-tail (λ z. before x z ≡ false) y front h) e)

  -- a sorted list is its own sorting
  pub sort_by-sorted : (xs : List A) → is_sorted_by before xs ≡ true → sort_by before xs ≡ xs
  sort_by-sorted [] s = refl
  sort_by-sorted (x ∷ xs) s = ap (insert_by before x) (sort_by-sorted xs (sorted_tail before x xs s)) ∙ insert_by-first x xs (sorted_next before x xs s)

  -- what is put into a sorted list, of whose members each is in some order with it, leaves it sorted
  next_after_insert : (x y : A) (ys : List A) → before y x ≡ true → is_before_first before y ys ≡ true → is_before_first before y (insert_by before x ys) ≡ true
  next_after_insert x y [] e f = e
  next_after_insert x y (z ∷ zs) e f = by (before x z)
    where
      by : (b : Bool) → is_before_first before y (cond b (x ∷ z ∷ zs) (z ∷ insert_by before x zs)) ≡ true
      by true = e
      by false = f

  pub insert_by-is_sorted : (x : A) (ys : List A) → All (λ y. (before x y || before y x) ≡ true) ys → is_sorted_by before ys ≡ true → is_sorted_by before (insert_by before x ys) ≡ true
  insert_by-is_sorted x [] h s = refl
  insert_by-is_sorted x (y ∷ ys) h s = by (before x y) refl (insert_by-is_sorted x ys (All-tail (λ y. (before x y || before y x) ≡ true) y ys h) (sorted_tail before y ys s))
    where
      by : (b : Bool) → before x y ≡ b → is_sorted_by before (insert_by before x ys) ≡ true → is_sorted_by before (cond b (x ∷ y ∷ ys) (y ∷ insert_by before x ys)) ≡ true
      by true e k = both_true e s
      by false e k =
          let other = subst (λ (b : Bool). (b || before y x) ≡ true) e (All-head (λ y. (before x y || before y x) ≡ true) y ys h) in
          both_true (next_after_insert x y ys other (sorted_next before y ys s)) k

  -- where each two members are in some order, sorting sorts
  pub sort_by-is_sorted : (xs : List A) → AllPairs (λ x y. (before x y || before y x) ≡ true) xs → is_sorted_by before (sort_by before xs) ≡ true
  sort_by-is_sorted [] h = refl
  sort_by-is_sorted (x ∷ xs) h = insert_by-is_sorted x (sort_by before xs)
      (All-sort_by (λ y. (before x y || before y x) ≡ true) xs (λ k d l. h 0 (suc k) d (omega arith) (omega arith)))
      (sort_by-is_sorted xs (λ i j d l m. h (suc i) (suc j) d (omega arith) (omega arith)))

-- each two members are in some order where no two are equal and the order decides between any others
pub all_pairs_decided : {A : Type 0} (P : A → Type 0) (before : A → A → Bool) → ((x y : A) → P x → P y → before x y ≡ false → before y x ≡ false → x ≡ y) → (xs : List A) → All P xs → AllPairs (λ x y. x ≢ y) xs
    → AllPairs (λ x y. (before x y || before y x) ≡ true) xs
all_pairs_decided P before decided xs ps apart i j d less short =
    let x = get_or xs i d in
    let y = get_or xs j d in
    by (before x y) (before y x) (decided x y (ps i d (omega arith)) (ps j d short)) (apart i j d less short)
  where
    by : {Q : Type 0} (a b : Bool) → (a ≡ false → b ≡ false → Q) → (Q → ⊥) → (a || b) ≡ true
    by true b f g = refl
    by false true f g = refl
    by false false f g = absurd (g (f refl refl))

-- ---- what is left out, and what is mapped

-- what a filter keeps of a sorted list is sorted
pub filter-is_sorted : {A : Type 0} {P : A → Type 0} {before : A → A → Bool} → IsStrictOrderOn P before → (p : A → Bool) (xs : List A) → All P xs → is_sorted_by before xs ≡ true → is_sorted_by before (filter p xs) ≡ true
filter-is_sorted o p [] ps s = refl
filter-is_sorted {A} {P} {before} o p (x ∷ xs) ps s = by (p x) (filter-is_sorted o p xs (All-tail P x xs ps) (sorted_tail before x xs s))
  where
    by : (b : Bool) → is_sorted_by before (filter p xs) ≡ true → is_sorted_by before (cond b (x ∷ filter p xs) (filter p xs)) ≡ true
    by true k = sorted_cons before x (filter p xs) (All-filter p (λ y. before x y ≡ true) xs (sorted_head before o x xs (All-head P x xs ps) (All-tail P x xs ps) s)) k
    by false k = k

-- and filtering goes through sorting, where each two members are in some order
module _ {A : Type 0} {P : A → Type 0} {before : A → A → Bool} (o : IsStrictOrderOn P before) (p : A → Bool) where
  pub filter-insert_by : (x : A) (ys : List A) → P x → All P ys → is_sorted_by before ys ≡ true → filter p (insert_by before x ys) ≡ cond (p x) (insert_by before x (filter p ys)) (filter p ys)
  filter-insert_by x [] px ps s = refl
  filter-insert_by x (y ∷ ys) px ps s = by (before x y) refl (filter-insert_by x ys px qs (sorted_tail before y ys s))
    where
      py : P y
      py = All-head P y ys ps

      qs : All P ys
      qs = All-tail P y ys ps

      goes_first : (c : Bool) → before x y ≡ true → x ∷ cond c (y ∷ filter p ys) (filter p ys) ≡ insert_by before x (cond c (y ∷ filter p ys) (filter p ys))
      goes_first true e = sym (insert_by-first before x (y ∷ filter p ys) e)
      goes_first false e = sym (insert_by-first before x (filter p ys) (before_first_from_all before x (filter p ys)
          (All-filter p (λ z. before x z ≡ true) ys (λ k d l. o.passes x y (get_or ys k d) px py (qs k d l) e (sorted_head before o y ys py qs s k d l)))))

      goes_later : (a c : Bool) → before x y ≡ false → filter p (insert_by before x ys) ≡ cond a (insert_by before x (filter p ys)) (filter p ys)
          → cond c (y ∷ filter p (insert_by before x ys)) (filter p (insert_by before x ys)) ≡ cond a (insert_by before x (cond c (y ∷ filter p ys) (filter p ys))) (cond c (y ∷ filter p ys) (filter p ys))
      goes_later a false e h = h
      goes_later true true e h = ap (λ zs. y ∷ zs) h ∙ sym (ap (λ (t : Bool). cond t (x ∷ y ∷ filter p ys) (y ∷ insert_by before x (filter p ys))) e)
      goes_later false true e h = ap (λ zs. y ∷ zs) h

      by : (b : Bool) → before x y ≡ b → filter p (insert_by before x ys) ≡ cond (p x) (insert_by before x (filter p ys)) (filter p ys)
          → filter p (cond b (x ∷ y ∷ ys) (y ∷ insert_by before x ys)) ≡ cond (p x) (insert_by before x (cond (p y) (y ∷ filter p ys) (filter p ys))) (cond (p y) (y ∷ filter p ys) (filter p ys))
      by true e h = ap (λ zs. cond (p x) zs (cond (p y) (y ∷ filter p ys) (filter p ys))) (goes_first (p y) e)
      by false e h = goes_later (p x) (p y) e h

  pub filter-sort_by : (xs : List A) → All P xs → AllPairs (λ x y. (before x y || before y x) ≡ true) xs → filter p (sort_by before xs) ≡ sort_by before (filter p xs)
  filter-sort_by [] ps h = refl
  filter-sort_by (x ∷ xs) ps h =
      let later : AllPairs (λ x y. (before x y || before y x) ≡ true) xs = λ i j d l m. h (suc i) (suc j) d (omega arith) (omega arith) in
      filter-insert_by x (sort_by before xs) (All-head P x xs ps) (All-sort_by before P xs (All-tail P x xs ps)) (sort_by-is_sorted before xs later)
      ∙ by (p x) (filter-sort_by xs (All-tail P x xs ps) later)
    where
      by : (b : Bool) → filter p (sort_by before xs) ≡ sort_by before (filter p xs) → cond b (insert_by before x (filter p (sort_by before xs))) (filter p (sort_by before xs)) ≡ sort_by before (cond b (x ∷ filter p xs) (filter p xs))
      by true e = ap (insert_by before x) e
      by false e = e

-- a map that keeps the order of the elements that P holds of goes through sorting
module _ {A B : Type 0} (P : A → Type 0) (before : A → A → Bool) (after : B → B → Bool) (f : A → B) (same : (x y : A) → P x → P y → after (f x) (f y) ≡ before x y) where
  pub map-insert_by : (x : A) (ys : List A) → P x → All P ys → map f (insert_by before x ys) ≡ insert_by after (f x) (map f ys)
  map-insert_by x [] p ps = refl
  map-insert_by x (y ∷ ys) p ps = by (before x y) (after (f x) (f y)) (same x y p (All-head P y ys ps)) (map-insert_by x ys p (All-tail P y ys ps))
    where
      by : (b c : Bool) → c ≡ b → map f (insert_by before x ys) ≡ insert_by after (f x) (map f ys)
          → map f (cond b (x ∷ y ∷ ys) (y ∷ insert_by before x ys)) ≡ cond c (f x ∷ f y ∷ map f ys) (f y ∷ insert_by after (f x) (map f ys))
      by true true e h = refl
      by true false e h = absurd (true≢false (sym e))
      by false true e h = absurd (true≢false e)
      by false false e h = ap (λ zs. f y ∷ zs) h

  pub map-sort_by : (xs : List A) → All P xs → map f (sort_by before xs) ≡ sort_by after (map f xs)
  map-sort_by [] ps = refl
  map-sort_by (x ∷ xs) ps =
      map-insert_by x (sort_by before xs) (All-head P x xs ps) (All-sort_by before P xs (All-tail P x xs ps))
      ∙ ap (insert_by after (f x)) (map-sort_by xs (All-tail P x xs ps))

  -- and keeps a sorted list sorted
  pub map-is_sorted : (xs : List A) → All P xs → is_sorted_by after (map f xs) ≡ is_sorted_by before xs
  map-is_sorted [] ps = refl
  map-is_sorted (x ∷ xs) ps = ap₂ (λ a b. a && b) (next xs (All-tail P x xs ps)) (map-is_sorted xs (All-tail P x xs ps))
    where
      next : (ys : List A) → All P ys → is_before_first after (f x) (map f ys) ≡ is_before_first before x ys
      next [] qs = refl
      next (y ∷ ys) qs = same x y (All-head P x xs ps) (All-head P y ys qs)

-- two tests that agree on the members sort alike
module _ {A : Type 0} (P : A → Type 0) (before after : A → A → Bool) (same : (x y : A) → P x → P y → after x y ≡ before x y) where
  pub sort_by-agree : (xs : List A) → All P xs → sort_by before xs ≡ sort_by after xs
  sort_by-agree xs ps = sym (map-id (sort_by before xs)) ∙ map-sort_by P before after (λ x. x) same xs ps ∙ ap (sort_by after) (map-id xs)

  pub is_sorted_by-agree : (xs : List A) → All P xs → is_sorted_by after xs ≡ is_sorted_by before xs
  is_sorted_by-agree xs ps = ap (is_sorted_by after) (sym (map-id xs)) ∙ map-is_sorted P before after (λ x. x) same xs ps

-- ---- only one list is sorted and has these members

in_head : {A : Type 0} (x : A) (xs : List A) → Contains (x ∷ xs) x
in_head x xs = (0, omega arith, refl)

in_tail : {A : Type 0} (y : A) (ys : List A) (x : A) → Contains ys x → Contains (y ∷ ys) x
in_tail y ys x (k, l, e) = (suc k, omega arith, e)

in_cases : {A : Type 0} (y : A) (ys : List A) (x : A) → Contains (y ∷ ys) x → (y ≡ x) ⊎ Contains ys x
in_cases y ys x (zero, l, e) = inl e
in_cases y ys x (suc k, l, e) = inr (k, omega arith, e)

-- two sorted lists with the same members are equal
pub sorted_same : {A : Type 0} {P : A → Type 0} {before : A → A → Bool} → IsStrictOrderOn P before → (xs ys : List A) → All P xs → All P ys → is_sorted_by before xs ≡ true → is_sorted_by before ys ≡ true
    → ((z : A) → Contains xs z → Contains ys z) → ((z : A) → Contains ys z → Contains xs z) → xs ≡ ys
sorted_same o [] [] ps qs s t into back = refl
sorted_same o [] (y ∷ ys) ps qs s t into back = let c = back y (in_head y ys) in absurd (omega (arith, c.1))
sorted_same o (x ∷ xs) [] ps qs s t into back = let c = into x (in_head x xs) in absurd (omega (arith, c.1))
sorted_same {A} {P} {before} o (x ∷ xs) (y ∷ ys) ps qs s t into back =
    let e = heads in ap (λ z. z ∷ xs) e ∙ ap (λ zs. y ∷ zs) (sorted_same o xs ys (All-tail P x xs ps) (All-tail P y ys qs) (sorted_tail before x xs s) (sorted_tail before y ys t) (tails_into e) (tails_back e))
  where
    px : P x
    px = All-head P x xs ps

    py : P y
    py = All-head P y ys qs

    after_x : All (λ z. before x z ≡ true) xs
    after_x = sorted_head before o x xs px (All-tail P x xs ps) s

    after_y : All (λ z. before y z ≡ true) ys
    after_y = sorted_head before o y ys py (All-tail P y ys qs) t

    never : {z : A} → P z → before z z ≡ true → ⊥
    never {z} p e = true≢false (sym e ∙ o.itself z p)

    heads : x ≡ y
    heads = ⊎_elim sym
        (λ c. ⊎_elim (λ e. e)
        (λ d. absurd (never px (o.passes x y x px py px (All-contains (λ z. before x z ≡ true) xs y after_x d) (All-contains (λ z. before y z ≡ true) ys x after_y c))))
        (in_cases x xs y (back y (in_head y ys))))
        (in_cases y ys x (into x (in_head x xs)))

    tails_into : x ≡ y → (z : A) → Contains xs z → Contains ys z
    tails_into e z c = ⊎_elim (λ f. absurd (never px (subst (λ w. before x w ≡ true) (sym f ∙ sym e) (All-contains (λ z. before x z ≡ true) xs z after_x c)))) (λ d. d) (in_cases y ys z (into z (in_tail x xs z c)))

    tails_back : x ≡ y → (z : A) → Contains ys z → Contains xs z
    tails_back e z c = ⊎_elim (λ f. absurd (never py (subst (λ w. before y w ≡ true) (sym f ∙ e) (All-contains (λ z. before y z ≡ true) ys z after_y c)))) (λ d. d) (in_cases x xs z (back z (in_tail y ys z c)))

-- two sorted permutations of one another are equal
pub sorted_permutation : {A : Type 0} {P : A → Type 0} {before : A → A → Bool} → IsStrictOrderOn P before → (xs ys : List A) → All P xs → is_sorted_by before xs ≡ true → is_sorted_by before ys ≡ true → IsPermutation xs ys → xs ≡ ys
sorted_permutation {A} {P} {before} o xs ys ps s t h =
    sorted_same o xs ys ps (All-permutation P xs ys h ps) s t (λ z c. Contains-permutation xs ys z h c) (λ z c. Contains-permutation ys xs z (IsPermutation-sym xs ys h) c)

-- ---- permutations

-- where an element of the swapped list stood before
source : {A : Type 0} (xs : List A) (i j : ℕ) (d : A) → i < length xs → j < length xs → (m : ℕ) → m < length xs
    → (n : ℕ) × (n < length xs) × (get_or (swap xs i j) m d ≡ get_or xs n d) × (((m ≡ i) × (n ≡ j)) ⊎ (((m ≡ j) × (n ≡ i)) ⊎ ((m ≢ i) × (m ≢ j) × (n ≡ m))))
source xs i j d p q m l =
    let w = swapped_from_swap xs (swap xs i j) i j d p q refl in
    ⊎_elim (λ e. (j, q, ap (λ k. get_or (swap xs i j) k d) e ∙ w.0, inl (e, refl)))
    (λ a. ⊎_elim (λ e. (i, p, ap (λ k. get_or (swap xs i j) k d) e ∙ w.1, inr (inl (e, refl)))) (λ b. (m, l, w.2 m a b, inr (inr (a, b, refl)))) (cases_eq m j))
    (cases_eq m i)

-- a relation between each two members that goes both ways stays in a permutation
pub AllPairs-permutation : {A : Type 0} (R : A → A → Type 0) → ((x y : A) → R x y → R y x) → (xs ys : List A) → IsPermutation xs ys → AllPairs R xs → AllPairs R ys
AllPairs-permutation {A} R back xs ys h pairs = IsPermutation-keeps xs (AllPairs R) pairs step ys h
  where
    apart : (l : List A) → AllPairs R l → (m n : ℕ) (d : A) → m ≢ n → m < length l → n < length l → R (get_or l m d) (get_or l n d)
    apart l all m n d ne p q = by_lt m n (λ less. all m n d less q) (λ e. absurd (ne e)) (λ more. back (get_or l n d) (get_or l m d) (all n m d more p))
      where
        by_lt : {P : Type 0} (m n : ℕ) → (m < n → P) → (m ≡ n → P) → (n < m → P) → P
        by_lt m n f g h = ⊎_elim f (λ le. ⊎_elim (λ e. g e) (λ ne. h (omega arith)) (cases_eq m n)) (cases_lt m n)

    step : (l : List A) (i j : ℕ) → i < length l → j < length l → AllPairs R l → AllPairs R (swap l i j)
    step l i j p q all a b d less short =
        let long = length-swap l i j in
        let s = source l i j d p q a (omega arith) in
        let t = source l i j d p q b (omega arith) in
        subst₂ R (sym s.2) (sym t.2) (apart l all s.0 t.0 d (two_places a b i j s.0 t.0 less s.3 t.3) s.1 t.1)
      where
        two_places : (a b i j m n : ℕ) → a < b → ((a ≡ i) × (m ≡ j)) ⊎ (((a ≡ j) × (m ≡ i)) ⊎ ((a ≢ i) × (a ≢ j) × (m ≡ a))) → ((b ≡ i) × (n ≡ j)) ⊎ (((b ≡ j) × (n ≡ i)) ⊎ ((b ≢ i) × (b ≢ j) × (n ≡ b))) → m ≢ n
        two_places a b i j m n less (inl e) (inl f) g = omega arith
        two_places a b i j m n less (inl e) (inr (inl f)) g = omega arith
        two_places a b i j m n less (inl e) (inr (inr f)) g = omega arith
        two_places a b i j m n less (inr (inl e)) (inl f) g = omega arith
        two_places a b i j m n less (inr (inl e)) (inr (inl f)) g = omega arith
        two_places a b i j m n less (inr (inl e)) (inr (inr f)) g = omega arith
        two_places a b i j m n less (inr (inr e)) (inl f) g = omega arith
        two_places a b i j m n less (inr (inr e)) (inr (inl f)) g = omega arith
        two_places a b i j m n less (inr (inr e)) (inr (inr f)) g = omega arith

-- in a sorted list each member stands before all that follow
pub sorted_pairs : {A : Type 0} {P : A → Type 0} {before : A → A → Bool} → IsStrictOrderOn P before → (xs : List A) → All P xs → is_sorted_by before xs ≡ true → AllPairs (λ x y. before x y ≡ true) xs
sorted_pairs o [] ps s i j d less short = absurd (omega arith)
sorted_pairs {A} {P} {before} o (x ∷ xs) ps s zero zero d less short = absurd (omega arith)
sorted_pairs {A} {P} {before} o (x ∷ xs) ps s zero (suc j) d less short = sorted_head before o x xs (All-head P x xs ps) (All-tail P x xs ps) s j d (omega arith)
sorted_pairs {A} {P} {before} o (x ∷ xs) ps s (suc i) zero d less short = absurd (omega arith)
sorted_pairs {A} {P} {before} o (x ∷ xs) ps s (suc i) (suc j) d less short = sorted_pairs o xs (All-tail P x xs ps) (sorted_tail before x xs s) i j d (omega arith) (omega arith)

-- a sorted permutation of a list is its sorting
pub sort_by-permuted : {A : Type 0} {P : A → Type 0} {before : A → A → Bool} → IsStrictOrderOn P before → (xs ys : List A) → All P xs → is_sorted_by before ys ≡ true → IsPermutation xs ys → sort_by before xs ≡ ys
sort_by-permuted {A} {P} {before} o xs ys ps t h =
    let back = IsPermutation-sym xs ys h in
    let sorted = sort_by-is_sorted before xs (AllPairs-permutation (λ x y. (before x y || before y x) ≡ true) (λ x y. turned (before x y) (before y x)) ys xs back
    (λ i j d less short. either (before (get_or ys i d) (get_or ys j d)) (before (get_or ys j d) (get_or ys i d)) (sorted_pairs o ys (All-permutation P xs ys h ps) t i j d less short))) in
    sorted_permutation o (sort_by before xs) ys (All-sort_by before P xs ps) sorted t (IsPermutation-trans (sort_by before xs) xs ys (IsPermutation-sym xs (sort_by before xs) (sort_by-permutation before xs)) h)
  where
    turned : (a b : Bool) → (a || b) ≡ true → (b || a) ≡ true
    turned a true e = refl
    turned true false e = refl
    turned false false e = e

    either : (a b : Bool) → a ≡ true → (a || b) ≡ true
    either a b e = ap (λ (c : Bool). c || b) e
