-- Members of lists that are filtered, mapped, sorted or made distinct; sums over them; numbers of a range; orders by two keys.
use Rattle.std.proofs.Common.{◌≡◌, ◌⊎◌, inl, inr, ℕ, zero, suc, ◌+◌, ◌<◌, ◌≤◌, ◌==◌, ◌&&◌, ◌||◌, Bool, true, false, cond, List, [], ◌∷◌, map, filter, length, get_or, All, sum_by, refl, sym, ap, ◌∙◌, subst, arith}
use Rattle.std.specs.Prelude.{⊤, count_by, flat_map, find, Some, if◌then◌else◌}
use Rattle.std.specs.List.{list_all, list_any, range_with_len}
use Rattle.std.proofs.lemmas.Bool.{and_parts, and_cases, and_from, and_right, or_cases, or_from, or_left, or_right, true≢false, eq-eqb, ne_eqb, cases_eq, cases_lt}
use Rattle.std.proofs.lemmas.List.Elements.{All-head, All-tail}
use Rattle.std.proofs.lemmas.List.FromFn.{fill_by_all}
use Rattle.std.proofs.lemmas.List.Sums.{sum_by-cons, sum_by-append}
use Rattle.lemmas.specs.Sorting.{insert_by, sort_by, is_before_first, is_sorted_by, IsStrictOrderOn}
use Rattle.lemmas.proofs.Counts.{sum_by-map, sum_by-agree, sum_by-filter}
use Rattle.lemmas.proofs.Sorting.{insert_by-is_sorted}
use Rattle.lemmas.specs.Ascending.{insert_once, distinct_by}
use Rattle.map_laws.proofs.ChainMembers.{Among, any_among, among_left, among_right, count_passes, count_fails, among_counts, counted_among}

-- each two members, the first of them earlier in the list, stand in the relation
abbrev pub ArePairs : {A : Type 0} → (A → A → Type 0) → List A → Type 0
ArePairs R [] = Unit {0}
ArePairs {A} R (x ∷ xs) = ((y : A) → Among y xs → R x y) × ArePairs R xs

module _ {A : Type 0} where
  -- ---- members and tests

  -- what holds of each member, by its place
  pub all_members : (P : A → Type 0) (xs : List A) → ((x : A) → Among x xs → P x) → All P xs
  all_members P [] h k d l = absurd (omega arith)
  all_members P (x ∷ xs) h zero d l = h x (inl refl)
  all_members P (x ∷ xs) h (suc k) d l = all_members P xs (λ y m. h y (inr m)) k d (omega arith)

  -- and what holds at each place holds of each member
  pub members_all : (P : A → Type 0) (xs : List A) (x : A) → All P xs → Among x xs → P x
  members_all P [] x h m = absurd m
  members_all P (y ∷ ys) x h (inl e) = subst P e (All-head P y ys h)
  members_all P (y ∷ ys) x h (inr m) = members_all P ys x (All-tail P y ys h) m

  -- a test that each member passes
  pub all_from : (p : A → Bool) (xs : List A) → ((x : A) → Among x xs → p x ≡ true) → list_all p xs ≡ true
  all_from p [] h = refl
  all_from p (x ∷ xs) h = and_from (p x) (list_all p xs) (h x (inl refl)) (all_from p xs (λ y m. h y (inr m)))

  -- a test that one member passes
  pub any_from : (p : A → Bool) (xs : List A) (x : A) → Among x xs → p x ≡ true → list_any p xs ≡ true
  any_from p [] x m e = absurd m
  any_from p (y ∷ ys) x (inl s) e = or_left (p y) (list_any p ys) (ap p s ∙ e)
  any_from p (y ∷ ys) x (inr m) e = or_right (p y) (list_any p ys) (any_from p ys x m e)

  -- where not all pass a test, some member fails it
  pub some_fails : (p : A → Bool) (xs : List A) → list_all p xs ≡ false → (x : A) × Among x xs × (p x ≡ false)
  some_fails p [] h = absurd cc
  some_fails p (x ∷ xs) h = elim (and_cases (p x) (list_all p xs) h) [
    | inl e ↦ (x, inl refl, e)
    | inr e ↦ (let n = some_fails p xs e in (n.0, inr n.1, n.2))
  ]

  -- a member that is kept was one before
  pub kept_among : (p : A → Bool) (xs : List A) (x : A) → Among x (filter p xs) → Among x xs
  kept_among p [] x m = m
  kept_among p (y ∷ ys) x m = by (p y) m (kept_among p ys x)
    where
      by : (b : Bool) → Among x (cond b (y ∷ filter p ys) (filter p ys)) → (Among x (filter p ys) → Among x ys) → Among x (y ∷ ys)
      by true (inl e) f = inl e
      by true (inr n) f = inr (f n)
      by false n f = inr (f n)

  -- one that passes the test is kept
  pub among_kept : (p : A → Bool) (xs : List A) (x : A) → Among x xs → p x ≡ true → Among x (filter p xs)
  among_kept p [] x m e = m
  among_kept p (y ∷ ys) x (inl s) e =
      subst (λ (b : Bool). Among x (cond b (y ∷ filter p ys) (filter p ys))) (sym (ap p s ∙ e)) (inl s)
  among_kept p (y ∷ ys) x (inr m) e = by (p y) (among_kept p ys x m e)
    where
      by : (b : Bool) → Among x (filter p ys) → Among x (cond b (y ∷ filter p ys) (filter p ys))
      by true n = inr n
      by false n = n

  -- pairs of members that are kept are pairs of members
  pub pairs_kept : (R : A → A → Type 0) (p : A → Bool) (xs : List A) → ArePairs R xs → ArePairs R (filter p xs)
  pairs_kept R p [] h = tt
  pairs_kept R p (x ∷ xs) h = by (p x) (pairs_kept R p xs h.1)
    where
      by : (b : Bool) → ArePairs R (filter p xs) → ArePairs R (cond b (x ∷ filter p xs) (filter p xs))
      by true k = ((λ y m. h.0 y (kept_among p xs y m)), k)
      by false k = k

  -- pairs in a weaker relation
  pub pairs_weaker : (R S : A → A → Type 0) → ((x y : A) → R x y → S x y) → (xs : List A) → ArePairs R xs → ArePairs S xs
  pairs_weaker R S on [] h = tt
  pairs_weaker R S on (x ∷ xs) h = ((λ y m. on x y (h.0 y m)), pairs_weaker R S on xs h.1)

  -- pairs in a relation that is weaker for the members of the list
  pub pairs_of : (R S : A → A → Type 0) (xs : List A) → ((x y : A) → Among x xs → Among y xs → R x y → S x y) → ArePairs R xs → ArePairs S xs
  pairs_of R S [] on h = tt
  pairs_of R S (x ∷ xs) on h = (
    (λ y m. on x y (inl refl) (inr m) (h.0 y m)),
    pairs_of R S xs (λ y z m n r. on y z (inr m) (inr n) r) h.1,
  )

  -- ---- sums

  -- where each member counts nothing the sum is nothing
  pub sum_nothing : (f : A → ℕ) (xs : List A) → ((x : A) → Among x xs → f x ≡ 0) → sum_by f xs ≡ 0
  sum_nothing f [] h = refl
  sum_nothing f (x ∷ xs) h = omega (arith, sum_by-cons f x xs, h x (inl refl), sum_nothing f xs (λ y m. h y (inr m)))

  -- a member counts no more than all
  pub sum_member : (f : A → ℕ) (xs : List A) (x : A) → Among x xs → f x ≤ sum_by f xs
  sum_member f [] x m = absurd m
  sum_member f (y ∷ ys) x (inl e) =
      let same : f y ≡ f x = ap f e in
      omega (arith, sum_by-cons f y ys)
  sum_member f (y ∷ ys) x (inr m) = omega (arith, sum_by-cons f y ys, sum_member f ys x m)

  -- where a sum is something, some member counts
  pub sum_some : (f : A → ℕ) (xs : List A) → 1 ≤ sum_by f xs → (x : A) × Among x xs × (1 ≤ f x)
  sum_some f [] l = absurd (omega arith)
  sum_some f (x ∷ xs) l = by (cases_lt 0 (f x)) (λ m. sum_some f xs m)
    where
      by : (0 < f x) ⊎ (f x ≤ 0) → (1 ≤ sum_by f xs → (y : A) × Among y xs × (1 ≤ f y)) → (y : A) × Among y (x ∷ xs) × (1 ≤ f y)
      by (inl m) rest = (x, inl refl, m)
      by (inr m) rest = let n = rest (omega (arith, sum_by-cons f x xs)) in (n.0, inr n.1, n.2)

  -- where two functions agree on the members, so do their sums
  pub sum_agree : (f g : A → ℕ) (xs : List A) → ((x : A) → Among x xs → f x ≡ g x) → sum_by f xs ≡ sum_by g xs
  sum_agree f g xs h = sum_by-agree f g xs (all_members (λ x. f x ≡ g x) xs h)

  -- and where one is no more than the other at each member, so is its sum
  pub sum_less : (f g : A → ℕ) (xs : List A) → ((x : A) → Among x xs → f x ≤ g x) → sum_by f xs ≤ sum_by g xs
  sum_less f g [] h = omega arith
  sum_less f g (x ∷ xs) h = omega (arith, sum_by-cons f x xs, sum_by-cons g x xs, h x (inl refl), sum_less f g xs (λ y m. h y (inr m)))

  -- a sum over all members of some lists
  pub sum_flat : (f : A → ℕ) (xss : List (List A)) → sum_by f (flat_map (λ c. c) xss) ≡ sum_by (λ c. sum_by f c) xss
  sum_flat f [] = refl
  sum_flat f (xs ∷ xss) =
      sum_by-append f xs (flat_map (λ c. c) xss) ∙ ap (λ n. sum_by f xs + n) (sum_flat f xss) ∙ sym (sum_by-cons (λ c. sum_by f c) xs xss)

  -- a sum over the places of a list
  pub sum_places : (f : A → ℕ) (xs : List A) (d : A) → sum_by (λ i. f (get_or xs i d)) (range_with_len 0 (length xs)) ≡ sum_by f xs
  sum_places f xs d =
      sym (sum_by-map f (λ i. get_or xs i d) (range_with_len 0 (length xs)))
      ∙ ap (sum_by f) (sym (fill_by_all (λ i. get_or xs i d) xs (length xs) d refl (λ k l. refl)))

  -- of the places those whose element passes
  pub sum_passing : (f : A → ℕ) (p : A → Bool) (xs : List A) (d : A)
      → sum_by (λ i. f (get_or xs i d)) (filter (λ i. p (get_or xs i d)) (range_with_len 0 (length xs))) ≡ sum_by (λ x. cond (p x) (f x) 0) xs
  sum_passing f p xs d =
      sum_by-filter (λ i. f (get_or xs i d)) (λ i. p (get_or xs i d)) (range_with_len 0 (length xs)) ∙ sum_places (λ x. cond (p x) (f x) 0) xs d

-- ---- sorting

module _ {A : Type 0} (before : A → A → Bool) where
  -- the members stay
  insert_among : (x : A) (ys : List A) (z : A) → Among z (insert_by before x ys) → Among z (x ∷ ys)
  insert_among x [] z m = m
  insert_among x (y ∷ ys) z m = by (before x y) m (insert_among x ys z)
    where
      by : (b : Bool) → Among z (cond b (x ∷ y ∷ ys) (y ∷ insert_by before x ys)) → (Among z (insert_by before x ys) → Among z (x ∷ ys))
          → Among z (x ∷ y ∷ ys)
      by true n f = n
      by false (inl e) f = inr (inl e)
      by false (inr n) f = elim (f n) [ inl e ↦ inl e | inr o ↦ inr (inr o) ]

  among_insert : (x : A) (ys : List A) (z : A) → Among z (x ∷ ys) → Among z (insert_by before x ys)
  among_insert x [] z m = m
  among_insert x (y ∷ ys) z m = by (before x y) m (among_insert x ys z)
    where
      by : (b : Bool) → Among z (x ∷ y ∷ ys) → (Among z (x ∷ ys) → Among z (insert_by before x ys))
          → Among z (cond b (x ∷ y ∷ ys) (y ∷ insert_by before x ys))
      by true n f = n
      by false (inl e) f = inr (f (inl e))
      by false (inr (inl e)) f = inl e
      by false (inr (inr n)) f = inr (f (inr n))

  pub sort_among : (xs : List A) (z : A) → Among z (sort_by before xs) → Among z xs
  sort_among [] z m = m
  sort_among (x ∷ xs) z m = elim (insert_among x (sort_by before xs) z m) [ inl e ↦ inl e | inr n ↦ inr (sort_among xs z n) ]

  pub among_sort : (xs : List A) (z : A) → Among z xs → Among z (sort_by before xs)
  among_sort [] z m = m
  among_sort (x ∷ xs) z (inl e) = among_insert x (sort_by before xs) z (inl e)
  among_sort (x ∷ xs) z (inr m) = among_insert x (sort_by before xs) z (inr (among_sort xs z m))

  -- where each two members are in some order, sorting sorts
  pub sort_pairs : (xs : List A) → ArePairs (λ x y. (before x y || before y x) ≡ true) xs → is_sorted_by before (sort_by before xs) ≡ true
  sort_pairs [] h = refl
  sort_pairs (x ∷ xs) h =
      insert_by-is_sorted before x (sort_by before xs)
      (all_members (λ y. (before x y || before y x) ≡ true) (sort_by before xs) (λ y m. h.0 y (sort_among xs y m)))
      (sort_pairs xs h.1)

  -- in a sorted list each member stands before all that follow
  pub sorted_ascend : IsStrictOrderOn (λ (x : A). ⊤) before → (xs : List A) → is_sorted_by before xs ≡ true → ArePairs (λ x y. before x y ≡ true) xs
  sorted_ascend o [] s = tt
  sorted_ascend o (x ∷ xs) s = (first x xs s, sorted_ascend o xs (and_parts _ (is_sorted_by before xs) s).1)
    where
      first : (x : A) (xs : List A) → is_sorted_by before (x ∷ xs) ≡ true → (y : A) → Among y xs → before x y ≡ true
      first x [] s y m = absurd m
      first x (z ∷ zs) s y (inl e) = subst (λ w. before x w ≡ true) e (and_parts (before x z) (is_sorted_by before (z ∷ zs)) s).0
      first x (z ∷ zs) s y (inr m) =
          let parts = and_parts (before x z) (is_sorted_by before (z ∷ zs)) s in
          o.passes x z y tt tt tt parts.0 (first z zs parts.1 y m)

  -- ---- ascending lists of distinct elements

  once_first : (y x : A) (ys : List A) → before y x ≡ true → is_before_first before y ys ≡ true
      → is_before_first before y (insert_once before x ys) ≡ true
  once_first y x [] e f = e
  once_first y x (z ∷ zs) e f = by (before x z)
    where
      by : (b : Bool)
          → is_before_first before y (elim b [ true ↦ x ∷ z ∷ zs | false ↦ z ∷ elim (before z x) [ true ↦ insert_once before x zs | false ↦ zs ] ]) ≡ true
      by true = e
      by false = f

  once_sorted : (x : A) (ys : List A) → is_sorted_by before ys ≡ true → is_sorted_by before (insert_once before x ys) ≡ true
  once_sorted x [] s = refl
  once_sorted x (y ∷ ys) s = by (before x y) refl (before y x) refl (once_sorted x ys parts.1)
    where
      parts : (is_before_first before y ys ≡ true) × (is_sorted_by before ys ≡ true)
      parts = and_parts (is_before_first before y ys) (is_sorted_by before ys) s

      by : (b : Bool) → before x y ≡ b → (c : Bool) → before y x ≡ c → is_sorted_by before (insert_once before x ys) ≡ true
          → is_sorted_by before (elim b [ true ↦ x ∷ y ∷ ys | false ↦ y ∷ elim c [ true ↦ insert_once before x ys | false ↦ ys ] ]) ≡ true
      by true e c f k = and_from (before x y) (is_sorted_by before (y ∷ ys)) e s
      by false e true f k = and_from _ (is_sorted_by before (insert_once before x ys)) (once_first y x ys f parts.0) k
      by false e false f k = s

  pub distinct_sorted : (xs : List A) → is_sorted_by before (distinct_by before xs) ≡ true
  distinct_sorted [] = refl
  distinct_sorted (x ∷ xs) = once_sorted x (distinct_by before xs) (distinct_sorted xs)

  -- each member stays, where the order decides between any two
  module _ (decided : (x y : A) → before x y ≡ false → before y x ≡ false → x ≡ y) where
    among_once : (x : A) (ys : List A) (z : A) → Among z (x ∷ ys) → Among z (insert_once before x ys)
    among_once x [] z m = m
    among_once x (y ∷ ys) z m = by (before x y) refl (before y x) refl m (among_once x ys z)
      where
        by : (b : Bool) → before x y ≡ b → (c : Bool) → before y x ≡ c → Among z (x ∷ y ∷ ys)
            → (Among z (x ∷ ys) → Among z (insert_once before x ys))
            → Among z (elim b [ true ↦ x ∷ y ∷ ys | false ↦ y ∷ elim c [ true ↦ insert_once before x ys | false ↦ ys ] ])
        by true e c f n rest = n
        by false e true f (inl s) rest = inr (rest (inl s))
        by false e true f (inr (inl s)) rest = inl s
        by false e true f (inr (inr n)) rest = inr (rest (inr n))
        by false e false f (inl s) rest = inl (sym (decided x y e f) ∙ s)
        by false e false f (inr n) rest = n

    pub among_distinct : (xs : List A) (z : A) → Among z xs → Among z (distinct_by before xs)
    among_distinct [] z m = m
    among_distinct (x ∷ xs) z (inl e) = among_once x (distinct_by before xs) z (inl e)
    among_distinct (x ∷ xs) z (inr m) = among_once x (distinct_by before xs) z (inr (among_distinct xs z m))

-- ---- lists that are mapped or joined

-- a member of a mapped list is the value of a member
pub map_among : {A B : Type 0} (f : A → B) (xs : List A) (y : B) → Among y (map f xs) → (x : A) × Among x xs × (f x ≡ y)
map_among f [] y m = absurd m
map_among f (x ∷ xs) y (inl e) = (x, inl refl, e)
map_among f (x ∷ xs) y (inr m) = let n = map_among f xs y m in (n.0, inr n.1, n.2)

-- and the value of each member is one
pub among_map : {A B : Type 0} (f : A → B) (xs : List A) (x : A) → Among x xs → Among (f x) (map f xs)
among_map f [] x m = m
among_map f (y ∷ ys) x (inl e) = inl (ap f e)
among_map f (y ∷ ys) x (inr m) = inr (among_map f ys x m)

-- pairs of values, from pairs of members
pub pairs_mapped : {A B : Type 0} (R : B → B → Type 0) (f : A → B) (xs : List A) → ArePairs (λ x y. R (f x) (f y)) xs → ArePairs R (map f xs)
pairs_mapped R f [] h = tt
pairs_mapped R f (x ∷ xs) h = ((λ y m. let n = map_among f xs y m in subst (R (f x)) n.2 (h.0 n.0 n.1)), pairs_mapped R f xs h.1)

-- what is made of a member is among what is made of all
pub among_flat : {A B : Type 0} (f : A → List B) (xs : List A) (x : A) (y : B) → Among x xs → Among y (f x) → Among y (flat_map f xs)
among_flat f [] x y m n = absurd m
among_flat f (z ∷ zs) x y (inl e) n = among_left (f z) (flat_map f zs) y (subst (λ w. Among y (f w)) (sym e) n)
among_flat f (z ∷ zs) x y (inr m) n = among_right (f z) (flat_map f zs) y (among_flat f zs x y m n)

-- ---- numbers of a range

-- they are within it
pub among_range : (a n i : ℕ) → Among i (range_with_len a n) → (a ≤ i) × (i < a + n)
among_range a zero i m = absurd m
among_range a (suc n) i (inl e) = (omega arith, omega arith)
among_range a (suc n) i (inr m) = let r = among_range (a + 1) n i m in (omega arith, omega arith)

-- of those that pass a test each stands once
pub range_once : (p : ℕ → Bool) (a n i : ℕ) → count_by (λ j. j == i) (filter p (range_with_len a n)) ≤ 1
range_once p a zero i = omega arith
range_once p a (suc n) i = by (p a) (range_once p (a + 1) n i)
  where
    rest : List ℕ
    rest = filter p (range_with_len (a + 1) n)

    none : a ≡ i → count_by (λ j. j == i) rest ≡ 0
    none e = sum_nothing (λ j. cond (j == i) 1 0) rest (λ j m.
        let r = among_range (a + 1) n j (kept_among p (range_with_len (a + 1) n) j m) in
        ap (λ (b : Bool). cond {A = ℕ} b 1 0) (ne_eqb j i (λ s. absurd (omega arith))))

    by : (b : Bool) → count_by (λ j. j == i) rest ≤ 1 → count_by (λ j. j == i) (cond b (a ∷ rest) rest) ≤ 1
    by false h = h
    by true h = elim (cases_eq a i) [
      | inl e ↦ omega (arith, count_passes (λ j. j == i) a rest (eq-eqb a i e), none e)
      | inr ne ↦ omega (arith, count_fails (λ j. j == i) a rest (ne_eqb a i ne))
    ]

-- so whether a number is one of them tells how often it stands there
pub range_count : (p : ℕ → Bool) (a n i : ℕ)
    → count_by (λ j. j == i) (filter p (range_with_len a n)) ≡ (if list_any (λ j. j == i) (filter p (range_with_len a n)) then 1 else 0)
range_count p a n i = by (list_any (λ j. j == i) numbers) refl (cases_lt 0 (count_by (λ j. j == i) numbers))
  where
    numbers : List ℕ
    numbers = filter p (range_with_len a n)

    by : (b : Bool) → list_any (λ j. j == i) numbers ≡ b → (0 < count_by (λ j. j == i) numbers) ⊎ (count_by (λ j. j == i) numbers ≤ 0)
        → count_by (λ j. j == i) numbers ≡ (if b then 1 else 0)
    by true e s =
        let found = any_among (λ j. j == i) numbers e in
        omega (arith, range_once p a n i, among_counts (λ j. j == i) numbers found.0 found.1 found.2)
    by false e (inl l) =
        let found = counted_among (λ j. j == i) numbers l in
        absurd (true≢false (sym (any_from (λ j. j == i) numbers found.0 found.1 found.2) ∙ e))
    by false e (inr l) = omega arith

-- the first number that passes is no greater than one that does
pub find_some : (p : ℕ → Bool) (a n j : ℕ) → a ≤ j → j < a + n → p j ≡ true
    → (i : ℕ) × (find p (range_with_len a n) ≡ Some i) × (i ≤ j)
find_some p a zero j l u e = absurd (omega arith)
find_some p a (suc n) j l u e = by (p a) refl (cases_eq a j) (λ m. find_some p (a + 1) n j m (omega arith) e)
  where
    by : (b : Bool) → p a ≡ b → (a ≡ j) ⊎ (a ≡ j → ⊥)
        → (a + 1 ≤ j → (i : ℕ) × (find p (range_with_len (a + 1) n) ≡ Some i) × (i ≤ j))
        → (i : ℕ) × (cond b (Some a) (find p (range_with_len (a + 1) n)) ≡ Some i) × (i ≤ j)
    by true f s rest = (a, refl, l)
    by false f (inl s) rest = absurd (true≢false (sym (ap p s ∙ e) ∙ f))
    by false f (inr s) rest = rest (omega arith)

-- it is the first in a longer range too
pub find_longer : (p : ℕ → Bool) (a n m i : ℕ) → n ≤ m → find p (range_with_len a n) ≡ Some i → find p (range_with_len a m) ≡ Some i
find_longer p a zero m i l e = absurd cc
find_longer p a (suc n) zero i l e = absurd (omega arith)
find_longer p a (suc n) (suc m) i l e = by (p a) e (λ f. find_longer p (a + 1) n m i (omega arith) f)
  where
    by : (b : Bool) → cond b (Some a) (find p (range_with_len (a + 1) n)) ≡ Some i
        → (find p (range_with_len (a + 1) n) ≡ Some i → find p (range_with_len (a + 1) m) ≡ Some i)
        → cond b (Some a) (find p (range_with_len (a + 1) m)) ≡ Some i
    by true f rest = f
    by false f rest = rest f

-- where none before passes, the last one is the first that does
pub find_last : (p : ℕ → Bool) (a n m : ℕ) → m ≡ suc n → ((j : ℕ) → a ≤ j → j < a + n → p j ≡ false) → p (a + n) ≡ true
    → find p (range_with_len a m) ≡ Some (a + n)
find_last p a n zero s none e = absurd (omega arith)
find_last p a zero (suc m) s none e =
    let here : a + 0 ≡ a = omega arith in
    ap (λ (b : Bool). cond b (Some a) (find p (range_with_len (a + 1) m))) (ap p (sym here) ∙ e) ∙ ap (λ (n : ℕ). Some n) (sym here)
find_last p a (suc n) (suc m) s none e =
    let next : a + 1 + n ≡ a + suc n = omega arith in
    ap (λ (b : Bool). cond b (Some a) (find p (range_with_len (a + 1) m))) (none a (omega arith) (omega arith))
    ∙ find_last p (a + 1) n m (omega arith) (λ j l u. none j (omega arith) (omega arith)) (ap p next ∙ e)
    ∙ ap (λ (n : ℕ). Some n) next

-- ---- an order by one key, and where it is the same by another test

module _ {A K : Type 0} (value : A → K) (less same : K → K → Bool) (next : A → A → Bool) (o : IsStrictOrderOn (λ (x : K). ⊤) less)
    (one : (x y : K) → same x y ≡ true → x ≡ y) (itself : (x : K) → same x x ≡ true) (p : IsStrictOrderOn (λ (x : A). ⊤) next) where
  -- x stands before y
  abbrev first_by : A → A → Bool
  first_by x y = less (value x) (value y) || (same (value x) (value y) && next x y)

  irreflexive : (x : A) → first_by x x ≡ false
  irreflexive x = or_from _ (same (value x) (value x) && next x x) (o.itself (value x) tt) (and_right _ (next x x) (p.itself x tt))

  transitive : (x y z : A) → first_by x y ≡ true → first_by y z ≡ true → first_by x z ≡ true
  transitive x y z h k =
      elim (or_cases (less (value x) (value y)) _ h) [
        | inl a ↦ elim (or_cases (less (value y) (value z)) _ k) [
          | inl b ↦ or_left _ (same (value x) (value z) && next x z) (o.passes (value x) (value y) (value z) tt tt tt a b)
          | inr b ↦ or_left _ (same (value x) (value z) && next x z)
              (subst (λ w. less (value x) w ≡ true) (one _ _ (and_parts _ (next y z) b).0) a)
        ]
        | inr a ↦
            let here = and_parts (same (value x) (value y)) (next x y) a in
            let e : value x ≡ value y = one _ _ here.0 in
            elim (or_cases (less (value y) (value z)) _ k) [
              | inl b ↦ or_left _ (same (value x) (value z) && next x z) (subst (λ w. less w (value z) ≡ true) (sym e) b)
              | inr b ↦
                  let there = and_parts (same (value y) (value z)) (next y z) b in
                  or_right (less (value x) (value z)) _ (and_from (same (value x) (value z)) (next x z)
                  (subst (λ w. same (value x) w ≡ true) (e ∙ one _ _ there.0) (itself (value x)))
                  (p.passes x y z tt tt tt here.1 there.1))
            ]
      ]

  pub order_then : IsStrictOrderOn (λ (x : A). ⊤) (λ x y. less (value x) (value y) || (same (value x) (value y) && next x y))
  order_then = record { itself = λ x t. irreflexive x; passes = λ x y z a b c h k. transitive x y z h k }
