-- How often a number stands in a list: two lists in which each number stands as often are permutations of one another.
use Rattle.std.proofs.Common.{◌≡◌, ◌≢◌, ◌⊎◌, inl, inr, ℕ, zero, suc, ◌+◌, ◌<◌, ◌≤◌, ◌==◌, Bool, true, false, cond, nat_lt, List, [], ◌∷◌, ◌++◌, filter, flat_map, sum_by, All, IsPermutation, refl, sym, ap, ap₂, ◌∙◌, subst, eq-eqb, arith}
use Rattle.std.specs.List.{range_with_len}
use Rattle.std.proofs.lemmas.Bool.{cases_eq, cases_lt, ne_eqb, lt-ltb, le-ltb}
use Rattle.std.proofs.lemmas.List.Elements.{All-head, All-tail}
use Rattle.std.proofs.lemmas.List.Sorted.{IsPermutation-refl, IsPermutation-cons, IsPermutation-middle, IsPermutation-trans, IsPermutation-sym}
use Rattle.std.proofs.lemmas.List.Sums.{sum_by-append}
use Rattle.lemmas.proofs.Counts.{count_by-cons}
use Rattle.slice_laws.proofs.CountedSums.{sum_by-flat_map}
use Rattle.edge_forest.specs.Index.{times}
use Rattle.edge_forest.proofs.AliveNumbers.{passing_more}

-- one more member, which is the number or another
pub times-same : (i x : ℕ) (xs : List ℕ) → x ≡ i → times i (x ∷ xs) ≡ 1 + times i xs
times-same i x xs e = count_by-cons (λ y. y == i) x xs ∙ ap (λ (b : Bool). cond b 1 0 + times i xs) (eq-eqb x i e)

pub times-other : (i x : ℕ) (xs : List ℕ) → x ≢ i → times i (x ∷ xs) ≡ times i xs
times-other i x xs e = count_by-cons (λ y. y == i) x xs ∙ ap (λ (b : Bool). cond b 1 0 + times i xs) (ne_eqb x i e) ∙ omega arith

pub times-append : (i : ℕ) (xs ys : List ℕ) → times i (xs ++ ys) ≡ times i xs + times i ys
times-append i xs ys = sum_by-append (λ y. cond (y == i) 1 0) xs ys

pub times-none : (i : ℕ) (xs : List ℕ) → All (λ x. x ≢ i) xs → times i xs ≡ 0
times-none i [] h = refl
times-none i (x ∷ xs) h = times-other i x xs (All-head (λ y. y ≢ i) x xs h) ∙ times-none i xs (All-tail (λ y. y ≢ i) x xs h)

pub times-flat_map : (i : ℕ) (f : ℕ → List ℕ) (ys : List ℕ) → times i (flat_map f ys) ≡ sum_by (λ y. times i (f y)) ys
times-flat_map i f ys = sum_by-flat_map (λ y. cond (y == i) 1 0) f ys

-- a number that stands in a list stands between a front and a rest
record IsSplit (i : ℕ) (ys : List ℕ) : Type 0 where
  front : List ℕ
  rest : List ℕ
  is : ys ≡ front ++ i ∷ rest

split_at : (i : ℕ) (ys : List ℕ) → 0 < times i ys → IsSplit i ys
split_at i [] h = absurd (omega arith)
split_at i (y ∷ ys) h = by (cases_eq y i) (split_at i ys)
  where
    by : (y ≡ i) ⊎ (y ≢ i) → (0 < times i ys → IsSplit i ys) → IsSplit i (y ∷ ys)
    by (inl e) later = record { front = []; rest = ys; is = ap (λ z. z ∷ ys) e }
    by (inr e) later =
        let s = later (omega (arith, h, times-other i y ys e)) in
        record { front = y ∷ s.front; rest = s.rest; is = ap (λ zs. y ∷ zs) s.is }

pub permutation_by_times : (xs ys : List ℕ) → ((i : ℕ) → times i xs ≡ times i ys) → IsPermutation xs ys
permutation_by_times [] [] h = IsPermutation-refl []
permutation_by_times [] (y ∷ ys) h = absurd (omega (arith, h y, times-same y y ys refl))
permutation_by_times (x ∷ xs) ys h =
    let s = split_at x ys (omega (arith, h x, times-same x x xs refl)) in
    subst (IsPermutation (x ∷ xs)) (sym s.is) (IsPermutation-trans (x ∷ xs) (x ∷ (s.front ++ s.rest)) (s.front ++ x ∷ s.rest)
    (IsPermutation-cons x xs (s.front ++ s.rest) (permutation_by_times xs (s.front ++ s.rest) (λ i. less i s.front s.rest (h i ∙ ap (times i) s.is))))
    (IsPermutation-sym (s.front ++ x ∷ s.rest) (x ∷ (s.front ++ s.rest)) (IsPermutation-middle s.front x s.rest)))
  where
    less : (i : ℕ) (front rest : List ℕ) → times i (x ∷ xs) ≡ times i (front ++ x ∷ rest) → times i xs ≡ times i (front ++ rest)
    less i front rest e =
        let both = times-append i front rest in
        let split = times-append i front (x ∷ rest) in
        elim (cases_eq x i) [
          | inl f ↦ omega (arith, times-same i x xs f, times-same i x rest f)
          | inr f ↦ omega (arith, times-other i x xs f, times-other i x rest f)
        ]

-- of the numbers below n, each that passes a test stands once among those that do
pub times-passing : (test : ℕ → Bool) (n i : ℕ) → times i (filter test (range_with_len 0 n)) ≡ cond (nat_lt i n) (cond (test i) 1 0) 0
times-passing test zero i = sym (ap (λ (c : Bool). cond c (cond (test i) 1 0) 0) (le-ltb i 0 (omega arith)))
times-passing test (suc n) i =
    let one : suc n ≡ n + 1 = omega arith in
    ap (λ (m : ℕ). times i (filter test (range_with_len 0 m))) one
    ∙ ap (times i) (passing_more test n)
    ∙ times-append i (filter test (range_with_len 0 n)) (cond (test n) (n ∷ []) [])
    ∙ ap (λ (m : ℕ). m + times i (cond (test n) (n ∷ []) [])) (times-passing test n i)
    ∙ by (cases_eq n i) (test n) refl
  where
    of_one : (b : Bool) → n ≢ i → times i (cond b (n ∷ []) []) ≡ 0
    of_one true e = times-other i n [] e
    of_one false e = refl

    of_same : (b : Bool) → n ≡ i → times i (cond b (n ∷ []) []) ≡ cond b 1 0
    of_same true e = times-same i n [] e
    of_same false e = refl

    nothing_more : (m : ℕ) → 0 + m ≡ m
    nothing_more m = omega arith

    by : (n ≡ i) ⊎ (n ≢ i) → (b : Bool) → test n ≡ b → cond (nat_lt i n) (cond (test i) 1 0) 0 + times i (cond (test n) (n ∷ []) []) ≡ cond (nat_lt i (suc n)) (cond (test i) 1 0) 0
    by (inl e) b f =
        let past : nat_lt i n ≡ false = le-ltb i n (omega arith) in
        let within : nat_lt i (suc n) ≡ true = lt-ltb i (suc n) (omega arith) in
        ap₂ (λ (c d : Bool). cond c (cond (test i) 1 0) 0 + times i (cond d (n ∷ []) [])) past f
        ∙ ap (λ (m : ℕ). 0 + m) (of_same b e) ∙ nothing_more (cond b 1 0)
        ∙ sym (ap₂ (λ (c d : Bool). cond c (cond d 1 0) 0) within (ap test (sym e) ∙ f))
    by (inr e) b f = ap (λ (m : ℕ). cond (nat_lt i n) (cond (test i) 1 0) 0 + m) (of_one (test n) e) ∙ omega arith
        ∙ ap (λ (c : Bool). cond c (cond (test i) 1 0) 0) (tests (cases_lt i n))
      where
        tests : (i < n) ⊎ (n ≤ i) → nat_lt i n ≡ nat_lt i (suc n)
        tests (inl h) = lt-ltb i n h ∙ sym (lt-ltb i (suc n) (omega arith))
        tests (inr h) = le-ltb i n h ∙ sym (le-ltb i (suc n) (omega arith))
