-- Members of lists: how often a test passes at them, and sorted lists, which their members determine.
use Rattle.std.proofs.Common.{◌≡◌, ◌⊎◌, inl, inr, ℕ, suc, ◌+◌, ◌<◌, ◌≤◌, Bool, true, false, cond, nat_lt, List, [], ◌∷◌, ◌++◌, filter, refl, sym, ap, ◌∙◌, subst, arith}
use Rattle.std.specs.Prelude.{count_by, flat_map}
use Rattle.std.specs.List.{list_all, list_any}
use Rattle.std.proofs.lemmas.Bool.{and_parts, or_cases, ltb-true}
use Rattle.std.proofs.lemmas.List.Sums.{sum_by-cons, sum_by-append}
use Rattle.lemmas.specs.Sorting.{is_sorted_by}

-- x is a member of the list
abbrev pub Among : {A : Type 0} → A → List A → Type 0
Among x [] = ⊥
Among x (y ∷ ys) = (y ≡ x) ⊎ Among x ys

-- no member stands twice
abbrev pub AreDistinct : {A : Type 0} → List A → Type 0
AreDistinct [] = Unit {0}
AreDistinct (x ∷ xs) = (Among x xs → ⊥) × AreDistinct xs

module _ {A : Type 0} where
  -- what a test says of all it says of each member
  pub all_among : (p : A → Bool) (xs : List A) (x : A) → list_all p xs ≡ true → Among x xs → p x ≡ true
  all_among p [] x h m = absurd m
  all_among p (y ∷ ys) x h (inl e) = ap p (sym e) ∙ (and_parts _ _ h).0
  all_among p (y ∷ ys) x h (inr m) = all_among p ys x (and_parts _ _ h).1 m

  -- a test that some member passes
  pub any_among : (p : A → Bool) (xs : List A) → list_any p xs ≡ true → (x : A) × Among x xs × (p x ≡ true)
  any_among p [] h = absurd cc
  any_among p (y ∷ ys) h = elim (or_cases (p y) _ h) [
    | inl e ↦ (y, inl refl, e)
    | inr e ↦ (let m = any_among p ys e in (m.0, inr m.1, m.2))
  ]

  -- a member that is kept passes the test
  pub filter_among : (p : A → Bool) (xs : List A) (x : A) → Among x (filter p xs) → p x ≡ true
  filter_among p [] x m = absurd m
  filter_among p (y ∷ ys) x m = by (p y) refl m (λ n. filter_among p ys x n)
    where
      by : (b : Bool) → p y ≡ b → Among x (cond b (y ∷ filter p ys) (filter p ys)) → (Among x (filter p ys) → p x ≡ true) → p x ≡ true
      by true e (inl s) rest = ap p (sym s) ∙ e
      by true e (inr n) rest = rest n
      by false e n rest = rest n

  -- a member of the first of two lists is one of both together
  pub among_left : (xs ys : List A) (x : A) → Among x xs → Among x (xs ++ ys)
  among_left [] ys x m = absurd m
  among_left (z ∷ zs) ys x (inl e) = inl e
  among_left (z ∷ zs) ys x (inr m) = inr (among_left zs ys x m)

  -- and a member of the second
  pub among_right : (xs ys : List A) (x : A) → Among x ys → Among x (xs ++ ys)
  among_right [] ys x m = m
  among_right (z ∷ zs) ys x m = inr (among_right zs ys x m)

  -- a member of both together is one of the first or of the second
  pub append_among : (xs ys : List A) (x : A) → Among x (xs ++ ys) → Among x xs ⊎ Among x ys
  append_among [] ys x m = inr m
  append_among (z ∷ zs) ys x (inl e) = inl (inl e)
  append_among (z ∷ zs) ys x (inr m) = elim (append_among zs ys x m) [ inl l ↦ inl (inr l) | inr r ↦ inr r ]

  -- a member of one of some lists is one of all together
  pub joined_among : (xss : List (List A)) (xs : List A) (x : A) → Among xs xss → Among x xs → Among x (flat_map (λ c. c) xss)
  joined_among [] xs x m n = absurd m
  joined_among (ys ∷ yss) xs x (inl e) n = among_left ys _ x (subst (Among x) (sym e) n)
  joined_among (ys ∷ yss) xs x (inr m) n = among_right ys _ x (joined_among yss xs x m n)

  -- a member of all together is one of one of them
  pub among_joined : (xss : List (List A)) (x : A) → Among x (flat_map (λ c. c) xss) → (xs : List A) × Among xs xss × Among x xs
  among_joined [] x m = absurd m
  among_joined (ys ∷ yss) x m = elim (append_among ys _ x m) [
    | inl n ↦ (ys, inl refl, n)
    | inr n ↦ (let l = among_joined yss x n in (l.0, inr l.1, l.2))
  ]

  -- ---- how many pass a test

  -- one more where the first passes
  pub count_passes : (p : A → Bool) (x : A) (xs : List A) → p x ≡ true → count_by p (x ∷ xs) ≡ suc (count_by p xs)
  count_passes p x xs e =
      let s : count_by p (x ∷ xs) ≡ cond {A = ℕ} (p x) 1 0 + count_by p xs = sum_by-cons (λ y. cond (p y) 1 0) x xs in
      let one : cond {A = ℕ} (p x) 1 0 ≡ 1 = ap (λ (b : Bool). cond {A = ℕ} b 1 0) e in
      omega arith

  -- as many where it fails
  pub count_fails : (p : A → Bool) (x : A) (xs : List A) → p x ≡ false → count_by p (x ∷ xs) ≡ count_by p xs
  count_fails p x xs e =
      let s : count_by p (x ∷ xs) ≡ cond {A = ℕ} (p x) 1 0 + count_by p xs = sum_by-cons (λ y. cond (p y) 1 0) x xs in
      let none : cond {A = ℕ} (p x) 1 0 ≡ 0 = ap (λ (b : Bool). cond {A = ℕ} b 1 0) e in
      omega arith

  -- no fewer in a longer list
  pub count_grows : (p : A → Bool) (x : A) (xs : List A) → count_by p xs ≤ count_by p (x ∷ xs)
  count_grows p x xs = omega (arith, sum_by-cons (λ y. cond (p y) 1 0) x xs)

  -- a member that passes is counted
  pub among_counts : (p : A → Bool) (xs : List A) (x : A) → Among x xs → p x ≡ true → 1 ≤ count_by p xs
  among_counts p [] x m e = absurd m
  among_counts p (y ∷ ys) x (inl s) e = omega (arith, count_passes p y ys (ap p s ∙ e))
  among_counts p (y ∷ ys) x (inr m) e = omega (arith, among_counts p ys x m e, count_grows p y ys)

  -- where some are counted, one is a member
  pub counted_among : (p : A → Bool) (xs : List A) → 1 ≤ count_by p xs → (x : A) × Among x xs × (p x ≡ true)
  counted_among p [] h = absurd (omega arith)
  counted_among p (y ∷ ys) h = by (p y) refl (λ l. counted_among p ys l)
    where
      by : (b : Bool) → p y ≡ b → (1 ≤ count_by p ys → (x : A) × Among x ys × (p x ≡ true)) → (x : A) × Among x (y ∷ ys) × (p x ≡ true)
      by true e rest = (y, inl refl, e)
      by false e rest = let m = rest (omega (arith, count_fails p y ys e)) in (m.0, inr m.1, m.2)

  -- where one is counted, two members that pass are one
  pub one_passes : (p : A → Bool) (xs : List A) (x y : A) → count_by p xs ≤ 1 → Among x xs → Among y xs → p x ≡ true → p y ≡ true → x ≡ y
  one_passes p [] x y h m n e f = absurd m
  one_passes p (z ∷ zs) x y h (inl m) (inl n) e f = sym m ∙ n
  one_passes p (z ∷ zs) x y h (inl m) (inr n) e f = absurd (omega (arith, count_passes p z zs (ap p m ∙ e), among_counts p zs y n f))
  one_passes p (z ∷ zs) x y h (inr m) (inl n) e f = absurd (omega (arith, count_passes p z zs (ap p n ∙ f), among_counts p zs x m e))
  one_passes p (z ∷ zs) x y h (inr m) (inr n) e f = one_passes p zs x y (omega (arith, count_grows p z zs)) m n e f

  -- where two are counted, of three members that pass two are one
  pub two_pass : (p : A → Bool) (xs : List A) (x y z : A) → count_by p xs ≤ 2 → Among x xs → Among y xs → Among z xs
      → p x ≡ true → p y ≡ true → p z ≡ true → (x ≡ y) ⊎ ((x ≡ z) ⊎ (y ≡ z))
  two_pass p [] x y z h k m n d e f = absurd k
  two_pass p (w ∷ ws) x y z h (inl k) (inl m) n d e f = inl (sym k ∙ m)
  two_pass p (w ∷ ws) x y z h (inl k) (inr m) (inl n) d e f = inr (inl (sym k ∙ n))
  two_pass p (w ∷ ws) x y z h (inl k) (inr m) (inr n) d e f =
      inr (inr (one_passes p ws y z (omega (arith, count_passes p w ws (ap p k ∙ d))) m n e f))
  two_pass p (w ∷ ws) x y z h (inr k) (inl m) (inl n) d e f = inr (inr (sym m ∙ n))
  two_pass p (w ∷ ws) x y z h (inr k) (inl m) (inr n) d e f =
      inr (inl (one_passes p ws x z (omega (arith, count_passes p w ws (ap p m ∙ e))) k n d f))
  two_pass p (w ∷ ws) x y z h (inr k) (inr m) (inl n) d e f =
      inl (one_passes p ws x y (omega (arith, count_passes p w ws (ap p n ∙ f))) k m d e)
  two_pass p (w ∷ ws) x y z h (inr k) (inr m) (inr n) d e f =
      two_pass p ws x y z (omega (arith, count_grows p w ws)) k m n d e f

  -- a list among others has no more that pass than all of them
  pub part_counts : (p : A → Bool) (xss : List (List A)) (xs : List A) → Among xs xss → count_by p xs ≤ count_by p (flat_map (λ c. c) xss)
  part_counts p [] xs m = absurd m
  part_counts p (ys ∷ yss) xs (inl e) =
      let f : count_by p ys ≡ count_by p xs = ap (count_by p) e in
      omega (arith, sum_by-append (λ y. cond {A = ℕ} (p y) 1 0) ys (flat_map (λ c. c) yss))
  part_counts p (ys ∷ yss) xs (inr n) =
      omega (arith, part_counts p yss xs n, sum_by-append (λ y. cond {A = ℕ} (p y) 1 0) ys (flat_map (λ c. c) yss))

  -- ---- lists that their members determine

  -- the first of a sorted list is below the others
  pub sorted_below : (f : A → ℕ) (x : A) (xs : List A) (y : A) → is_sorted_by (λ a b. nat_lt (f a) (f b)) (x ∷ xs) ≡ true → Among y xs → f x < f y
  sorted_below f x [] y h m = absurd m
  sorted_below f x (z ∷ zs) y h (inl e) = subst (λ w. f x < f w) e (ltb-true _ _ (and_parts _ _ h).0)
  sorted_below f x (z ∷ zs) y h (inr m) =
      omega (arith, ltb-true (f x) (f z) (and_parts _ _ h).0, sorted_below f z zs y (and_parts _ _ h).1 m)

  -- two sorted lists with the same members are one
  pub sorted_same : (f : A → ℕ) (xs ys : List A) → is_sorted_by (λ a b. nat_lt (f a) (f b)) xs ≡ true
      → is_sorted_by (λ a b. nat_lt (f a) (f b)) ys ≡ true → ((x : A) → Among x xs → Among x ys) → ((x : A) → Among x ys → Among x xs) → xs ≡ ys
  sorted_same f [] [] s t there back = refl
  sorted_same f [] (y ∷ ys) s t there back = absurd (back y (inl refl))
  sorted_same f (x ∷ xs) [] s t there back = absurd (there x (inl refl))
  sorted_same f (x ∷ xs) (y ∷ ys) s t there back =
      let first : x ≡ y = heads (there x (inl refl)) (back y (inl refl)) in
      ap (λ z. z ∷ xs) first
      ∙ ap (λ zs. y ∷ zs) (sorted_same f xs ys (and_parts _ _ s).1 (and_parts _ _ t).1
      (λ z m. elim (there z (inr m)) [
        | inl e ↦ absurd (omega (arith, sorted_below f x xs z s m, ap f (first ∙ e)))
        | inr n ↦ n
      ])
      (λ z m. elim (back z (inr m)) [
        | inl e ↦ absurd (omega (arith, sorted_below f y ys z t m, ap f (sym first ∙ e)))
        | inr n ↦ n
      ]))
    where
      heads : Among x (y ∷ ys) → Among y (x ∷ xs) → x ≡ y
      heads (inl e) n = sym e
      heads (inr m) (inl e) = e
      heads (inr m) (inr n) = absurd (omega (arith, sorted_below f x xs y s n, sorted_below f y ys x t m))
