-- Sums over lists, counts of the members that pass a test, and the parity of a count. A count is a sum, so std's `sum_by-append` and
-- `sum_by-IsPermutation` are for counts too.
use Rattle.std.proofs.Common.{◌≡◌, ℕ, zero, suc, ◌+◌, ◌%◌, ◌==◌, Bool, true, false, cond, not, ◌&&◌, ◌||◌, List, [], ◌∷◌, ◌++◌, map, filter, All, sum_by, count_by, refl, sym, ap, ap₂, ◌∙◌, arith}
use Rattle.std.proofs.lemmas.Bool.Decides.{nat_tests}
use Rattle.std.proofs.lemmas.List.Sums.{sum_by-cons, sum_by-append}
use Rattle.std.proofs.lemmas.List.Elements.{All-head, All-tail}
use Rattle.lemmas.specs.Parity.{is_odd, either_alone}

-- ---- parity

pub is_odd-suc : (n : ℕ) → is_odd (suc n) ≡ not (is_odd n)
is_odd-suc n = by (n % 2 == 1) (suc n % 2 == 1) refl refl
  where
    by : (a b : Bool) → (n % 2 == 1) ≡ a → (suc n % 2 == 1) ≡ b → b ≡ not a
    by true true e f = grind (arith, nat_tests)
    by true false e f = refl
    by false true e f = refl
    by false false e f = grind (arith, nat_tests)

pub is_odd-add : (a b : ℕ) → is_odd (a + b) ≡ either_alone (is_odd a) (is_odd b)
is_odd-add zero b = ap (λ (n : ℕ). is_odd n) (omega arith)
is_odd-add (suc a) b = ap (λ (n : ℕ). is_odd n) (omega arith) ∙ is_odd-suc (a + b) ∙ ap not (is_odd-add a b) ∙ turned (is_odd a) (is_odd b) ∙ ap (λ c. either_alone c (is_odd b)) (sym (is_odd-suc a))
  where
    turned : (p q : Bool) → not (either_alone p q) ≡ either_alone (not p) q
    turned true true = refl
    turned true false = refl
    turned false q = refl

pub is_odd-double : (n : ℕ) → is_odd (n + n) ≡ false
is_odd-double n = is_odd-add n n ∙ same (is_odd n)
  where
    same : (p : Bool) → either_alone p p ≡ false
    same true = refl
    same false = refl

-- ---- sums

-- a sum of what a map makes; of a count it says `count_by p (map f xs) ≡ count_by (λ x. p (f x)) xs`
pub sum_by-map : {A B : Type 0} (g : B → ℕ) (f : A → B) (xs : List A) → sum_by g (map f xs) ≡ sum_by (λ x. g (f x)) xs
sum_by-map g f [] = refl
sum_by-map g f (x ∷ xs) = sum_by-cons g (f x) (map f xs) ∙ ap (λ n. g (f x) + n) (sum_by-map g f xs) ∙ sym (sum_by-cons (λ y. g (f y)) x xs)

-- numbers that agree on the members have one sum
pub sum_by-agree : {A : Type 0} (f g : A → ℕ) (xs : List A) → All (λ x. f x ≡ g x) xs → sum_by f xs ≡ sum_by g xs
sum_by-agree f g [] h = refl
sum_by-agree f g (x ∷ xs) h = sum_by-cons f x xs ∙ ap₂ (λ m n. m + n) (All-head (λ y. f y ≡ g y) x xs h) (sum_by-agree f g xs (All-tail (λ y. f y ≡ g y) x xs h)) ∙ sym (sum_by-cons g x xs)

-- a sum of sums
pub sum_by-add : {A : Type 0} (f g : A → ℕ) (xs : List A) → sum_by (λ x. f x + g x) xs ≡ sum_by f xs + sum_by g xs
sum_by-add f g [] = refl
sum_by-add f g (x ∷ xs) = omega (arith, sum_by-cons (λ y. f y + g y) x xs, sum_by-cons f x xs, sum_by-cons g x xs, sum_by-add f g xs)

-- a sum over what a filter keeps
pub sum_by-filter : {A : Type 0} (f : A → ℕ) (p : A → Bool) (xs : List A) → sum_by f (filter p xs) ≡ sum_by (λ x. cond (p x) (f x) 0) xs
sum_by-filter f p [] = refl
sum_by-filter f p (x ∷ xs) = by (p x) (sum_by-filter f p xs) ∙ sym (sum_by-cons (λ y. cond (p y) (f y) 0) x xs)
  where
    by : (b : Bool) → sum_by f (filter p xs) ≡ sum_by (λ y. cond (p y) (f y) 0) xs → sum_by f (cond b (x ∷ filter p xs) (filter p xs)) ≡ cond b (f x) 0 + sum_by (λ y. cond (p y) (f y) 0) xs
    by true e = sum_by-cons f x (filter p xs) ∙ ap (λ n. f x + n) e
    by false e = omega (arith, e)

-- ---- counts

module _ {A : Type 0} where
  -- one more member
  pub count_by-cons : (p : A → Bool) (x : A) (xs : List A) → count_by p (x ∷ xs) ≡ cond (p x) 1 0 + count_by p xs
  count_by-cons p x xs = sum_by-cons (λ y. cond (p y) 1 0) x xs

  -- the members that pass one test, and those that pass another: each that passes both is counted twice
  pub count_by-either : (p q : A → Bool) (xs : List A) → count_by p xs + count_by q xs ≡ count_by (λ x. either_alone (p x) (q x)) xs + (count_by (λ x. p x && q x) xs + count_by (λ x. p x && q x) xs)
  count_by-either p q [] = refl
  count_by-either p q (x ∷ xs) = by (p x) (q x) _ _ _ _ _ _ _ _ (count_by-cons p x xs) (count_by-cons q x xs) (count_by-cons (λ y. either_alone (p y) (q y)) x xs) (count_by-cons (λ y. p y && q y) x xs) (count_by-either p q xs)
    where
      by : (s t : Bool) (a b c d a' b' c' d' : ℕ) → a ≡ cond s 1 0 + a' → b ≡ cond t 1 0 + b' → c ≡ cond (either_alone s t) 1 0 + c' → d ≡ cond (s && t) 1 0 + d' → a' + b' ≡ c' + (d' + d') → a + b ≡ c + (d + d)
      by true true a b c d a' b' c' d' e f g h i = omega arith
      by true false a b c d a' b' c' d' e f g h i = omega arith
      by false true a b c d a' b' c' d' e f g h i = omega arith
      by false false a b c d a' b' c' d' e f g h i = omega arith

  pub count_by-or : (p q : A → Bool) (xs : List A) → count_by (λ x. p x || q x) xs + count_by (λ x. p x && q x) xs ≡ count_by p xs + count_by q xs
  count_by-or p q [] = refl
  count_by-or p q (x ∷ xs) = by (p x) (q x) _ _ _ _ _ _ _ _ (count_by-cons p x xs) (count_by-cons q x xs) (count_by-cons (λ y. p y || q y) x xs) (count_by-cons (λ y. p y && q y) x xs) (count_by-or p q xs)
    where
      by : (s t : Bool) (a b c d a' b' c' d' : ℕ) → a ≡ cond s 1 0 + a' → b ≡ cond t 1 0 + b' → c ≡ cond (s || t) 1 0 + c' → d ≡ cond (s && t) 1 0 + d' → c' + d' ≡ a' + b' → c + d ≡ a + b
      by true true a b c d a' b' c' d' e f g h i = omega arith
      by true false a b c d a' b' c' d' e f g h i = omega arith
      by false true a b c d a' b' c' d' e f g h i = omega arith
      by false false a b c d a' b' c' d' e f g h i = omega arith

  -- so an odd number passes one of them alone where one count is odd and the other is not
  pub is_odd-count_by : (p q : A → Bool) (xs : List A) → is_odd (count_by (λ x. either_alone (p x) (q x)) xs) ≡ either_alone (is_odd (count_by p xs)) (is_odd (count_by q xs))
  is_odd-count_by p q xs =
      let c = count_by (λ x. either_alone (p x) (q x)) xs in
      let d = count_by (λ x. p x && q x) xs in
      sym (sym (is_odd-add (count_by p xs) (count_by q xs)) ∙ ap (λ n. is_odd n) (count_by-either p q xs) ∙ is_odd-add c (d + d) ∙ ap (either_alone (is_odd c)) (is_odd-double d) ∙ last (is_odd c))
    where
      last : (p : Bool) → either_alone p false ≡ p
      last true = refl
      last false = refl

  -- the parity of a count over two lists, one after the other
  pub is_odd-count_by-append : (p : A → Bool) (xs ys : List A) → is_odd (count_by p (xs ++ ys)) ≡ either_alone (is_odd (count_by p xs)) (is_odd (count_by p ys))
  is_odd-count_by-append p xs ys = ap (λ n. is_odd n) (sum_by-append (λ x. cond (p x) 1 0) xs ys) ∙ is_odd-add (count_by p xs) (count_by p ys)

  -- a count of what a filter keeps
  pub count_by-filter : (p q : A → Bool) (xs : List A) → count_by p (filter q xs) ≡ count_by (λ x. q x && p x) xs
  count_by-filter p q [] = refl
  count_by-filter p q (x ∷ xs) = by (q x) (count_by-filter p q xs) ∙ sym (count_by-cons (λ y. q y && p y) x xs)
    where
      by : (b : Bool) → count_by p (filter q xs) ≡ count_by (λ y. q y && p y) xs → count_by p (cond b (x ∷ filter q xs) (filter q xs)) ≡ cond (b && p x) 1 0 + count_by (λ y. q y && p y) xs
      by true e = count_by-cons p x (filter q xs) ∙ ap (λ n. cond (p x) 1 0 + n) e
      by false e = omega (arith, e)

  -- tests that agree on the members count the same
  pub count_by-agree : (p q : A → Bool) (xs : List A) → All (λ x. p x ≡ q x) xs → count_by p xs ≡ count_by q xs
  count_by-agree p q xs h = sum_by-agree (λ x. cond (p x) 1 0) (λ x. cond (q x) 1 0) xs (λ k d l. ap (λ b. cond b 1 0) (h k d l))
