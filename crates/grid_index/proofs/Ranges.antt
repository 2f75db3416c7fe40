-- Numbers in a row, filters of rows that are joined, and rows made of those that pass.
use Rattle.std.proofs.Common.{◌≡◌, ℕ, zero, suc, ◌+◌, ◌<◌, ◌≤◌, Bool, true, false, cond, List, [], ◌∷◌, ◌++◌, filter, All, refl, sym, ap, ◌∙◌, arith}
use Rattle.std.specs.List.{flat_map, range_with_len}
use Rattle.std.proofs.lemmas.List.Elements.{filter-append, All-nil, All-cons}

-- the first of so many, and then the others
pub range-append : (a m n : ℕ) → range_with_len a (m + n) ≡ range_with_len a m ++ range_with_len (a + m) n
range-append a zero n =
    let e : zero + n ≡ n = omega arith in
    let f : a + zero ≡ a = omega arith in
    ap (range_with_len a) e ∙ ap (λ b. range_with_len b n) (sym f)
range-append a (suc m) n =
    let e : suc m + n ≡ suc (m + n) = omega arith in
    let f : a + 1 + m ≡ a + suc m = omega arith in
    ap (range_with_len a) e ∙ ap (λ xs. a ∷ xs) (range-append (a + 1) m n ∙ ap (λ b. range_with_len (a + 1) m ++ range_with_len b n) f)

pub range_push : (a n : ℕ) → range_with_len a (n + 1) ≡ range_with_len a n ++ (a + n) ∷ []
range_push a n = range-append a n 1

-- each of them is below the end
pub range_below : (a n k : ℕ) → a + n ≤ k → All (λ i. i < k) (range_with_len a n)
range_below a zero k h = All-nil (λ i. i < k)
range_below a (suc n) k h = All-cons (λ i. i < k) a (range_with_len (a + 1) n) (omega arith) (range_below (a + 1) n k (omega arith))

-- a filter goes through rows that are joined
pub filter-flat_map : {X A : Type 0} (p : A → Bool) (f : X → List A) (xs : List X) → filter p (flat_map f xs) ≡ flat_map (λ x. filter p (f x)) xs
filter-flat_map p f [] = refl
filter-flat_map p f (x ∷ xs) = filter-append p (f x) (flat_map f xs) ∙ ap (λ ys. filter p (f x) ++ ys) (filter-flat_map p f xs)

-- what fails a test may be left out where nothing is made of it
pub flat_map-filter : {X A : Type 0} (f : X → List A) (p : X → Bool) → ((x : X) → p x ≡ false → f x ≡ []) → (xs : List X) → flat_map f (filter p xs) ≡ flat_map f xs
flat_map-filter f p nothing [] = refl
flat_map-filter {X} f p nothing (x ∷ xs) = by (p x) refl (flat_map-filter f p nothing xs)
  where
    by : (b : Bool) → p x ≡ b → flat_map f (filter p xs) ≡ flat_map f xs → flat_map f (cond b (x ∷ filter p xs) (filter p xs)) ≡ f x ++ flat_map f xs
    by true e h = ap (λ ys. f x ++ ys) h
    by false e h = h ∙ ap (λ ys. ys ++ flat_map f xs) (sym (nothing x e))
