-- Lists of what a function makes of the numbers from 0 on: one number more at a time, and what holds of all their members and pairs.
use Rattle.std.proofs.Common.{◌≡◌, ◌<◌, ℕ, zero, suc, ◌+◌, ◌*◌, length, length-append, All, AllPairs, Contains, get_or, List, [], ◌∷◌, ◌++◌, map, flat_map, map-id, refl, sym, ap, ap₂, ◌∙◌, append_assoc, arith}
use Rattle.std.specs.List.{range_with_len}
use Rattle.std.proofs.lemmas.List.{flat_map_more}
use Rattle.std.proofs.lemmas.List.FromFn.{map-range_with_len_more, length-range_with_len, get_or-range_with_len}
use Rattle.std.proofs.lemmas.List.Elements.{All-nil, All-cons, All-head, All-tail, All-map, All-weaker, All-contains}
use Rattle.std.proofs.lemmas.List.Kept.{AllPairs-cons}
use Rattle.lemmas.proofs.Members.{All-flat_map, AllPairs-nil, AllPairs-head, AllPairs-tail, AllPairs-append}

-- one number more
range_more : (n : ℕ) → range_with_len 0 n ++ n ∷ [] ≡ range_with_len 0 (n + 1)
range_more n = sym (sym (map-id (range_with_len 0 (n + 1))) ∙ map-range_with_len_more (λ (i : ℕ). i) 0 n n (omega arith) ∙ ap (λ (ns : List ℕ). ns ++ n ∷ []) (map-id (range_with_len 0 n)))

-- after a list
pub map_range_more : {A : Type 0} (f : ℕ → A) (xs : List A) (n : ℕ) → (xs ++ map f (range_with_len 0 n)) ++ f n ∷ [] ≡ xs ++ map f (range_with_len 0 (n + 1))
map_range_more f xs n = append_assoc xs (map f (range_with_len 0 n)) (f n ∷ []) ∙ ap (λ ys. xs ++ ys) (sym (map-range_with_len_more f 0 n n (omega arith)))

pub flat_map_range_more : {A : Type 0} (f : ℕ → List A) (xs : List A) (n : ℕ) → (xs ++ flat_map f (range_with_len 0 n)) ++ f n ≡ xs ++ flat_map f (range_with_len 0 (n + 1))
flat_map_range_more f xs n = flat_map_more f xs (range_with_len 0 n) n ∙ ap (λ ns. xs ++ flat_map f ns) (range_more n)

-- ---- what holds of all numbers of a range, and of all pairs of them

pub range_ascends : (a n : ℕ) → AllPairs (λ x y. x < y) (range_with_len a n)
range_ascends a n i j d less short =
    let long = length-range_with_len a n in
    let at_i = get_or-range_with_len a n i d (omega arith) in
    let at_j = get_or-range_with_len a n j d (omega arith) in
    omega arith

pub range_below : (n : ℕ) → All (λ x. x < n) (range_with_len 0 n)
range_below n k d lt = let long = length-range_with_len 0 n in let here = get_or-range_with_len 0 n k d (omega arith) in omega arith

pub in_range : (n k : ℕ) → k < n → Contains (range_with_len 0 n) k
in_range n k less = (k, omega (arith, length-range_with_len 0 n), get_or-range_with_len 0 n k k less ∙ omega arith)

pub below_from_range : (n k : ℕ) → Contains (range_with_len 0 n) k → k < n
below_from_range n k c = All-contains (λ x. x < n) (range_with_len 0 n) k (range_below n) c

-- all pairs of what a function makes of the members of a list: those made of one member, and those of two
pub AllPairs-flat_map : {A B : Type 0} (R : B → B → Type 0) (Q : A → A → Type 0) (f : A → List B) (xs : List A) → AllPairs Q xs → ((x : A) → AllPairs R (f x))
    → ((x y : A) → Q x y → All (λ b. All (R b) (f y)) (f x)) → AllPairs R (flat_map f xs)
AllPairs-flat_map R Q f [] pairs own two = AllPairs-nil R
AllPairs-flat_map R Q f (x ∷ xs) pairs own two = AllPairs-append R (f x) (flat_map f xs) (own x) (AllPairs-flat_map R Q f xs (AllPairs-tail Q x xs pairs) own two)
    (λ k d lt. All-flat_map (R (get_or (f x) k d)) f xs (λ m e lm. two x (get_or xs m e) (AllPairs-head Q x xs pairs m e lm) k d lt))

-- two members alone
pub All-two : {A : Type 0} (P : A → Type 0) (x y : A) → P x → P y → All P (x ∷ y ∷ [])
All-two P x y p q = All-cons P x (y ∷ []) p (All-cons P y [] q (All-nil P))

pub AllPairs-two : {A : Type 0} (R : A → A → Type 0) (x y : A) → R x y → AllPairs R (x ∷ y ∷ [])
AllPairs-two R x y r = AllPairs-cons R x (y ∷ []) (All-cons (R x) y [] r (All-nil (R x))) (AllPairs-cons R y [] (All-nil (R y)) (AllPairs-nil R))

-- what holds of each list that a function makes, or of each value
pub All-made : {A : Type 0} (P : A → Type 0) (f : ℕ → List A) (n : ℕ) → ((k : ℕ) → k < n → All P (f k)) → All P (flat_map f (range_with_len 0 n))
All-made P f n h = All-flat_map P f (range_with_len 0 n) (All-weaker (λ (k : ℕ). k < n) (λ k. All P (f k)) h (range_with_len 0 n) (range_below n))

pub All-mapped : {A : Type 0} (P : A → Type 0) (f : ℕ → A) (n : ℕ) → ((k : ℕ) → k < n → P (f k)) → All P (map f (range_with_len 0 n))
All-mapped P f n h = All-map P f (range_with_len 0 n) (All-weaker (λ (k : ℕ). k < n) (λ k. P (f k)) h (range_with_len 0 n) (range_below n))

-- functions that agree on the members make one list
flat_map_agree : {A : Type 0} (f g : ℕ → List A) (ns : List ℕ) → All (λ k. f k ≡ g k) ns → flat_map f ns ≡ flat_map g ns
flat_map_agree f g [] h = refl
flat_map_agree f g (k ∷ ns) h = ap₂ (λ xs ys. xs ++ ys) (All-head (λ k. f k ≡ g k) k ns h) (flat_map_agree f g ns (All-tail (λ k. f k ≡ g k) k ns h))

pub flat_map_same : {A : Type 0} (f g : ℕ → List A) (n : ℕ) → ((k : ℕ) → k < n → f k ≡ g k) → flat_map f (range_with_len 0 n) ≡ flat_map g (range_with_len 0 n)
flat_map_same f g n h = flat_map_agree f g (range_with_len 0 n) (All-weaker (λ (k : ℕ). k < n) (λ k. f k ≡ g k) h (range_with_len 0 n) (range_below n))

-- lists of one length
pub length_of_lists : {A : Type 0} (f : ℕ → List A) (w a n : ℕ) → ((k : ℕ) → length (f k) ≡ w) → length (flat_map f (range_with_len a n)) ≡ n * w
length_of_lists f w a zero h = omega arith
length_of_lists f w a (suc n) h =
    let first = h a in
    let later = length_of_lists f w (a + 1) n h in
    length-append (f a) (flat_map f (range_with_len (a + 1) n)) ∙ omega arith
