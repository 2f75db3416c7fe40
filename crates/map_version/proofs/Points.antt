-- The first position of a point that passes a test.
use Rattle.std.proofs.Common.{◌≡◌, ◌∙◌, ℕ, suc, ◌+◌, ◌<◌, nat_lt, Bool, true, false, ◌||◌, cond, List, [], ◌∷◌, length, Option, Some, None, refl, sym, ap, arith}
use Rattle.std.specs.Prelude.{option_map}
use Rattle.std.specs.List.{list_any, position, position_or_len}
use Rattle.std.proofs.lemmas.Bool.{false≢true, or_left, or_right, ltb-true, lt-ltb}
use Rattle.edit_laws.proofs.Cases.{by_test, by_option, same_test}

next_before : (j i : ℕ) → nat_lt (suc j) (suc i) ≡ nat_lt j i
next_before j i =
    same_test (nat_lt (suc j) (suc i)) (nat_lt j i)
    (λ e. let lt = ltb-true (suc j) (suc i) e in lt-ltb j i (omega arith))
    (λ e. let lt = ltb-true j i e in lt-ltb (suc j) (suc i) (omega arith))

pub position_here : {X : Type 0} (test : X → Bool) (x : X) (xs : List X) → test x ≡ true → position test (x ∷ xs) ≡ Some 0
position_here test x xs e =
    (let first : position_or_len test (x ∷ xs) ≡ 0 = rw e refl in
    let within : nat_lt 0 (length (x ∷ xs)) ≡ true = lt-ltb 0 (length (x ∷ xs)) (omega arith) in
    ap (λ (k : ℕ). cond (nat_lt k (length (x ∷ xs))) (Some k) None) first ∙ ap (λ (b : Bool). let r : Option ℕ = cond b (Some 0) None in r) within)

pub position_there : {X : Type 0} (test : X → Bool) (x : X) (xs : List X) → test x ≡ false → position test (x ∷ xs) ≡ option_map (λ k. suc k) (position test xs)
position_there test x xs e =
    let one : position_or_len test (x ∷ xs) ≡ 1 + position_or_len test xs = rw e refl in
    let first : position_or_len test (x ∷ xs) ≡ suc (position_or_len test xs) = one ∙ omega arith in
    ap (λ (k : ℕ). cond (nat_lt k (length (x ∷ xs))) (Some k) None) first
    ∙ (ap (λ (b : Bool). let r : Option ℕ = cond b (Some (suc (position_or_len test xs))) None in r) (next_before (position_or_len test xs) (length xs))
    ∙ next (nat_lt (position_or_len test xs) (length xs)) (position_or_len test xs))
  where
    next : (b : Bool) (k : ℕ) → (let r : Option ℕ = cond b (Some (suc k)) None in r) ≡ option_map (λ n. suc n) (let r : Option ℕ = cond b (Some k) None in r)
    next true k = refl
    next false k = refl

-- a point that has a position passes
pub position_has : {X : Type 0} (test : X → Bool) (xs : List X) (k : ℕ) → position test xs ≡ Some k → list_any test xs ≡ true
position_has test [] k e = absurd cc
position_has test (x ∷ xs) k e =
    by_test (test x)
    (λ t. or_left (test x) (list_any test xs) t)
    (λ f. by_option (position test xs)
    (λ none. absurd (let g : position test (x ∷ xs) ≡ None = position_there test x xs f ∙ ap (option_map (λ (n : ℕ). suc n)) none in cc))
    (λ n some. or_right (test x) (list_any test xs) (position_has test xs n some)))

-- and one that has none does not
pub none_has : {X : Type 0} (test : X → Bool) (xs : List X) → position test xs ≡ None → list_any test xs ≡ false
none_has test [] e = refl
none_has test (x ∷ xs) e =
    by_test (test x)
    (λ t. absurd (let f = position_here test x xs t in cc))
    (λ f. by_option (position test xs)
    (λ none. ap (λ (b : Bool). b || list_any test xs) f ∙ none_has test xs none)
    (λ k some. absurd (let g : position test (x ∷ xs) ≡ Some (suc k) = position_there test x xs f ∙ ap (option_map (λ (n : ℕ). suc n)) some in cc)))

pub no_position : {X : Type 0} (test : X → Bool) (xs : List X) → list_any test xs ≡ false → position test xs ≡ None
no_position test xs e =
    by_option (position test xs) (λ none. none) (λ k some. absurd (false≢true (sym e ∙ position_has test xs k some)))

-- a position is one in the list
pub position_within : {X : Type 0} (test : X → Bool) (xs : List X) (k : ℕ) → position test xs ≡ Some k → k < length xs
position_within test [] k e = absurd cc
position_within test (x ∷ xs) k e =
    by_test (test x)
    (λ t. let f = position_here test x xs t in let here : 0 ≡ k = cc in omega arith)
    (λ f. by_option (position test xs)
    (λ none. absurd (let g : position test (x ∷ xs) ≡ None = position_there test x xs f ∙ ap (option_map (λ (n : ℕ). suc n)) none in cc))
    (λ n some.
    let g : position test (x ∷ xs) ≡ Some (suc n) = position_there test x xs f ∙ ap (option_map (λ (n : ℕ). suc n)) some in
    let here : suc n ≡ k = cc in
    let lt = position_within test xs n some in
    omega arith))
