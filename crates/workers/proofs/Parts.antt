-- What became of two parts of a list.
use Rattle.std.proofs.Common.{◌⊎◌, List, [], ◌∷◌, ◌++◌, inl, inr, All}
use Rattle.std.proofs.lemmas.List.Elements.{All-cons, All-nil}
use Rattle.workers.specs.Each.{EachBecame, OneBecame}

-- both parts, one behind the other
pub each_of_parts : {P : Type 0} (R : P → P → Type 0) (xs xs' ys ys' : List P)
    → EachBecame R xs xs' → EachBecame R ys ys' → EachBecame R (xs ++ ys) (xs' ++ ys')
each_of_parts R [] [] ys ys' e f = f
each_of_parts R (x ∷ xs) (x' ∷ xs') ys ys' e f = (e.0, each_of_parts R xs xs' ys ys' e.1 f)
each_of_parts R [] (x' ∷ xs') ys ys' e f = absurd e
each_of_parts R (x ∷ xs) [] ys ys' e f = absurd e

-- one of the whole is one of the first part or of the second
pub one_from_parts : {P : Type 0} (S R : P → P → Type 0) (xs xs' ys ys' : List P) → EachBecame S xs xs'
    → OneBecame R xs xs' ⊎ OneBecame R ys ys' → OneBecame R (xs ++ ys) (xs' ++ ys')
one_from_parts S R [] [] ys ys' e (inr o) = o
one_from_parts S R [] [] ys ys' e (inl o) = absurd o
one_from_parts S R (x ∷ xs) (x' ∷ xs') ys ys' e (inl (inl r)) = inl r
one_from_parts S R (x ∷ xs) (x' ∷ xs') ys ys' e (inl (inr o)) = inr (one_from_parts S R xs xs' ys ys' e.1 (inl o))
one_from_parts S R (x ∷ xs) (x' ∷ xs') ys ys' e (inr o) = inr (one_from_parts S R xs xs' ys ys' e.1 (inr o))
one_from_parts S R [] (x' ∷ xs') ys ys' e o = absurd e
one_from_parts S R (x ∷ xs) [] ys ys' e o = absurd e

pub one_of_parts : {P : Type 0} (S R : P → P → Type 0) (xs xs' ys ys' : List P) → EachBecame S xs xs'
    → OneBecame R (xs ++ ys) (xs' ++ ys') → OneBecame R xs xs' ⊎ OneBecame R ys ys'
one_of_parts S R [] [] ys ys' e o = inr o
one_of_parts S R (x ∷ xs) (x' ∷ xs') ys ys' e (inl r) = inl (inl r)
one_of_parts S R (x ∷ xs) (x' ∷ xs') ys ys' e (inr o) =
    elim (one_of_parts S R xs xs' ys ys' e.1 o) [ inl p ↦ inl (inr p) | inr p ↦ inr p ]
one_of_parts S R [] (x' ∷ xs') ys ys' e o = absurd e
one_of_parts S R (x ∷ xs) [] ys ys' e o = absurd e

-- ---- a weaker relation

pub each_weaker : {P : Type 0} (R S : P → P → Type 0) (xs ys : List P) → ((x y : P) → R x y → S x y) → EachBecame R xs ys → EachBecame S xs ys
each_weaker R S [] [] f e = e
each_weaker R S (x ∷ xs) (y ∷ ys) f e = (f x y e.0, each_weaker R S xs ys f e.1)
each_weaker R S [] (y ∷ ys) f e = absurd e
each_weaker R S (x ∷ xs) [] f e = absurd e

-- where each became one or the other, and none became the second, all became the first
pub all_first : {P : Type 0} (C : P → Type 0) (F : P → P → Type 0) (xs ys : List P) → EachBecame (λ x y. C y ⊎ F x y) xs ys
    → ¬ (OneBecame F xs ys) → All C ys
all_first C F [] [] e none = All-nil C
all_first C F (x ∷ xs) (y ∷ ys) (inl c, e) none = All-cons C y ys c (all_first C F xs ys e (λ o. none (inr o)))
all_first C F (x ∷ xs) (y ∷ ys) (inr f, e) none = absurd (none (inl f))
all_first C F [] (y ∷ ys) e none = absurd e
all_first C F (x ∷ xs) [] e none = absurd e
