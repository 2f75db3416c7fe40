-- Pairs of the members of a list: one member put in or taken out, and the pairs of the values of a function.
use Rattle.std.proofs.Common.{◌≡◌, List, [], ◌∷◌, ◌++◌, map, All, AllPairs}
use Rattle.std.specs.List.{list_all}
use Rattle.std.proofs.Common.{Bool, true}
use Rattle.std.proofs.lemmas.Bool.{and_parts}
use Rattle.std.proofs.lemmas.List.Elements.{All-nil, All-cons, All-head, All-tail, All-append, All-contains, All-map, Contains-append_left, Contains-append_right}
use Rattle.std.proofs.lemmas.List.Kept.{AllPairs-cons}
use Rattle.lemmas.proofs.Members.{in_head, All-from_members, AllPairs-nil, AllPairs-head, AllPairs-tail}

-- what holds of two lists together holds of each
pub all_left : {A : Type 0} (P : A → Type 0) (xs ys : List A) → All P (xs ++ ys) → All P xs
all_left P xs ys h = All-from_members P xs (λ x m. All-contains P (xs ++ ys) x h (Contains-append_left xs ys x m))

pub all_right : {A : Type 0} (P : A → Type 0) (xs ys : List A) → All P (xs ++ ys) → All P ys
all_right P xs ys h = All-from_members P ys (λ x m. All-contains P (xs ++ ys) x h (Contains-append_right xs ys x m))

-- a test that all pass
pub all_pass : {A : Type 0} (p : A → Bool) (xs : List A) → list_all p xs ≡ true → All (λ x. p x ≡ true) xs
all_pass p [] h = All-nil (λ x. p x ≡ true)
all_pass p (x ∷ xs) h = let parts = and_parts (p x) (list_all p xs) h in All-cons (λ y. p y ≡ true) x xs parts.0 (all_pass p xs parts.1)

module _ {A : Type 0} (R : A → A → Type 0) where
  -- a member in the middle against the others, and the others
  pub mid_before : (xs : List A) (y : A) (ys : List A) → AllPairs R (xs ++ y ∷ ys) → All (λ x. R x y) xs
  mid_before [] y ys h = All-nil (λ x. R x y)
  mid_before (x ∷ xs) y ys h = All-cons (λ z. R z y) x xs
      (All-contains (R x) (xs ++ y ∷ ys) y (AllPairs-head R x (xs ++ y ∷ ys) h) (Contains-append_right xs (y ∷ ys) y (in_head y ys)))
      (mid_before xs y ys (AllPairs-tail R x (xs ++ y ∷ ys) h))

  pub mid_after : (xs : List A) (y : A) (ys : List A) → AllPairs R (xs ++ y ∷ ys) → All (R y) ys
  mid_after [] y ys h = AllPairs-head R y ys h
  mid_after (x ∷ xs) y ys h = mid_after xs y ys (AllPairs-tail R x (xs ++ y ∷ ys) h)

  pub mid_out : (xs : List A) (y : A) (ys : List A) → AllPairs R (xs ++ y ∷ ys) → AllPairs R (xs ++ ys)
  mid_out [] y ys h = AllPairs-tail R y ys h
  mid_out (x ∷ xs) y ys h =
      let first = AllPairs-head R x (xs ++ y ∷ ys) h in
      AllPairs-cons R x (xs ++ ys)
      (All-append (R x) xs ys (all_left (R x) xs (y ∷ ys) first) (All-tail (R x) y ys (all_right (R x) xs (y ∷ ys) first)))
      (mid_out xs y ys (AllPairs-tail R x (xs ++ y ∷ ys) h))

  pub mid_in : (xs : List A) (y : A) (ys : List A) → AllPairs R (xs ++ ys) → All (λ x. R x y) xs → All (R y) ys → AllPairs R (xs ++ y ∷ ys)
  mid_in [] y ys h k l = AllPairs-cons R y ys l h
  mid_in (x ∷ xs) y ys h k l =
      let first = AllPairs-head R x (xs ++ ys) h in
      AllPairs-cons R x (xs ++ y ∷ ys)
      (All-append (R x) xs (y ∷ ys) (all_left (R x) xs ys first) (All-cons (R x) y ys (All-head (λ z. R z y) x xs k) (all_right (R x) xs ys first)))
      (mid_in xs y ys (AllPairs-tail R x (xs ++ ys) h) (All-tail (λ z. R z y) x xs k) l)

  -- the values of a function, where P holds of the members and it keeps the relation of those
  pub pairs_map : (f : A → A) (P : A → Type 0) → ((x y : A) → P x → P y → R x y → R (f x) (f y)) → (xs : List A) → All P xs → AllPairs R xs → AllPairs R (map f xs)
  pairs_map f P keeps [] p h = AllPairs-nil R
  pairs_map f P keeps (x ∷ xs) p h =
      AllPairs-cons R (f x) (map f xs)
      (All-map (R (f x)) f xs (All-from_members (λ y. R (f x) (f y)) xs (λ y m.
      keeps x y (All-head P x xs p) (All-contains P xs y (All-tail P x xs p) m) (All-contains (R x) xs y (AllPairs-head R x xs h) m))))
      (pairs_map f P keeps xs (All-tail P x xs p) (AllPairs-tail R x xs h))
