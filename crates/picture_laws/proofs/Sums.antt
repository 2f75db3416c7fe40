-- Sums of integers over lists, and the part of each that is positive and the part that is negative.
use Rattle.std.proofs.Common.{◌≡◌, ℕ, suc, ℤ, pos, negsuc, ◌+ℤ◌, ◌-ℤ◌, List, [], ◌∷◌, ◌++◌, map, All, refl, sym, ap, ap₂, ◌∙◌, arith}
use Rattle.std.specs.Prelude.{fold, flat_map, sum_by}
use Rattle.std.proofs.lemmas.Int.{ints}
use Rattle.std.proofs.lemmas.List.Elements.{All-head, All-tail}
use Rattle.std.proofs.lemmas.List.Sums.{sum_by-cons}

-- the sum over the members of a list
abbrev pub int_sum : {A : Type 0} → (A → ℤ) → List A → ℤ
int_sum v [] = pos 0
int_sum v (x ∷ xs) = v x +ℤ int_sum v xs

-- ---- laws of sums

module _ {A : Type 0} where
  -- a fold from a number on adds to it
  pub fold_sum : (v : A → ℤ) (s : ℤ) (xs : List A) → fold (λ sum x. sum +ℤ v x) s xs ≡ s +ℤ int_sum v xs
  fold_sum v s [] = omega (arith, ints)
  fold_sum v s (x ∷ xs) = let rest = fold_sum v (s +ℤ v x) xs in omega (arith, ints, rest)

  pub fold_is_sum : (v : A → ℤ) (xs : List A) → fold (λ sum x. sum +ℤ v x) (pos 0) xs ≡ int_sum v xs
  fold_is_sum v xs = let e = fold_sum v (pos 0) xs in omega (arith, ints, e)

  pub int_sum-append : (v : A → ℤ) (xs ys : List A) → int_sum v (xs ++ ys) ≡ int_sum v xs +ℤ int_sum v ys
  int_sum-append v [] ys = omega (arith, ints)
  int_sum-append v (x ∷ xs) ys = let rest = int_sum-append v xs ys in omega (arith, ints, rest)

  -- numbers that agree on the members have one sum
  pub int_sum-agree : (v w : A → ℤ) (xs : List A) → All (λ x. v x ≡ w x) xs → int_sum v xs ≡ int_sum w xs
  int_sum-agree v w [] h = refl
  int_sum-agree v w (x ∷ xs) h =
      ap₂ (λ a b. a +ℤ b) (All-head (λ y. v y ≡ w y) x xs h) (int_sum-agree v w xs (All-tail (λ y. v y ≡ w y) x xs h))

  pub int_sum-same : (v w : A → ℤ) → ((x : A) → v x ≡ w x) → (xs : List A) → int_sum v xs ≡ int_sum w xs
  int_sum-same v w h [] = refl
  int_sum-same v w h (x ∷ xs) = ap₂ (λ a b. a +ℤ b) (h x) (int_sum-same v w h xs)

  -- a sum of zeros
  pub int_sum-zero : (v : A → ℤ) → ((x : A) → v x ≡ pos 0) → (xs : List A) → int_sum v xs ≡ pos 0
  int_sum-zero v h [] = refl
  int_sum-zero v h (x ∷ xs) = let here = h x in let rest = int_sum-zero v h xs in omega (arith, ints, here, rest)

  -- sums of differences
  pub int_sum-sub : (v w : A → ℤ) (xs : List A) → int_sum (λ x. v x -ℤ w x) xs ≡ int_sum v xs -ℤ int_sum w xs
  int_sum-sub v w [] = omega (arith, ints)
  int_sum-sub v w (x ∷ xs) = let rest = int_sum-sub v w xs in omega (arith, ints, rest)

pub int_sum-map : {A B : Type 0} (v : B → ℤ) (f : A → B) (xs : List A) → int_sum v (map f xs) ≡ int_sum (λ x. v (f x)) xs
int_sum-map v f [] = refl
int_sum-map v f (x ∷ xs) = ap (λ s. v (f x) +ℤ s) (int_sum-map v f xs)

pub int_sum-flat_map : {A B : Type 0} (v : B → ℤ) (f : A → List B) (xs : List A) → int_sum v (flat_map f xs) ≡ int_sum (λ x. int_sum v (f x)) xs
int_sum-flat_map v f [] = refl
int_sum-flat_map v f (x ∷ xs) = int_sum-append v (f x) (flat_map f xs) ∙ ap (λ s. int_sum v (f x) +ℤ s) (int_sum-flat_map v f xs)

-- a sum over two lists in either order
pub int_sum-swap : {A B : Type 0} (v : A → B → ℤ) (xs : List A) (ys : List B)
    → int_sum (λ x. int_sum (v x) ys) xs ≡ int_sum (λ y. int_sum (λ x. v x y) xs) ys
int_sum-swap v [] ys = sym (int_sum-zero (λ y. pos 0) (λ y. refl) ys)
int_sum-swap v (x ∷ xs) ys = ap (λ s. int_sum (v x) ys +ℤ s) (int_sum-swap v xs ys) ∙ joined (v x) (λ y. int_sum (λ z. v z y) xs) ys
  where
    joined : {B : Type 0} (f g : B → ℤ) (ys : List B) → int_sum f ys +ℤ int_sum g ys ≡ int_sum (λ y. f y +ℤ g y) ys
    joined f g [] = omega (arith, ints)
    joined f g (y ∷ ys) = let rest = joined f g ys in omega (arith, ints, rest)

-- ---- the two parts of a number

-- the number itself where it is positive, and else 0
abbrev pub above_zero : ℤ → ℕ
above_zero (pos n) = n
above_zero (negsuc n) = 0

-- how far it is below 0
abbrev pub below_zero : ℤ → ℕ
below_zero (pos n) = 0
below_zero (negsuc n) = suc n

parts_are : (z : ℤ) → z ≡ pos (above_zero z) -ℤ pos (below_zero z)
parts_are (pos n) = omega (arith, ints)
parts_are (negsuc n) = omega (arith, ints)

pub sum_parts : {A : Type 0} (v : A → ℤ) (xs : List A) → int_sum v xs ≡ pos (sum_by (λ x. above_zero (v x)) xs) -ℤ pos (sum_by (λ x. below_zero (v x)) xs)
sum_parts v [] = omega (arith, ints)
sum_parts v (x ∷ xs) =
    let here = parts_are (v x) in
    let rest = sum_parts v xs in
    let up = sum_by-cons (λ y. above_zero (v y)) x xs in
    let down = sum_by-cons (λ y. below_zero (v y)) x xs in
    omega (arith, ints, here, rest, up, down)

-- so two sums are one where those of their parts are
pub same_parts : {A B : Type 0} (v : A → ℤ) (w : B → ℤ) (xs : List A) (ys : List B)
    → sum_by (λ x. above_zero (v x)) xs ≡ sum_by (λ y. above_zero (w y)) ys
    → sum_by (λ x. below_zero (v x)) xs ≡ sum_by (λ y. below_zero (w y)) ys
    → int_sum v xs ≡ int_sum w ys
same_parts v w xs ys up down =
    sum_parts v xs ∙ ap₂ (λ m n. pos m -ℤ pos n) up down ∙ sym (sum_parts w ys)
