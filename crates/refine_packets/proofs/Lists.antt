-- Lists that are made of what their members give.
use Rattle.std.proofs.Common.{◌≡◌, inl, inr, ℕ, ◌+◌, ◌||◌, Bool, true, false, cond, List, [], ◌∷◌, ◌++◌, sum_by, Option, Some, None, refl, sym, ap, ap₂, ◌∙◌, arith}
use Rattle.std.specs.Prelude.{flat_map, find}
use Rattle.std.specs.List.{list_any}
use Rattle.std.specs.Option.{is_some}
use Rattle.std.proofs.lemmas.List.Sums.{sum_by-append}
use Rattle.map_laws.proofs.ChainMembers.{Among, append_among}

module _ {A B : Type 0} where
  -- what one of two tests leaves of a list that a third makes of a list
  pub flat_map-conditional : (needed : A → Bool) (v : A → B) {C : Type 0} (g : B → List C) (xs : List A)
      → flat_map g (flat_map (λ x. cond (needed x) (v x ∷ []) []) xs) ≡ flat_map (λ x. cond (needed x) (g (v x)) []) xs
  flat_map-conditional needed v g [] = refl
  flat_map-conditional needed v {C} g (x ∷ xs) = by (needed x) (flat_map-conditional needed v g xs)
    where
      by : (b : Bool) → flat_map g (flat_map (λ x. cond (needed x) (v x ∷ []) []) xs) ≡ flat_map (λ x. cond (needed x) (g (v x)) []) xs
          → flat_map g (cond b (v x ∷ []) [] ++ flat_map (λ x. cond (needed x) (v x ∷ []) []) xs) ≡ cond b (g (v x)) [] ++ flat_map (λ x. cond (needed x) (g (v x)) []) xs
      by true e = ap (λ (cs : List C). g (v x) ++ cs) e
      by false e = e

  -- a sum over what the members give, as two sums
  pub two_sums : (f : B → ℕ) (p q r : A → List B) (xs : List A) → ((x : A) → Among x xs → sum_by f (p x) ≡ sum_by f (q x) + sum_by f (r x))
      → sum_by f (flat_map p xs) ≡ sum_by f (flat_map q xs) + sum_by f (flat_map r xs)
  two_sums f p q r [] each = refl
  two_sums f p q r (x ∷ xs) each =
      omega (
        arith,
        sum_by-append f (p x) (flat_map p xs),
        sum_by-append f (q x) (flat_map q xs),
        sum_by-append f (r x) (flat_map r xs),
        each x (inl refl),
        two_sums f p q r xs (λ y o. each y (inr o)),
      )

  -- two sums that agree member by member
  pub same_sums : (f g : B → ℕ) (p q : A → List B) (xs : List A) → ((x : A) → Among x xs → sum_by f (p x) ≡ sum_by g (q x))
      → sum_by f (flat_map p xs) ≡ sum_by g (flat_map q xs)
  same_sums f g p q [] each = refl
  same_sums f g p q (x ∷ xs) each =
      sum_by-append f (p x) (flat_map p xs) ∙ ap₂ (λ (a b : ℕ). a + b) (each x (inl refl)) (same_sums f g p q xs (λ y o. each y (inr o)))
      ∙ sym (sum_by-append g (q x) (flat_map q xs))

  -- a member of what the members give
  pub among_given : (f : A → List B) (xs : List A) (y : B) → Among y (flat_map f xs) → (x : A) × Among x xs × Among y (f x)
  among_given f [] y o = absurd o
  among_given f (x ∷ xs) y o = elim (append_among (f x) (flat_map f xs) y o) [
    | inl here ↦ (x, inl refl, here)
    | inr later ↦ (let g = among_given f xs y later in (g.0, inr g.1, g.2))
  ]

module _ {A : Type 0} (p : A → Bool) where
  -- a test that one passes finds one
  pub any_found : (xs : List A) → list_any p xs ≡ is_some (find p xs)
  any_found [] = refl
  any_found (x ∷ xs) = by (p x) (any_found xs)
    where
      by : (b : Bool) → list_any p xs ≡ is_some (find p xs) → (b || list_any p xs) ≡ is_some (cond b (Some x) (find p xs))
      by true e = refl
      by false e = e

  -- and one that all fail finds none
  pub none_found : (xs : List A) → ((x : A) → Among x xs → p x ≡ false) → find p xs ≡ None
  none_found [] fail = refl
  none_found (x ∷ xs) fail = ap₂ (λ (b : Bool) (o : Option A). cond b (Some x) o) (fail x (inl refl)) (none_found xs (λ y o. fail y (inr o)))

  -- what is found is a member
  pub found_among : (xs : List A) (x : A) → find p xs ≡ Some x → Among x xs
  found_among [] x e = absurd cc
  found_among (y ∷ ys) x e = by (p y) (found_among ys x) e
    where
      by : (b : Bool) → (find p ys ≡ Some x → Among x ys) → cond b (Some y) (find p ys) ≡ Some x → Among x (y ∷ ys)
      by true rest f = inl (ap (λ (o : Option A). elim o [ None ↦ y | Some z ↦ z ]) f)
      by false rest f = inr (rest f)
