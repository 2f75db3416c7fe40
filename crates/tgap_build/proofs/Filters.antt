-- Filters, one after the other and through maps.
use Rattle.std.proofs.Common.{◌≡◌, inl, inr, Bool, true, false, cond, ◌&&◌, List, [], ◌∷◌, map, filter, refl, ap, ap₂, ◌∙◌}
use Rattle.map_laws.proofs.ChainMembers.{Among}

-- maps that agree on the members
pub map_agree : {A B : Type 0} (f g : A → B) (xs : List A) → ((x : A) → Among x xs → f x ≡ g x) → map f xs ≡ map g xs
map_agree f g [] h = refl
map_agree f g (x ∷ xs) h = ap₂ (λ y ys. y ∷ ys) (h x (inl refl)) (map_agree f g xs (λ y m. h y (inr m)))

-- a filter that each member passes
pub filter_all : {A : Type 0} (p : A → Bool) (xs : List A) → ((x : A) → Among x xs → p x ≡ true) → filter p xs ≡ xs
filter_all p [] h = refl
filter_all p (x ∷ xs) h = ap (λ (b : Bool). cond b (x ∷ filter p xs) (filter p xs)) (h x (inl refl)) ∙ ap (λ ys. x ∷ ys) (filter_all p xs (λ y m. h y (inr m)))

-- a filter of a map
pub filter_map : {A B : Type 0} (p : B → Bool) (f : A → B) (xs : List A) → filter p (map f xs) ≡ map f (filter (λ x. p (f x)) xs)
filter_map p f [] = refl
filter_map p f (x ∷ xs) = by (p (f x)) (filter_map p f xs)
  where
    by : (b : Bool) → filter p (map f xs) ≡ map f (filter (λ x. p (f x)) xs)
        → cond b (f x ∷ filter p (map f xs)) (filter p (map f xs)) ≡ map f (cond b (x ∷ filter (λ x. p (f x)) xs) (filter (λ x. p (f x)) xs))
    by true e = ap (λ ys. f x ∷ ys) e
    by false e = e

-- a filter of a filter that it is stronger than
pub filter_stronger : {A : Type 0} (p q : A → Bool) (xs : List A) → ((x : A) → Among x xs → p x ≡ true → q x ≡ true) → filter p (filter q xs) ≡ filter p xs
filter_stronger p q [] h = refl
filter_stronger p q (x ∷ xs) h = by (q x) (p x) refl refl (filter_stronger p q xs (λ y m. h y (inr m)))
  where
    by : (b c : Bool) → q x ≡ b → p x ≡ c → filter p (filter q xs) ≡ filter p xs → filter p (cond b (x ∷ filter q xs) (filter q xs)) ≡ cond c (x ∷ filter p xs) (filter p xs)
    by true true u v e = ap (λ (d : Bool). cond d (x ∷ filter p (filter q xs)) (filter p (filter q xs))) v ∙ ap (λ ys. x ∷ ys) e
    by true false u v e = ap (λ (d : Bool). cond d (x ∷ filter p (filter q xs)) (filter p (filter q xs))) v ∙ e
    by false true u v e = absurd (let t = h x (inl refl) v in cc)
    by false false u v e = e

-- two filters are one by both tests
pub filter_both : {A : Type 0} (p q : A → Bool) (xs : List A) → filter p (filter q xs) ≡ filter (λ x. p x && q x) xs
filter_both p q [] = refl
filter_both p q (x ∷ xs) = by (q x) (p x) refl (filter_both p q xs)
  where
    by : (b c : Bool) → p x ≡ c → filter p (filter q xs) ≡ filter (λ x. p x && q x) xs
        → filter p (cond b (x ∷ filter q xs) (filter q xs)) ≡ cond (c && b) (x ∷ filter (λ x. p x && q x) xs) (filter (λ x. p x && q x) xs)
    by true true u h = ap (λ (d : Bool). cond d (x ∷ filter p (filter q xs)) (filter p (filter q xs))) u ∙ ap (λ ys. x ∷ ys) h
    by true false u h = ap (λ (d : Bool). cond d (x ∷ filter p (filter q xs)) (filter p (filter q xs))) u ∙ h
    by false true u h = h
    by false false u h = h
