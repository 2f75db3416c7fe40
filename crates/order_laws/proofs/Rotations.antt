-- Laws of lists in one cyclic order.
use Rattle.std.proofs.Common.{append-nil, ◌≡◌, ◌≢◌, ◌⊎◌, inl, inr, Bool, List, [], ◌∷◌, ◌++◌, map, filter, append_assoc, refl, sym, ap, ◌∙◌}
use Rattle.std.proofs.lemmas.List.{map-append}
use Rattle.std.proofs.lemmas.List.Elements.{filter-append}
use Rattle.order_laws.specs.NodeOrder.{IsRotation}

-- ---- two ways to put one list together from two parts

cons_head : {A : Type 0} (x y : A) (xs ys : List A) → x ∷ xs ≡ y ∷ ys → x ≡ y
cons_head x y xs ys e = cc

cons_tail : {A : Type 0} (x y : A) (xs ys : List A) → x ∷ xs ≡ y ∷ ys → xs ≡ ys
cons_tail x y xs ys e = cc

-- the first part begins with the first part of the other way, and what is between is in the second part there
abbrev Begins : {A : Type 0} → List A → List A → List A → List A → Type 0
Begins {A} xs ys us vs = (ws : List A) × (us ≡ xs ++ ws) × (ys ≡ ws ++ vs)

-- the first part of one begins with that of the other
two_splits : {A : Type 0} (xs ys us vs : List A) → xs ++ ys ≡ us ++ vs → Begins xs ys us vs ⊎ Begins us vs xs ys
two_splits [] ys us vs e = inl (us, refl, e)
two_splits (x ∷ xs) ys [] vs e = inr (x ∷ xs, refl, sym e)
two_splits {A} (x ∷ xs) ys (u ∷ us) vs e = by (two_splits xs ys us vs (cons_tail x u (xs ++ ys) (us ++ vs) e))
  where
    head : x ≡ u
    head = cons_head x u (xs ++ ys) (us ++ vs) e

    by : Begins xs ys us vs ⊎ Begins us vs xs ys → Begins (x ∷ xs) ys (u ∷ us) vs ⊎ Begins (u ∷ us) vs (x ∷ xs) ys
    by (inl (ws, f, g)) = inl (ws, ap (λ (zs : List A). u ∷ zs) f ∙ ap (λ (z : A). z ∷ (xs ++ ws)) (sym head), g)
    by (inr (ws, f, g)) = inr (ws, ap (λ (zs : List A). x ∷ zs) f ∙ ap (λ (z : A). z ∷ (us ++ ws)) head, g)

-- ---- one cyclic order

module _ {A : Type 0} where
  pub rotation_self : (xs : List A) → IsRotation xs xs
  rotation_self xs = record { front = []; back = xs; was = refl; is = sym (append-nil xs) }

  pub rotation_same : (xs ys : List A) → xs ≡ ys → IsRotation xs ys
  rotation_same xs ys e = record { front = []; back = xs; was = refl; is = sym e ∙ sym (append-nil xs) }

  -- the first member goes to the end, or the last one to the front
  pub rotation_first : (x : A) (xs : List A) → IsRotation (x ∷ xs) (xs ++ x ∷ [])
  rotation_first x xs = record { front = x ∷ []; back = xs; was = refl; is = refl }

  pub rotation_last : (x : A) (xs : List A) → IsRotation (xs ++ x ∷ []) (x ∷ xs)
  rotation_last x xs = record { front = xs; back = x ∷ []; was = refl; is = refl }

  pub rotation_then : (xs ys zs : List A) → IsRotation xs ys → IsRotation ys zs → IsRotation xs zs
  rotation_then xs ys zs r s = by (two_splits r.back r.front s.front s.back (sym r.is ∙ s.was))
    where
      by : Begins r.back r.front s.front s.back ⊎ Begins s.front s.back r.back r.front → IsRotation xs zs
      by (inl (ws, f, g)) = record {
        front = ws;
        back = s.back ++ r.back;
        was = r.was ∙ ap (λ us. us ++ r.back) g ∙ append_assoc ws s.back r.back;
        is = s.is ∙ ap (λ us. s.back ++ us) f ∙ sym (append_assoc s.back r.back ws);
      }
      by (inr (ws, f, g)) = record {
        front = r.front ++ s.front;
        back = ws;
        was = r.was ∙ ap (λ us. r.front ++ us) f ∙ sym (append_assoc r.front s.front ws);
        is = s.is ∙ ap (λ us. us ++ s.front) g ∙ append_assoc ws r.front s.front;
      }

  -- what a filter keeps
  pub rotation_kept : (p : A → Bool) (xs ys : List A) → IsRotation xs ys → IsRotation (filter p xs) (filter p ys)
  rotation_kept p xs ys r = record {
    front = filter p r.front;
    back = filter p r.back;
    was = ap (filter p) r.was ∙ filter-append p r.front r.back;
    is = ap (filter p) r.is ∙ filter-append p r.back r.front;
  }

  -- the values of a function
  pub rotation_mapped : {B : Type 0} (f : A → B) (xs ys : List A) → IsRotation xs ys → IsRotation (map f xs) (map f ys)
  rotation_mapped f xs ys r = record {
    front = map f r.front;
    back = map f r.back;
    was = ap (map f) r.was ∙ map-append f r.front r.back;
    is = ap (map f) r.is ∙ map-append f r.back r.front;
  }

  -- where one has members the other has
  pub rotation_some : (xs ys : List A) → IsRotation xs ys → ys ≢ [] → xs ≢ []
  rotation_some xs ys r some none = by r.front r.back (sym r.was ∙ none) (λ e. some (r.is ∙ e))
    where
      by : (us vs : List A) → us ++ vs ≡ [] → (vs ++ us ≡ [] → ⊥) → ⊥
      by [] [] e n = n refl
      by [] (v ∷ vs) e n = absurd cc
      by (u ∷ us) vs e n = absurd cc
