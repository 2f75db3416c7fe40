-- Filters of lists.
use Rattle.std.proofs.Common.{◌≡◌, inl, inr, ℕ, ◌&&◌, Bool, true, false, not, nat_lt, cond, List, [], ◌∷◌, ◌++◌, map, filter, IsPermutation, refl, sym, ap, ap₂, ◌∙◌, subst}
use Rattle.std.specs.Prelude.{⊤, flat_map, find, Option, Some}
use Rattle.std.specs.List.{list_all}
use Rattle.std.proofs.Math.Bool.{and-true, and-false}
use Rattle.std.proofs.lemmas.Bool.{and_parts, and_from}
use Rattle.std.proofs.lemmas.List.Elements.{filter-append}
use Rattle.std.proofs.lemmas.List.Sorted.{IsPermutation-filter_both, IsPermutation-append_comm, IsPermutation-append_left, IsPermutation-trans, IsPermutation-sym}
use Rattle.lemmas.specs.Sorting.{is_sorted_by}
use Rattle.lemmas.proofs.Orders.{nat_lt_order, order_by_key}
use Rattle.lemmas.proofs.Sorting.{filter-is_sorted, map-is_sorted}
use Rattle.map_laws.proofs.ChainMembers.{Among}
use Rattle.map_laws.proofs.Lists.{all_members, map_among}

module _ {A B : Type 0} where
  -- a filter goes through what the members give
  pub filter-flat_map : (p : B → Bool) (f : A → List B) (xs : List A) → filter p (flat_map f xs) ≡ flat_map (λ x. filter p (f x)) xs
  filter-flat_map p f [] = refl
  filter-flat_map p f (x ∷ xs) = filter-append p (f x) (flat_map f xs) ∙ ap (λ (ys : List B). filter p (f x) ++ ys) (filter-flat_map p f xs)

  -- what members that fail give is nothing
  pub flat_map-filter : (p : A → Bool) (f : A → List B) (xs : List A) → flat_map (λ x. cond (p x) (f x) []) xs ≡ flat_map f (filter p xs)
  flat_map-filter p f [] = refl
  flat_map-filter p f (x ∷ xs) = by (p x) (flat_map-filter p f xs)
    where
      by : (b : Bool) → flat_map (λ x. cond {A = List B} (p x) (f x) []) xs ≡ flat_map f (filter p xs)
          → cond {A = List B} b (f x) [] ++ flat_map (λ x. cond {A = List B} (p x) (f x) []) xs ≡ flat_map f (cond b (x ∷ filter p xs) (filter p xs))
      by true e = ap (λ (ys : List B). f x ++ ys) e
      by false e = e

  pub flat_map-agree : (f g : A → List B) (xs : List A) → ((x : A) → Among x xs → f x ≡ g x) → flat_map f xs ≡ flat_map g xs
  flat_map-agree f g [] same = refl
  flat_map-agree f g (x ∷ xs) same = ap₂ (λ (ys zs : List B). ys ++ zs) (same x (inl refl)) (flat_map-agree f g xs (λ y o. same y (inr o)))

-- what holds of what is mapped
pub mapped_each : {A B : Type 0} (f : A → B) (P : B → Type 0) (xs : List A) → ((x : A) → Among x xs → P (f x)) → (y : B) → Among y (map f xs) → P y
mapped_each f P xs each y o = let x = map_among f xs y o in subst P x.2 (each x.0 x.1)

module _ {A : Type 0} where
  pub filter_agree : (p q : A → Bool) (xs : List A) → ((x : A) → Among x xs → p x ≡ q x) → filter p xs ≡ filter q xs
  filter_agree p q [] same = refl
  filter_agree p q (x ∷ xs) same = ap₂ (λ (b : Bool) (ys : List A). cond b (x ∷ ys) ys) (same x (inl refl)) (filter_agree p q xs (λ y o. same y (inr o)))

  -- where none passes, and where all do
  pub filter_nothing : (p : A → Bool) (xs : List A) → ((x : A) → Among x xs → p x ≡ false) → filter p xs ≡ []
  filter_nothing p [] none = refl
  filter_nothing p (x ∷ xs) none = ap₂ (λ (b : Bool) (ys : List A). cond b (x ∷ ys) ys) (none x (inl refl)) (filter_nothing p xs (λ y o. none y (inr o)))

  pub filter_whole : (p : A → Bool) (xs : List A) → ((x : A) → Among x xs → p x ≡ true) → filter p xs ≡ xs
  filter_whole p [] each = refl
  filter_whole p (x ∷ xs) each = ap₂ (λ (b : Bool) (ys : List A). cond b (x ∷ ys) ys) (each x (inl refl)) (filter_whole p xs (λ y o. each y (inr o)))

  -- one filter after another
  pub filter_twice : (p q : A → Bool) (xs : List A) → filter q (filter p xs) ≡ filter (λ x. p x && q x) xs
  filter_twice p q [] = refl
  filter_twice p q (x ∷ xs) = by (p x) (filter_twice p q xs)
    where
      by : (b : Bool) → filter q (filter p xs) ≡ filter (λ x. p x && q x) xs
          → filter q (cond b (x ∷ filter p xs) (filter p xs)) ≡ cond (b && q x) (x ∷ filter (λ x. p x && q x) xs) (filter (λ x. p x && q x) xs)
      by true e = ap (λ (ys : List A). cond (q x) (x ∷ ys) ys) e
      by false e = e

  -- where all members answer alike to a second test
  pub filter_and : (p q : A → Bool) (xs : List A) (v : Bool) → ((x : A) → Among x xs → q x ≡ v) → filter (λ x. p x && q x) xs ≡ cond v (filter p xs) []
  filter_and p q xs true each = filter_agree (λ x. p x && q x) p xs (λ x o. ap (λ (b : Bool). p x && b) (each x o) ∙ and-true (p x))
  filter_and p q xs false each = filter_nothing (λ x. p x && q x) xs (λ x o. ap (λ (b : Bool). p x && b) (each x o) ∙ and-false (p x))

  -- the first that passes one test is the same where those that fail another are left out, if what passes the one passes both
  pub find_filtered : (p q : A → Bool) (xs : List A) → ((x : A) → Among x xs → p x ≡ true → q x ≡ true) → find p (filter q xs) ≡ find p xs
  find_filtered p q [] both = refl
  find_filtered p q (x ∷ xs) both = by (p x) (q x) refl (both x (inl refl)) (find_filtered p q xs (λ y o. both y (inr o)))
    where
      by : (b c : Bool) → p x ≡ b → (b ≡ true → c ≡ true) → find p (filter q xs) ≡ find p xs
          → find p (cond c (x ∷ filter q xs) (filter q xs)) ≡ cond b (Some x) (find p xs)
      by b true e stays rest = ap₂ (λ (v : Bool) (o : Option A). cond v (Some x) o) e rest
      by true false e stays rest = let no = stays refl in absurd cc
      by false false e stays rest = rest

  -- a test of all members holds of those that are left
  pub all_filtered : (p q r : A → Bool) (xs : List A) → ((x : A) → Among x xs → q x ≡ true → p x ≡ true → r x ≡ true) → list_all p xs ≡ true
      → list_all r (filter q xs) ≡ true
  all_filtered p q r [] keep all = refl
  all_filtered p q r (x ∷ xs) keep all = by (q x) refl (all_filtered p q r xs (λ y o. keep y (inr o)) parts.1)
    where
      parts : (p x ≡ true) × (list_all p xs ≡ true)
      parts = and_parts (p x) (list_all p xs) all

      by : (b : Bool) → q x ≡ b → list_all r (filter q xs) ≡ true → list_all r (cond b (x ∷ filter q xs) (filter q xs)) ≡ true
      by true e rest = and_from (r x) (list_all r (filter q xs)) (keep x (inl refl) e parts.0) rest
      by false e rest = rest

  -- what fails a test, in any order, and then what passes it
  pub both_parts : (p : A → Bool) (xs ys : List A) → IsPermutation ys (filter (λ x. not (p x)) xs) → IsPermutation (ys ++ filter p xs) xs
  both_parts p xs ys moved =
      IsPermutation-trans (ys ++ filter p xs) (filter (λ x. not (p x)) xs ++ filter p xs) xs
      (IsPermutation-append_left (filter p xs) ys (filter (λ x. not (p x)) xs) moved)
      (IsPermutation-trans (filter (λ x. not (p x)) xs ++ filter p xs) (filter p xs ++ filter (λ x. not (p x)) xs) xs
      (IsPermutation-append_comm (filter (λ x. not (p x)) xs) (filter p xs))
      (IsPermutation-sym xs (filter p xs ++ filter (λ x. not (p x)) xs) (IsPermutation-filter_both p (λ x. not (p x)) (λ x. refl) xs)))

-- ---- ascending keys

module _ {A : Type 0} (key : A → ℕ) where
  keys_alike : (xs : List A) → is_sorted_by nat_lt (map key xs) ≡ is_sorted_by (λ x y. nat_lt (key x) (key y)) xs
  keys_alike xs = map-is_sorted (λ (x : A). ⊤) (λ x y. nat_lt (key x) (key y)) nat_lt key (λ x y p q. refl) xs (all_members (λ (x : A). ⊤) xs (λ x o. tt))

  -- the keys of a list in their order ascend
  pub keys_of : (xs : List A) → is_sorted_by (λ x y. nat_lt (key x) (key y)) xs ≡ true → is_sorted_by nat_lt (map key xs) ≡ true
  keys_of xs e = keys_alike xs ∙ e

  -- and so do those of members that are left
  pub keys_kept : (p : A → Bool) (xs : List A) → is_sorted_by nat_lt (map key xs) ≡ true → is_sorted_by nat_lt (map key (filter p xs)) ≡ true
  keys_kept p xs e =
      keys_of (filter p xs)
      (filter-is_sorted {P = λ (x : A). ⊤} {before = λ x y. nat_lt (key x) (key y)} (order_by_key key nat_lt_order) p xs (all_members (λ (x : A). ⊤) xs (λ x o. tt))
      (sym (keys_alike xs) ∙ e))
