-- Rings by their places: of which faces they are, and which of them are outer ones, inner ones or flat.
use Rattle.std.proofs.Common.{◌≡◌, ℕ, ◌<◌, ◌==◌, Bool, true, false, ◌||◌, cond, if◌then◌else◌, ℤ, pos, int_lt, List, [], ◌∷◌, length, get_or, map, filter, All, refl, sym, ap, ap₂, ◌∙◌, subst, arith}
use Rattle.std.specs.Prelude.{Option, Some, None, option_map, find, unwrap_or}
use Rattle.std.proofs.lemmas.Option.{none-some}
use Rattle.std.specs.List.{list_any, range_with_len}
use Rattle.std.specs.Ordering.{int_eq}
use Rattle.std.proofs.lemmas.List.{get_or-map}
use Rattle.std.proofs.lemmas.List.Elements.{All-head, All-tail}
use Rattle.std.proofs.lemmas.List.FromFn.{fill_by_all, get_or-range_with_len, length-range_with_len}
use Rattle.lemmas.proofs.Members.{filter_agree_on}
use Rattle.tgap_model.specs.declared.geometry.Point.{Point}
use Rattle.ring_walk.specs.declared.side.Side.{Side}
use Rattle.ring_walk.specs.Areas.{ring_area}
use Rattle.topo_write.specs.Building.{area_at, inner_places, outer_places, ring_at}
use Rattle.topo_write.specs.Polygons.{first_ring, flat_among, is_flat, is_inner, is_outer}

-- ---- filters of what is mapped

pub filter-map : {A B : Type 0} (q : B → Bool) (f : A → B) (xs : List A) → filter q (map f xs) ≡ map f (filter (λ x. q (f x)) xs)
filter-map q f [] = refl
filter-map {A} {B} q f (x ∷ xs) = ap (λ (ys : List B). cond (q (f x)) (f x ∷ ys) ys) (filter-map q f xs) ∙ by (q (f x)) (filter (λ y. q (f y)) xs)
  where
    by : (b : Bool) (ys : List A) → cond b (f x ∷ map f ys) (map f ys) ≡ map f (cond b (x ∷ ys) ys)
    by true ys = refl
    by false ys = refl

-- what has the number j under f, by its places in the list of numbers
pub by_places : {A : Type 0} (f : A → ℕ) (xs : List A) (d : A) (j : ℕ) → map (λ k. get_or xs k d) (filter (λ k. get_or (map f xs) k 0 == j) (range_with_len 0 (length xs))) ≡ filter (λ x. f x == j) xs
by_places {A} f xs d j =
    ap (map (λ k. get_or xs k d)) (filter_agree_on (λ k. get_or (map f xs) k 0 == j) (λ k. f (get_or xs k d) == j) (range_with_len 0 (length xs)) agree)
    ∙ sym (ap (filter (λ x. f x == j)) (fill_by_all (λ k. get_or xs k d) xs (length xs) d refl (λ k l. refl)) ∙ filter-map (λ x. f x == j) (λ k. get_or xs k d) (range_with_len 0 (length xs)))
  where
    agree : All (λ k. (get_or (map f xs) k 0 == j) ≡ (f (get_or xs k d) == j)) (range_with_len 0 (length xs))
    agree i e l =
        let short : i < length xs = omega (arith, l, length-range_with_len 0 (length xs)) in
        let at : get_or (range_with_len 0 (length xs)) i e ≡ i = omega (arith, get_or-range_with_len 0 (length xs) i e short) in
        subst (λ k. (get_or (map f xs) k 0 == j) ≡ (f (get_or xs k d) == j)) (sym at) (ap (λ n. n == j) (get_or-map f xs i d 0 short))

-- ---- the areas of rings at their places

pub area_is : (lines : List (List Point)) (rings : List (List Side)) (areas : List ℤ) (p : ℕ) → areas ≡ map (ring_area lines) rings → p < length rings → area_at areas p ≡ ring_area lines (ring_at rings p)
area_is lines rings areas p e l = ap (λ zs. area_at zs p) e ∙ get_or-map (ring_area lines) rings p [] (pos 0) l

places_by : (lines : List (List Point)) (rings : List (List Side)) (areas : List ℤ) (test : ℤ → Bool) (places : List ℕ) → areas ≡ map (ring_area lines) rings → All (λ p. p < length rings) places
    → map (ring_at rings) (filter (λ p. test (area_at areas p)) places) ≡ filter (λ r. test (ring_area lines r)) (map (ring_at rings) places)
places_by lines rings areas test places e within =
    ap (map (ring_at rings)) (filter_agree_on (λ p. test (area_at areas p)) (λ p. test (ring_area lines (ring_at rings p))) places
    (λ k d l. ap test (area_is lines rings areas (get_or places k d) e (within k d l))))
    ∙ sym (filter-map (λ r. test (ring_area lines r)) (ring_at rings) places)

pub outer_are : (lines : List (List Point)) (rings : List (List Side)) (areas : List ℤ) (places : List ℕ) → areas ≡ map (ring_area lines) rings → All (λ p. p < length rings) places
    → map (ring_at rings) (outer_places areas places) ≡ filter (is_outer lines) (map (ring_at rings) places)
outer_are lines rings areas places e within = places_by lines rings areas (λ z. int_lt (pos 0) z) places e within

pub inner_are : (lines : List (List Point)) (rings : List (List Side)) (areas : List ℤ) (places : List ℕ) → areas ≡ map (ring_area lines) rings → All (λ p. p < length rings) places
    → map (ring_at rings) (inner_places areas places) ≡ filter (is_inner lines) (map (ring_at rings) places)
inner_are lines rings areas places e within = places_by lines rings areas (λ z. int_lt z (pos 0)) places e within

-- ---- flat rings by their places

find-map : {A B : Type 0} (q : B → Bool) (f : A → B) (xs : List A) → find q (map f xs) ≡ option_map f (find (λ x. q (f x)) xs)
find-map q f [] = refl
find-map {A} {B} q f (x ∷ xs) = ap (λ (o : Option B). cond (q (f x)) (Some (f x)) o) (find-map q f xs) ∙ by (q (f x)) (find (λ y. q (f y)) xs)
  where
    by : (b : Bool) (o : Option A) → cond b (Some (f x)) (option_map f o) ≡ option_map f (cond b (Some x) o)
    by true o = refl
    by false o = refl

find_agree : {A : Type 0} (p q : A → Bool) (xs : List A) → All (λ x. p x ≡ q x) xs → find p xs ≡ find q xs
find_agree p q [] h = refl
find_agree {A} p q (x ∷ xs) h = ap₂ (λ (b : Bool) (o : Option A). cond b (Some x) o) (All-head (λ y. p y ≡ q y) x xs h) (find_agree p q xs (All-tail (λ y. p y ≡ q y) x xs h))

any_agree : {A B : Type 0} (p : A → Bool) (q : B → Bool) (f : A → B) (xs : List A) → All (λ x. p x ≡ q (f x)) xs → list_any p xs ≡ list_any q (map f xs)
any_agree p q f [] h = refl
any_agree p q f (x ∷ xs) h = ap₂ (λ (b c : Bool). b || c) (All-head (λ y. p y ≡ q (f y)) x xs h) (any_agree p q f xs (All-tail (λ y. p y ≡ q (f y)) x xs h))

pub find_flat : (lines : List (List Point)) (rings : List (List Side)) (areas : List ℤ) (places : List ℕ) → areas ≡ map (ring_area lines) rings → All (λ p. p < length rings) places
    → find (is_flat lines) (map (ring_at rings) places) ≡ option_map (ring_at rings) (find (λ p. int_eq (area_at areas p) (pos 0)) places)
find_flat lines rings areas places e within =
    find-map (is_flat lines) (ring_at rings) places
    ∙ ap (option_map (ring_at rings)) (sym (find_agree (λ p. int_eq (area_at areas p) (pos 0)) (λ p. is_flat lines (ring_at rings p)) places
    (λ k d l. ap (λ z. int_eq z (pos 0)) (area_is lines rings areas (get_or places k d) e (within k d l)))))

pub any_outer : (lines : List (List Point)) (rings : List (List Side)) (areas : List ℤ) (places : List ℕ) → areas ≡ map (ring_area lines) rings → All (λ p. p < length rings) places
    → list_any (λ p. int_lt (pos 0) (area_at areas p)) places ≡ list_any (is_outer lines) (map (ring_at rings) places)
any_outer lines rings areas places e within =
    any_agree (λ p. int_lt (pos 0) (area_at areas p)) (is_outer lines) (ring_at rings) places (λ k d l. ap (λ z. int_lt (pos 0) z) (area_is lines rings areas (get_or places k d) e (within k d l)))

-- what is found is one of those that are looked through
pub find_holds : {A : Type 0} (p : A → Bool) (P : A → Type 0) (xs : List A) (x : A) → find p xs ≡ Some x → All P xs → P x
find_holds p P [] x e h = absurd (none-some x e)
find_holds {A} p P (y ∷ xs) x e h = by (p y) e (λ f. find_holds p P xs x f (All-tail P y xs h))
  where
    by : (b : Bool) → cond b (Some y) (find p xs) ≡ Some x → (find p xs ≡ Some x → P x) → P x
    by true f rest = subst P (ap (λ (o : Option A). unwrap_or o y) f) (All-head P y xs h)
    by false f rest = rest f

-- the ring by which a face is no polygon, from the flat one that was found, or from there being none
abbrev among_by : List (List Side) → Bool → Option (List Side) → Option (List Side)
among_by rings b o = elim o [ Some r ↦ Some r | None ↦ if b then None else Some (first_ring rings) ]

pub flat_here : (lines : List (List Point)) (rings : List (List Side)) (areas : List ℤ) (places : List ℕ) (p : ℕ) → areas ≡ map (ring_area lines) rings → All (λ q. q < length rings) places
    → Some p ≡ find (λ q. int_eq (area_at areas q) (pos 0)) places → flat_among lines (map (ring_at rings) places) ≡ Some (ring_at rings p)
flat_here lines rings areas places p e within found =
    ap (among_by (map (ring_at rings) places) (list_any (is_outer lines) (map (ring_at rings) places))) (find_flat lines rings areas places e within ∙ ap (option_map (ring_at rings)) (sym found))

pub flat_else : (lines : List (List Point)) (rings : List (List Side)) (areas : List ℤ) (places : List ℕ) (b : Bool) → areas ≡ map (ring_area lines) rings → All (λ q. q < length rings) places
    → None ≡ find (λ q. int_eq (area_at areas q) (pos 0)) places → list_any (λ q. int_lt (pos 0) (area_at areas q)) places ≡ b
    → flat_among lines (map (ring_at rings) places) ≡ among_by (map (ring_at rings) places) b None
flat_else lines rings areas places b e within found any =
    ap₂ (among_by (map (ring_at rings) places)) (sym (any_outer lines rings areas places e within) ∙ any) (find_flat lines rings areas places e within ∙ ap (option_map (ring_at rings)) (sym found))
