-- The headers that spans cover, one after another.
use Rattle.std.proofs.Common.{◌≡◌, ℕ, ◌<◌, ◌≤◌, Bool, true, false, codes, nat_lt, ◌||◌, List, [], ◌∷◌, ◌++◌, length, take, drop, get_or, map, filter, refl, sym, ap, ◌∙◌, arith, Option, Some, None, is_some, option_map, option_to_list, Err, suc, drop-cons}
use Rattle.std.specs.List.{list_any}
use Rattle.std.proofs.lemmas.List.{length-map, take-append-drop, map-append}
use Rattle.std.proofs.lemmas.List.Elements.{filter-append}
use Rattle.http_face.specs.Heads.{Header, is_named, values_of, body_of, body_of_values}

-- a test of what stands for each element
pub any_parts : {X Y : Type 0} (p : Y → Bool) (f : X → Y) → (xs : List X) → list_any p (map f xs) ≡ list_any (λ x. p (f x)) xs
any_parts p f [] = refl
any_parts p f (x ∷ xs) = ap (λ b. p (f x) || b) (any_parts p f xs)

-- the values of some headers, and then of others
values_append : {X : Type 0} (p : Header → Bool) (f : X → Header) (xs ys : List X)
    → map (λ h. h.1) (filter p (map f (xs ++ ys))) ≡ map (λ h. h.1) (filter p (map f xs)) ++ map (λ h. h.1) (filter p (map f ys))
values_append p f xs ys = simp (map-append, filter-append)

second : {X : Type 0} (p : Header → Bool) (f : X → Header) (xs : List X) (i : ℕ) (d : X) (first : List ℕ) → i < length xs
    → map (λ h. h.1) (filter p (map f (take i xs))) ≡ first ∷ [] → p (f (get_or xs i d)) ≡ true
    → body_of_values (map (λ h. h.1) (filter p (map f xs))) ≡ Err 400
second p f xs i d first lt one named =
    let next : drop i xs ≡ get_or xs i d ∷ drop (suc i) xs = drop-cons xs i d lt in
    let parts : map (λ h. h.1) (filter p (map f (drop i xs))) ≡ (f (get_or xs i d)).1 ∷ map (λ h. h.1) (filter p (map f (drop (suc i) xs))) = rw (next, named) refl in
    let whole = ap (λ ys. body_of_values (map (λ h. h.1) (filter p (map f ys)))) (sym (take-append-drop i xs)) in
    whole ∙ rw (values_append, one, parts) refl

-- where one length was found, a second one is a fault
pub second_length : {X Y : Type 0} (p : Header → Bool) (f : X → Header) (v : Y → List ℕ) (xs : List X) (i : ℕ) (d : X) (found : Option Y) → i < length xs
    → map (λ h. h.1) (filter p (map f (take i xs))) ≡ option_to_list (option_map v found) → is_some found ≡ true → p (f (get_or xs i d)) ≡ true
    → body_of_values (map (λ h. h.1) (filter p (map f xs))) ≡ Err 400
second_length p f v xs i d (Some y) lt one some named = second p f xs i d (v y) lt one named
second_length p f v xs i d None lt one some named = absurd cc

few_enough : {X : Type 0} (f : X → Header) (xs : List X) → length xs ≤ 64 → nat_lt 64 (length (map f xs)) ≡ false
few_enough f xs few = rw length-map (grind arith)

-- a transfer encoding is a fault
pub encoded : {X : Type 0} (f : X → Header) (xs : List X) → length xs ≤ 64
    → list_any (λ x. is_named (codes "transfer-encoding") (f x)) xs ≡ true → body_of (map f xs) ≡ Err 400
encoded f xs few named =
    let room : nat_lt 64 (length (map f xs)) ≡ false = few_enough f xs few in
    rw (room, any_parts, named) refl

-- without one the lengths decide
pub not_encoded : {X : Type 0} (f : X → Header) (xs : List X) → length xs ≤ 64
    → list_any (λ x. is_named (codes "transfer-encoding") (f x)) xs ≡ false → body_of (map f xs) ≡ body_of_values (values_of (codes "content-length") (map f xs))
not_encoded f xs few none =
    let room : nat_lt 64 (length (map f xs)) ≡ false = few_enough f xs few in
    rw (room, any_parts, none) refl
