-- A loop that maps a list in place, one more element at a time.
use Rattle.std.proofs.Common.{◌≡◌, ◌<◌, ℕ, ◌+◌, List, ◌∷◌, length, get_or, set, take, drop, map, sym, ◌∙◌, ap, arith, length-drop}
use Rattle.std.proofs.lemmas.List.{drop_more, take_more_set, drop-set-lt, map_more}

-- one more element of a list is mapped in place
pub mapped_next : {A : Type 0} (f : A → A) (xs ys : List A) (i : ℕ) (d y : A) → i < length ys → take i ys ≡ map f (take i xs) → drop i ys ≡ drop i xs
    → y ≡ f (get_or ys i d) → (take (i + 1) (set ys i y) ≡ map f (take (i + 1) xs)) × (drop (i + 1) (set ys i y) ≡ drop (i + 1) xs)
mapped_next f xs ys i d y p done left e =
    let short : i < length xs = omega (arith, ap length left, length-drop i ys, length-drop i xs) in
    let split : get_or ys i d ∷ drop (i + 1) ys ≡ get_or xs i d ∷ drop (i + 1) xs = sym (drop_more ys i d p) ∙ (left ∙ drop_more xs i d short) in
    let e1 = take_more_set ys i y p in
    let e2 = map_more f xs i d short in
    let e3 = drop-set-lt (i + 1) ys i y (omega arith) in
    (cc, cc)
