-- What is left of a list on a walk; and tests of each two that follow one another.
use Rattle.std.proofs.Common.{◌≡◌, ℕ, ◌+◌, ◌<◌, Bool, true, false, List, [], ◌∷◌, map, drop, length, get_or, nat_lt, refl, sym, ap, ◌∙◌, true≢false, add-one, drop-cons, suc, arith}
use Rattle.std.specs.Prelude.{⊤}
use Rattle.std.specs.List.{IsAllAdjacentAnswer}
use Rattle.lemmas.specs.Sorting.{is_sorted_by}
use Rattle.lemmas.proofs.Sorting.{adjacent_from_sorted, sorted_from_adjacent, map-is_sorted}

-- what is left of a list begins with the member at that place
pub drop_step : {A : Type 0} (xs : List A) (i : ℕ) (x : A) → i < length xs → x ≡ get_or xs i x → drop i xs ≡ x ∷ drop (i + 1) xs
drop_step xs i x h e = rw (add-one, drop-cons xs i x) (ap (λ y. y ∷ drop (suc i) xs) (sym e))

pub drop_next : {A : Type 0} (xs : List A) (i : ℕ) (d : A) → i < length xs → drop i xs ≡ get_or xs i d ∷ drop (i + 1) xs
drop_next xs i d h = rw (add-one, drop-cons xs i d)

-- what a walk over each two that follow one another answers
sorted_answer : {A : Type 0} (before : A → A → Bool) (xs : List A) (r : Bool) → IsAllAdjacentAnswer (λ x y b. b ≡ before x y) xs r → (d : A) → r ≡ is_sorted_by before xs
sorted_answer before xs true h d = sym (sorted_from_adjacent before xs (λ k d l. sym (h k d l)))
sorted_answer before xs false (k, l, h) d = by (is_sorted_by before xs) refl
  where
    by : (b : Bool) → is_sorted_by before xs ≡ b → false ≡ b
    by true e = absurd (true≢false (sym (adjacent_from_sorted before xs e k d l) ∙ sym (h d)))
    by false e = refl

-- what a walk over each two that follow one another answers, where they are told apart by key
pub keys_answer : {A : Type 0} (key : A → ℕ) (xs : List A) (r : Bool) → IsAllAdjacentAnswer (λ x y b. b ≡ nat_lt (key x) (key y)) xs r → r ≡ is_sorted_by nat_lt (map key xs)
keys_answer key [] true h = refl
keys_answer key [] false (k, l, h) = absurd (omega (arith, l))
keys_answer key (x ∷ xs) r h =
    sorted_answer (λ x y. nat_lt (key x) (key y)) (x ∷ xs) r h x
    ∙ sym (map-is_sorted (λ _. ⊤) (λ x y. nat_lt (key x) (key y)) nat_lt key (λ x y p q. refl) (x ∷ xs) (λ k d l. tt))
