-- The place at which a test turns: between a chunk that begins with a number that passes and one that begins with a number that fails.
use Rattle.std.proofs.Common.{◌≡◌, ⊎_elim, ℕ, ◌+◌, ◌-◌, ◌<◌, ◌≤◌, List, [], length, take, get_or, All, sym, ap, ◌∙◌, subst, arith}
use Rattle.std.specs.List.{concat}
use Rattle.std.proofs.lemmas.Bool.{cases_lt}
use Rattle.std.proofs.lemmas.List.{get_or_default, take_all}
use Rattle.chunked_row.specs.Chunks.{HasSome}
use Rattle.chunked_row.proofs.Joined.{joined_more, joined_within, joined_get}

-- what holds of the numbers of the row holds of those of each chunk
pub All-chunks : (P : ℕ → Type 0) (xss : List (List ℕ)) → All P (concat xss) → All (All P) xss
All-chunks P xss h k e short i d within =
    let same = get_or_default xss k e [] short in
    let here : i < length (get_or xss k []) = subst (λ (zs : List ℕ). i < length zs) same within in
    subst (λ (zs : List ℕ). P (get_or zs i d)) (sym same)
    (subst P (joined_get xss k i d short here) (h (length (concat (take k xss)) + i) d (omega (arith, here, joined_within xss k short))))

-- the first number of a chunk in the row
pub first_of_chunk : (xss : List (List ℕ)) (k : ℕ) → All HasSome xss → k < length xss → get_or (concat xss) (length (concat (take k xss))) 0 ≡ get_or (get_or xss k []) 0 0
first_of_chunk xss k full short =
    let there : length (concat (take k xss)) + 0 ≡ length (concat (take k xss)) = omega arith in
    sym (ap (λ j. get_or (concat xss) j 0) there) ∙ joined_get xss k 0 0 short (full k [] short)

module _ (xss : List (List ℕ)) (k i : ℕ) (full : All HasSome xss) (short : k < length xss) (behind : 1 ≤ i) (within : i ≤ length (get_or xss k [])) where
  -- the number before the place is one of the chunk
  pub before_turn : (P : ℕ → Type 0) → P (get_or (get_or xss k []) 0 0) → (1 < i → P (get_or (get_or xss k []) (i - 1) 0)) → P (get_or (concat xss) ((length (concat (take k xss)) + i) - 1) 0)
  before_turn P first later =
      let there : length (concat (take k xss)) + (i - 1) ≡ (length (concat (take k xss)) + i) - 1 = omega arith in
      subst P (sym (joined_get xss k (i - 1) 0 short (omega arith)) ∙ ap (λ j. get_or (concat xss) j 0) there) (⊎_elim later one (cases_lt 1 i))
    where
      one : i ≤ 1 → P (get_or (get_or xss k []) (i - 1) 0)
      one le =
          let none : 0 ≡ i - 1 = omega arith in
          subst (λ j. P (get_or (get_or xss k []) j 0)) none first

  -- the number at it is one of the chunk, or the first of the next one
  pub at_turn : (P : ℕ → Type 0) → (i < length (get_or xss k []) → P (get_or (get_or xss k []) i 0)) → (k + 1 < length xss → P (get_or (get_or xss (k + 1) []) 0 0))
      → length (concat (take k xss)) + i < length (concat xss) → P (get_or (concat xss) (length (concat (take k xss)) + i) 0)
  at_turn P inside next less = ⊎_elim here there (cases_lt i (length (get_or xss k [])))
    where
      here : i < length (get_or xss k []) → P (get_or (concat xss) (length (concat (take k xss)) + i) 0)
      here l = subst P (sym (joined_get xss k i 0 short l)) (inside l)

      there : length (get_or xss k []) ≤ i → P (get_or (concat xss) (length (concat (take k xss)) + i) 0)
      there le = ⊎_elim by last (cases_lt (k + 1) (length xss))
        where
          at : length (concat (take (k + 1) xss)) ≡ length (concat (take k xss)) + i
          at = omega (arith, joined_more xss k short)

          by : k + 1 < length xss → P (get_or (concat xss) (length (concat (take k xss)) + i) 0)
          by l = subst P (sym (first_of_chunk xss (k + 1) full l) ∙ ap (λ j. get_or (concat xss) j 0) at) (next l)

          last : length xss ≤ k + 1 → P (get_or (concat xss) (length (concat (take k xss)) + i) 0)
          last l =
              let whole : length (concat (take (k + 1) xss)) ≡ length (concat xss) = ap (λ zs. length (concat zs)) (take_all (k + 1) xss l) in
              absurd (omega (arith, at, whole))
