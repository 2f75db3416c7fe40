-- A list that holds at each number of a row its neighbour in a second row, and what a change of the rows means for it.
use Rattle.std.proofs.Common.{◌≡◌, ⊎_elim, ℕ, zero, suc, ◌+◌, ◌-◌, ◌<◌, ◌≤◌, List, [], ◌∷◌, length, set, get_or, refl, sym, ap, ◌∙◌, subst, arith}
use Rattle.std.specs.List.{insert, remove}
use Rattle.std.proofs.lemmas.Bool.{cases_lt, cases_eq}
use Rattle.std.proofs.lemmas.List.{get_or-set_same, get_or-set_other}
use Rattle.std.proofs.lemmas.List.Edits.{length-insert, length-remove, get_or-insert_below, get_or-insert_at, get_or-insert_above, get_or-remove_below, get_or-remove_above}

-- at each number of the first row stands that of the second
abbrev pub AreNext : List ℕ → List ℕ → List ℕ → Type 0
AreNext next xs ys = (j : ℕ) → j < length xs → get_or next (get_or xs j 0) 0 ≡ get_or ys j 0

-- no number stands at two places
abbrev pub AreApart : List ℕ → Type 0
AreApart xs = (i j : ℕ) → i < length xs → j < length xs → (i ≡ j → ⊥) → get_or xs i 0 ≡ get_or xs j 0 → ⊥

-- a number is at no place
abbrev pub IsNew : List ℕ → ℕ → Type 0
IsNew xs x = (j : ℕ) → j < length xs → get_or xs j 0 ≡ x → ⊥

-- ---- one entry is written

-- that of a number outside the row
pub next_outside : (next xs ys : List ℕ) (x y : ℕ) → AreNext next xs ys → IsNew xs x → AreNext (set next x y) xs ys
next_outside next xs ys x y are new j l = get_or-set_other next x (get_or xs j 0) y 0 (new j l) ∙ are j l

-- that of the number at a place
pub next_set : (next xs ys : List ℕ) (k y : ℕ) → AreNext next xs ys → AreApart xs → length xs ≡ length ys → k < length xs → get_or xs k 0 < length next → AreNext (set next (get_or xs k 0) y) xs (set ys k y)
next_set next xs ys k y are apart even short within j l = ⊎_elim here elsewhere (cases_eq j k)
  where
    here : j ≡ k → get_or (set next (get_or xs k 0) y) (get_or xs j 0) 0 ≡ get_or (set ys k y) j 0
    here e = ap (λ (i : ℕ). get_or (set next (get_or xs k 0) y) (get_or xs i 0) 0) e ∙ get_or-set_same next (get_or xs k 0) y 0 within
        ∙ sym (ap (λ (i : ℕ). get_or (set ys k y) i 0) e ∙ get_or-set_same ys k y 0 (omega (arith, short, even)))

    elsewhere : (j ≡ k → ⊥) → get_or (set next (get_or xs k 0) y) (get_or xs j 0) 0 ≡ get_or (set ys k y) j 0
    elsewhere ne = get_or-set_other next (get_or xs k 0) (get_or xs j 0) y 0 (apart j k l short ne) ∙ are j l ∙ sym (get_or-set_other ys k j y 0 ne)

-- ---- a pair comes into both rows or goes out of them

pub next_insert : (next xs ys : List ℕ) (k x y : ℕ) → AreNext next xs ys → length xs ≡ length ys → k ≤ length xs → get_or next x 0 ≡ y → AreNext next (insert xs k x) (insert ys k y)
next_insert next xs ys k x y are even le is j l = ⊎_elim before (λ past. ⊎_elim here (behind past) (cases_eq j k)) (cases_lt j k)
  where
    there : k ≤ length ys
    there = omega (arith, le, even)

    before : j < k → get_or next (get_or (insert xs k x) j 0) 0 ≡ get_or (insert ys k y) j 0
    before less = ap (λ (n : ℕ). get_or next n 0) (get_or-insert_below xs k x 0 j less le) ∙ are j (omega (arith, less, le)) ∙ sym (get_or-insert_below ys k y 0 j less there)

    here : j ≡ k → get_or next (get_or (insert xs k x) j 0) 0 ≡ get_or (insert ys k y) j 0
    here e = ap (λ (i : ℕ). get_or next (get_or (insert xs k x) i 0) 0) e ∙ ap (λ (n : ℕ). get_or next n 0) (get_or-insert_at xs k x 0 le) ∙ is
        ∙ sym (ap (λ (i : ℕ). get_or (insert ys k y) i 0) e ∙ get_or-insert_at ys k y 0 there)

    behind : k ≤ j → (j ≡ k → ⊥) → get_or next (get_or (insert xs k x) j 0) 0 ≡ get_or (insert ys k y) j 0
    behind past ne =
        let i = j - 1 in
        let less : k < j = omega (arith, past, ne) in
        let later : k ≤ i = omega (arith, less) in
        let within : i < length xs = omega (arith, less, l, length-insert xs k x le) in
        let back : i + 1 ≡ j = omega (arith, less) in
        subst (λ (m : ℕ). get_or next (get_or (insert xs k x) m 0) 0 ≡ get_or (insert ys k y) m 0) back
        (ap (λ (n : ℕ). get_or next n 0) (get_or-insert_above xs k x 0 i later le) ∙ are i within ∙ sym (get_or-insert_above ys k y 0 i later there))

pub next_remove : (next xs ys : List ℕ) (k : ℕ) → AreNext next xs ys → length xs ≡ length ys → k < length xs → AreNext next (remove xs k) (remove ys k)
next_remove next xs ys k are even short j l = ⊎_elim before behind (cases_lt j k)
  where
    there : k < length ys
    there = omega (arith, short, even)

    before : j < k → get_or next (get_or (remove xs k) j 0) 0 ≡ get_or (remove ys k) j 0
    before less = ap (λ (n : ℕ). get_or next n 0) (get_or-remove_below xs k 0 j less short) ∙ are j (omega (arith, less, short)) ∙ sym (get_or-remove_below ys k 0 j less there)

    behind : k ≤ j → get_or next (get_or (remove xs k) j 0) 0 ≡ get_or (remove ys k) j 0
    behind past =
        ap (λ (n : ℕ). get_or next n 0) (get_or-remove_above xs k 0 j past short)
        ∙ are (j + 1) (omega (arith, l, length-remove xs k short)) ∙ sym (get_or-remove_above ys k 0 j past there)

-- ---- a number between two neighbours, told in one row or the other

pub insert_behind : (xs : List ℕ) (k y : ℕ) → k < length xs → set (insert xs k (get_or xs k 0)) (suc k) y ≡ insert xs (suc k) y
insert_behind [] k y l = absurd (omega arith)
insert_behind (x ∷ xs) zero y l = refl
insert_behind (x ∷ xs) (suc k) y l = ap (λ zs. x ∷ zs) (insert_behind xs k y (omega arith))

pub insert_before : (xs : List ℕ) (k y : ℕ) → k < length xs → insert (set xs k y) (suc k) (get_or xs k 0) ≡ insert xs k y
insert_before [] k y l = absurd (omega arith)
insert_before (x ∷ xs) zero y l = refl
insert_before (x ∷ xs) (suc k) y l = ap (λ zs. x ∷ zs) (insert_before xs k y (omega arith))

pub remove_behind : (xs : List ℕ) (k : ℕ) → suc k < length xs → remove (set xs k (get_or xs (suc k) 0)) (suc k) ≡ remove xs k
remove_behind [] k l = absurd (omega arith)
remove_behind (x ∷ []) k l = absurd (omega arith)
remove_behind (x ∷ y ∷ xs) zero l = refl
remove_behind (x ∷ y ∷ xs) (suc k) l = ap (λ zs. x ∷ zs) (remove_behind (y ∷ xs) k (omega arith))

pub remove_before : (xs : List ℕ) (k : ℕ) → suc k < length xs → remove (set xs (suc k) (get_or xs k 0)) k ≡ remove xs (suc k)
remove_before [] k l = absurd (omega arith)
remove_before (x ∷ []) k l = absurd (omega arith)
remove_before (x ∷ y ∷ xs) zero l = refl
remove_before (x ∷ y ∷ xs) (suc k) l = ap (λ zs. x ∷ zs) (remove_before (y ∷ xs) k (omega arith))
