-- A table over the edges: the entry of each is found from the entries of those before it.
use Rattle.std.proofs.Common.{◌≡◌, ℕ, zero, suc, ◌+◌, ◌<◌, ◌≤◌, List, [], ◌∷◌, ◌++◌, fold, length, take, drop, get_or, refl, sym, ap, ◌∙◌, arith}
use Rattle.std.proofs.lemmas.List.{get_or_append_left, get_or_push, length_push, length-take-le, take-append-drop}
use Rattle.std.proofs.lemmas.List.Sums.{fold-append}

module _ {A B : Type 0} (f : List B → A → B) where
  abbrev with_entry : List B → A → List B
  with_entry t e = t ++ f t e ∷ []

  abbrev pub table : List A → List B
  table xs = fold with_entry [] xs

  table_length : (t : List B) (xs : List A) → length (fold with_entry t xs) ≡ length t + length xs
  table_length t [] = omega arith
  table_length t (x ∷ xs) = omega (arith, table_length (with_entry t x) xs, length_push t (f t x))

  -- an entry stays
  table_keeps : (t : List B) (xs : List A) (j : ℕ) (d : B) → j < length t → get_or (fold with_entry t xs) j d ≡ get_or t j d
  table_keeps t [] j d l = refl
  table_keeps t (x ∷ xs) j d l =
      table_keeps (with_entry t x) xs j d (omega (arith, length_push t (f t x)))
      ∙ get_or_append_left t (f t x ∷ []) d j l

  entry_from : (t : List B) (xs : List A) (n i : ℕ) (d : B) (e : A) → n ≡ length t → i < length xs
      → get_or (fold with_entry t xs) (n + i) d ≡ f (fold with_entry t (take i xs)) (get_or xs i e)
  entry_from t [] n i d e s l = absurd (omega arith)
  entry_from t (x ∷ xs) n zero d e s l =
      let first : n + 0 ≡ n = omega arith in
      ap (λ k. get_or (fold with_entry t (x ∷ xs)) k d) first
      ∙ table_keeps (with_entry t x) xs n d (omega (arith, length_push t (f t x)))
      ∙ get_or_push t (f t x) d n (sym s)
  entry_from t (x ∷ xs) n (suc i) d e s l =
      let next : n + suc i ≡ (n + 1) + i = omega arith in
      ap (λ k. get_or (fold with_entry t (x ∷ xs)) k d) next
      ∙ entry_from (with_entry t x) xs (n + 1) i d e (omega (arith, length_push t (f t x))) (omega arith)

  pub entry : (xs : List A) (i : ℕ) (d : B) (e : A) → i < length xs → get_or (table xs) i d ≡ f (table (take i xs)) (get_or xs i e)
  entry xs i d e l =
      let start : i ≡ 0 + i = omega arith in
      ap (λ k. get_or (table xs) k d) start ∙ entry_from [] xs 0 i d e refl l

  pub earlier : (xs : List A) (i j : ℕ) (d : B) → j < i → i ≤ length xs → get_or (table (take i xs)) j d ≡ get_or (table xs) j d
  earlier xs i j d less l =
      sym (table_keeps (table (take i xs)) (drop i xs) j d (omega (arith, table_length [] (take i xs), length-take-le i xs l)))
      ∙ ap (λ t. get_or t j d) (sym (fold-append with_entry [] (take i xs) (drop i xs)) ∙ ap table (take-append-drop i xs))
