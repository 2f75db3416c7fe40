-- What the entries that are kept come to, after a call of the keeper and after a publish.
use Rattle.std.proofs.Common.{◌≡◌, ◌<◌, ◌≤◌, ◌+◌, ◌-◌, inl, inr, ℕ, Bool, true, false, ◌||◌, nat_lt, List, [], ◌∷◌, ◌++◌, length, take, fold, if◌then◌else◌, Option, Some, None, Result, Ok, Err, MatchOption, OnOk, refl, sym, ap, ◌∙◌, subst, arith}
use Rattle.std.proofs.lemmas.Bool.{ne_eqb, le-ltb}
use Rattle.std.proofs.lemmas.List.{length-append, length-map, map-append, length-take}
use Rattle.std.proofs.lemmas.List.Sums.{fold-append}
use Rattle.std.proofs.Math.Seq.{take-append_seam, take-length}
use Rattle.tgap_model.specs.declared.keep.KeepFail.{KeepFail}
use Rattle.tgap_model.specs.declared.keep.KeepFail.TheVariants.{Failed, Full, Memory}
use Rattle.tgap_model.specs.Keeping.{KeptEntry, Kept, IsStart, sure_of, Keeps, KeepsFrom, fold_entry, folded, is_bad_entry, bad_entry_from, bad_entry}
use Rattle.version_store.specs.Folds.{batches_of, FitsFold, FitsKept, FitsTold}

-- ---- one entry more

-- an entry of the number after these batches replaces what came after them
pub folded_next : (entries : List KeptEntry) (batches : List (List ℕ)) (e : KeptEntry) → FitsFold batches entries → e.number ≡ length batches + 1
    → folded (entries ++ e ∷ []) ≡ batches ++ e.batch ∷ []
folded_next entries batches e f number =
    let before : e.number - 1 ≡ length batches = omega (arith, number) in
    let cut : take (e.number - 1) (folded entries) ≡ batches = ap (λ (k : ℕ). take k (folded entries)) before ∙ f.0 in
    fold-append fold_entry [] entries (e ∷ []) ∙ ap (λ (l : List (List ℕ)). l ++ e.batch ∷ []) cut

-- one entry more that follows those before it
bad_more : (i : ℕ) (is : Bool) (rest more : Option ℕ) → (if is then Some i else rest) ≡ None → (rest ≡ None → more ≡ None)
    → (if is then Some i else more) ≡ None
bad_more i true rest more none make = none
bad_more i false rest more none make = make none

bad_push : (i : ℕ) (batches : List (List ℕ)) (entries : List KeptEntry) (e : KeptEntry) → bad_entry_from i batches entries ≡ None
    → is_bad_entry (fold fold_entry batches entries) e ≡ false → bad_entry_from i batches (entries ++ e ∷ []) ≡ None
bad_push i batches [] e none good = ap (λ (is : Bool). if is then Some i else None) good
bad_push i batches (x ∷ entries) e none good =
    bad_more i (is_bad_entry batches x) (bad_entry_from (i + 1) (fold_entry batches x) entries)
    (bad_entry_from (i + 1) (fold_entry batches x) (entries ++ e ∷ [])) none (λ n. bad_push (i + 1) (fold_entry batches x) entries e n good)

follows : (batches : List (List ℕ)) (e : KeptEntry) → 0 < e.number → e.number ≤ length batches + 1 → is_bad_entry batches e ≡ false
follows batches e some few =
    ap (λ (is : Bool). is || nat_lt (length batches + 1) e.number) (ne_eqb e.number 0 (λ none. omega (arith, some, none)))
    ∙ le-ltb (length batches + 1) e.number few

none_bad : (entries : List KeptEntry) (batches : List (List ℕ)) (e : KeptEntry) → FitsFold batches entries → e.number ≡ length batches + 1
    → bad_entry (entries ++ e ∷ []) ≡ None
none_bad entries batches e f number =
    let front : length batches ≤ length (folded entries) =
    let l = sym (length-take (length batches) (folded entries)) ∙ ap length f.0 in grind (arith, l) in
    bad_push 0 [] entries e f.2 (follows (folded entries) e (omega (arith, number)) (omega (arith, number, front)))

-- so it comes to these batches and one more
pub fits_next : (entries : List KeptEntry) (batches : List (List ℕ)) (e : KeptEntry) → FitsFold batches entries → e.number ≡ length batches + 1
    → FitsFold batches (entries ++ e ∷ [])
fits_next entries batches e f number =
    let is = folded_next entries batches e f number in
    let long : length (folded (entries ++ e ∷ [])) ≡ length batches + 1 = ap length is ∙ length-append batches (e.batch ∷ []) in (
      ap (λ (l : List (List ℕ)). take (length batches) l) is ∙ take-append_seam batches (e.batch ∷ []),
      omega (arith, long),
      none_bad entries batches e f number,
    )

-- and to these all, once that one is a version's
pub fits_whole : (entries : List KeptEntry) (batches : List (List ℕ)) (e : KeptEntry) → FitsFold batches entries → e.number ≡ length batches + 1
    → FitsFold (batches ++ e.batch ∷ []) (entries ++ e ∷ [])
fits_whole entries batches e f number =
    let is = folded_next entries batches e f number in
    let long : length (folded (entries ++ e ∷ [])) ≡ length (batches ++ e.batch ∷ []) = ap length is in (
      ap (λ (l : List (List ℕ)). take (length (batches ++ e.batch ∷ [])) l) is ∙ take-length (batches ++ e.batch ∷ []),
      omega (arith, long),
      none_bad entries batches e f number,
    )

-- ---- a call of the keeper

some_same : (x y : KeptEntry) → Some x ≡ Some y → x ≡ y
some_same x y e = cc

kept_same : (x y : Kept) → Some x ≡ Some y → x ≡ y
kept_same x y e = cc

-- what is kept for sure
pub fits_sure : (entries : List KeptEntry) (batches : List (List ℕ)) → FitsFold batches entries → FitsKept batches (sure_of entries)
fits_sure entries batches f = (f, λ d is. absurd cc)

-- the list that a call starts from
pub fits_start : (batches : List (List ℕ)) (kept : Kept) (start : List KeptEntry) → FitsKept batches kept → IsStart kept start → FitsFold batches start
fits_start batches kept start f (inl is) = subst (FitsFold batches) (sym is) f.0
fits_start batches kept start f (inr is) = subst (FitsFold batches) (sym is.2) (f.1 is.0 is.1)

-- with an entry in doubt
pub fits_doubt : (start : List KeptEntry) (batches : List (List ℕ)) (e : KeptEntry) → FitsFold batches start → e.number ≡ length batches + 1
    → FitsKept batches (record { entries = start; doubt = Some e })
fits_doubt start batches e f number =
    (f, λ d is. subst (λ (x : KeptEntry). FitsFold batches (start ++ x ∷ [])) (some_same e d is) (fits_next start batches e f number))

-- where the batch is that of the next version
kept_next : (batches : List (List ℕ)) (e : KeptEntry) (start : List KeptEntry) (now : Kept) → e.number ≡ length batches + 1 → FitsFold batches start
    → now ≡ sure_of (start ++ e ∷ []) → FitsKept (batches ++ e.batch ∷ []) now
kept_next batches e start now number s is =
    subst (FitsKept (batches ++ e.batch ∷ [])) (sym is) (fits_sure (start ++ e ∷ []) (batches ++ e.batch ∷ []) (fits_whole start batches e s number))

-- what is told
some_fits : (all : List (List ℕ)) (told : Option Kept) (now : Kept) → told ≡ Some now → FitsKept all now → FitsTold all told
some_fits all told now is f kept same = subst (FitsKept all) (kept_same now kept (sym is ∙ same)) f

none_fits : (all : List (List ℕ)) (told : Option Kept) → told ≡ None → FitsTold all told
none_fits all told is kept same = absurd cc

module _ {T : Type 0} (limit : Option ℕ) (batches : List (List ℕ)) (e : KeptEntry) (number : e.number ≡ length batches + 1) where
  -- the batches of the versions stay
  kept_from : (start : List KeptEntry) (before now : Kept) (result : Result T KeepFail) → FitsKept batches before → FitsFold batches start
      → KeepsFrom limit start before now e result → FitsKept batches now
  kept_from start before now (Ok x) f s k = subst (FitsKept batches) (sym k.0) (fits_sure (start ++ e ∷ []) batches (fits_next start batches e s number))
  kept_from start before now (Err Failed) f s (inl k) = subst (FitsKept batches) (sym k) f
  kept_from start before now (Err Failed) f s (inr k) = subst (FitsKept batches) (sym k) (fits_doubt start batches e s number)
  kept_from start before now (Err (Full most)) f s (inl k, above) = subst (FitsKept batches) (sym k) f
  kept_from start before now (Err (Full most)) f s (inr k, above) = subst (FitsKept batches) (sym k) (fits_sure start batches s)
  kept_from start before now (Err Memory) f s (inl k) = subst (FitsKept batches) (sym k) f
  kept_from start before now (Err Memory) f s (inr k) = subst (FitsKept batches) (sym k) (fits_sure start batches s)

  pub told_fits : (was told : Option Kept) (result : Result T KeepFail) → FitsTold batches was
      → MatchOption was (told ≡ None) (λ before. Keeps limit before told e result) → FitsTold batches told
  told_fits None told result f k = none_fits batches told k
  told_fits (Some before) told result f k =
      some_fits batches told k.2.0 k.2.1 (kept_from k.0 before k.2.0 result (f before refl) (fits_start batches before k.0 (f before refl) k.1) k.2.2)

  pub told_fits_next : (was told : Option Kept) (result : Result T KeepFail) → FitsTold batches was
      → MatchOption was (told ≡ None) (λ before. Keeps limit before told e result) → OnOk result (FitsTold (batches ++ e.batch ∷ []) told)
  told_fits_next None told (Ok x) f k = none_fits (batches ++ e.batch ∷ []) told k
  told_fits_next (Some before) told (Ok x) f k =
      some_fits (batches ++ e.batch ∷ []) told k.2.0 k.2.1 (kept_next batches e k.0 k.2.0 number (fits_start batches before k.0 (f before refl) k.1) k.2.2.0)
  told_fits_next None told (Err fail) f k = tt
  told_fits_next (Some before) told (Err fail) f k = tt

-- ---- the batches of the versions

module _ {V : Type 0} (batch : V → List ℕ) where
  pub batches_length : (list : List V) → 0 < length list → length (batches_of batch list) + 1 ≡ length list
  batches_length [] some = absurd (omega arith)
  batches_length (first ∷ rest) some = let l = length-map rest batch in omega (arith, l)

  pub batches_push : (list : List V) (v : V) → 0 < length list → batches_of batch (list ++ v ∷ []) ≡ batches_of batch list ++ batch v ∷ []
  batches_push [] v some = absurd (omega arith)
  batches_push (first ∷ rest) v some = map-append batch rest (v ∷ [])
