-- Sums over two lists that have the same members, each once.
use Rattle.std.proofs.Common.{◌≡◌, ◌≢◌, inl, inr, Bool, true, false, cond, ℤ, pos, ◌+ℤ◌, List, [], ◌∷◌, filter, AllPairs, Contains, refl, sym, ap, ◌∙◌, subst, arith}
use Rattle.std.proofs.lemmas.Int.{ints}
use Rattle.std.proofs.lemmas.List.Elements.{All-contains}
use Rattle.lemmas.proofs.Members.{in_cases, in_none, AllPairs-head, AllPairs-tail}
use Rattle.lemmas.specs.Sorting.{insert_by, sort_by}
use Rattle.map_laws.proofs.ChainMembers.{Among}
use Rattle.removal_laws.proofs.ChainEnds.{contained}
use Rattle.picture_laws.proofs.Sums.{int_sum}

module _ {A : Type 0} where
  -- a member by name is one
  pub among : (xs : List A) (x : A) → Contains xs x → Among x xs
  among [] x c = absurd (in_none x c)
  among (y ∷ ys) x c = elim (in_cases y ys x c) [
    | inl e ↦ inl e
    | inr d ↦ inr (among ys x d)
  ]

  -- members that differ, one by one
  abbrev pub Differ : List A → Type 0
  Differ [] = Unit {0}
  Differ (x ∷ xs) = ((z : A) → Among z xs → x ≢ z) × Differ xs

  pub differ : (xs : List A) → AllPairs (λ x y. x ≢ y) xs → Differ xs
  differ [] h = tt
  differ (x ∷ xs) h =
      (λ z m. All-contains (λ y. x ≢ y) xs z (AllPairs-head (λ x y. x ≢ y) x xs h) (contained xs z m), differ xs (AllPairs-tail (λ x y. x ≢ y) x xs h))

  -- a list without one of its members
  pub record Without (h : A → ℤ) (x : A) (ys : List A) : Type 0 where
    pub rest : List A
    pub sum : int_sum h ys ≡ h x +ℤ int_sum h rest
    pub kept : (z : A) → Among z ys → x ≢ z → Among z rest
    pub back : (z : A) → Among z rest → Among z ys
    pub differ : Differ ys → Differ rest
    pub gone : Differ ys → (z : A) → Among z rest → x ≢ z

  taken_out : (h : A → ℤ) (x : A) (ys : List A) → Among x ys → Without h x ys
  taken_out h x [] m = absurd m
  taken_out h x (y ∷ ys) (inl e) = record {
    rest = ys;
    sum = ap (λ (z : A). h z +ℤ int_sum h ys) e;
    kept = λ z m ne. elim m [
      | inl f ↦ absurd (ne (sym e ∙ f))
      | inr n ↦ n
    ];
    back = λ z m. inr m;
    differ = λ d. d.1;
    gone = λ d z m. subst (λ (w : A). w ≢ z) e (d.0 z m);
  }
  taken_out h x (y ∷ ys) (inr m) =
      let t = taken_out h x ys m in
      record {
        rest = y ∷ t.rest;
        sum = let e = t.sum in moved (h y) (int_sum h ys) (h x) (int_sum h t.rest) e;
        kept = λ z n ne. elim n [
          | inl f ↦ inl f
          | inr o ↦ inr (t.kept z o ne)
        ];
        back = λ z n. elim n [
          | inl f ↦ inl f
          | inr o ↦ inr (t.back z o)
        ];
        differ = λ d. (λ z n. d.0 z (t.back z n), t.differ d.1);
        gone = λ d z n. elim n [
          | inl f ↦ λ e. d.0 x m (f ∙ sym e)
          | inr o ↦ t.gone d.1 z o
        ];
      }
    where
      moved : (y whole x rest : ℤ) → whole ≡ x +ℤ rest → y +ℤ whole ≡ x +ℤ (y +ℤ rest)
      moved y whole x rest e = omega (arith, ints, e)

  -- lists with the same members, each once, have one sum
  pub same_sum : (h : A → ℤ) (xs ys : List A) → Differ xs → Differ ys → ((z : A) → Among z xs → Among z ys) → ((z : A) → Among z ys → Among z xs) → int_sum h xs ≡ int_sum h ys
  same_sum h [] [] d e there back = refl
  same_sum h [] (y ∷ ys) d e there back = absurd (back y (inl refl))
  same_sum h (x ∷ xs) ys d e there back =
      let t = taken_out h x ys (there x (inl refl)) in
      let rest = same_sum h xs t.rest d.1 (t.differ e) (λ z m. t.kept z (there z (inr m)) (d.0 z m)) (λ z m.
      elim (back z (t.back z m)) [
        | inl same ↦ absurd (t.gone e z m same)
        | inr n ↦ n
      ]) in
      ap (λ s. h x +ℤ s) rest ∙ sym t.sum

  -- ---- filters and sorting

  -- a sum over what a filter keeps
  pub int_sum-filter : (h : A → ℤ) (p : A → Bool) (xs : List A) → int_sum h (filter p xs) ≡ int_sum (λ x. cond (p x) (h x) (pos 0)) xs
  int_sum-filter h p [] = refl
  int_sum-filter h p (x ∷ xs) = by (p x) (int_sum-filter h p xs)
    where
      by : (b : Bool) → int_sum h (filter p xs) ≡ int_sum (λ x. cond (p x) (h x) (pos 0)) xs
          → int_sum h (cond b (x ∷ filter p xs) (filter p xs)) ≡ cond b (h x) (pos 0) +ℤ int_sum (λ x. cond (p x) (h x) (pos 0)) xs
      by true e = ap (λ s. h x +ℤ s) e
      by false e = omega (arith, ints, e)

  insert_sum : (h : A → ℤ) (before : A → A → Bool) (x : A) (ys : List A) → int_sum h (insert_by before x ys) ≡ h x +ℤ int_sum h ys
  insert_sum h before x [] = refl
  insert_sum h before x (y ∷ ys) = by (before x y) (insert_sum h before x ys)
    where
      by : (b : Bool) → int_sum h (insert_by before x ys) ≡ h x +ℤ int_sum h ys
          → int_sum h (cond b (x ∷ y ∷ ys) (y ∷ insert_by before x ys)) ≡ h x +ℤ (h y +ℤ int_sum h ys)
      by true e = refl
      by false e = omega (arith, ints, e)

  pub int_sum-sort_by : (h : A → ℤ) (before : A → A → Bool) (xs : List A) → int_sum h (sort_by before xs) ≡ int_sum h xs
  int_sum-sort_by h before [] = refl
  int_sum-sort_by h before (x ∷ xs) = insert_sum h before x (sort_by before xs) ∙ ap (λ s. h x +ℤ s) (int_sum-sort_by h before xs)
