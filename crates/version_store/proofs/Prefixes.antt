-- Lists of which one begins another, and lists with one version more.
use Rattle.std.proofs.Common.{◌≡◌, ◌<◌, ◌≤◌, ◌+◌, ℕ, zero, suc, List, [], ◌∷◌, ◌++◌, length, get_or, Option, Some, None, refl, sym, ap, ◌∙◌, arith}
use Rattle.std.specs.Prelude.{slice_get}
use Rattle.std.proofs.lemmas.List.{append-nil, append_assoc, length-append, nil_from_length}
use Rattle.std.proofs.lemmas.Option.{slice_get_within}
use Rattle.atomic_table.specs.Table.{rest}
use Rattle.version_store.specs.Growth.{IsPrefix, AreNumbered}

module _ {V : Type 0} where
  pub prefix_self : (xs : List V) → IsPrefix xs xs
  prefix_self xs = ([], sym (append-nil xs))

  pub prefix_nil : (xs : List V) → IsPrefix [] xs
  prefix_nil xs = (xs, refl)

  pub prefix_push : (xs : List V) (x : V) → IsPrefix xs (xs ++ x ∷ [])
  prefix_push xs x = (x ∷ [], refl)

  pub prefix_trans : (xs ys zs : List V) → IsPrefix xs ys → IsPrefix ys zs → IsPrefix xs zs
  prefix_trans xs ys zs p q = (p.0 ++ q.0, q.1 ∙ ap (λ l. l ++ q.0) p.1 ∙ append_assoc xs p.0 q.0)

  pub prefix_length : (xs ys : List V) → IsPrefix xs ys → length xs ≤ length ys
  prefix_length xs ys p = let e : length ys ≡ length xs + length p.0 = ap length p.1 ∙ length-append xs p.0 in omega arith

  -- a front that is no shorter is the list itself
  pub prefix_whole : (xs ys : List V) → IsPrefix xs ys → length ys ≤ length xs → xs ≡ ys
  prefix_whole xs ys p le =
      let e : length ys ≡ length xs + length p.0 = ap length p.1 ∙ length-append xs p.0 in
      let none : p.0 ≡ [] = nil_from_length p.0 (omega arith) in
      sym (p.1 ∙ ap (λ l. xs ++ l) none ∙ append-nil xs)

  pub prefix_both : (xs ys : List V) → IsPrefix xs ys → IsPrefix ys xs → xs ≡ ys
  prefix_both xs ys p q = prefix_whole xs ys p (prefix_length ys xs q)

  -- a read past a prefix, at the place where a version is added
  pub get_last : (xs : List V) (x : V) → slice_get (xs ++ x ∷ []) (length xs) ≡ Some x
  get_last [] x = refl
  get_last (y ∷ ys) x = get_last ys x

  pub get_left : (xs : List V) (x y : V) (i : ℕ) → i < length xs → slice_get (xs ++ x ∷ []) i ≡ Some y → slice_get xs i ≡ Some y
  get_left [] x y i l e = absurd (omega arith)
  get_left (z ∷ zs) x y zero l e = e
  get_left (z ∷ zs) x y (suc i) l e = get_left zs x y i (omega arith) e

  pub some_inside : (xs : List V) (i : ℕ) → i < length xs → (x : V) × (slice_get xs i ≡ Some x)
  some_inside [] i l = absurd (omega arith)
  some_inside (z ∷ zs) zero l = (z, refl)
  some_inside (z ∷ zs) (suc i) l = some_inside zs i (omega arith)

  pub some_same : (x y : V) → Some x ≡ Some y → x ≡ y
  some_same x y e = ap (λ (o : Option V). elim o [ None ↦ x | Some z ↦ z ]) e

  pub head_same : (x y : V) → x ∷ [] ≡ y ∷ [] → x ≡ y
  head_same x y e = ap (λ (l : List V). get_or l 0 x) e

  pub numbered_nil : (number : V → ℕ) → AreNumbered number []
  numbered_nil number i x e = absurd (let l : i < length {A = V} [] = slice_get_within [] i x e in omega arith)
  -- ---- what a place has taken

module _ {S : Type 0} where
  -- what it took last stands first
  pub taken : (now before : List (ℕ × S)) (k slot : ℕ) (value : S) → now ≡ (k, value) ∷ before → k ≡ slot → now ≡ (slot, value) ∷ rest now
  taken now before k slot value e same = e ∙ ap (λ (j : ℕ). (j, value) ∷ before) same ∙ ap (λ (l : List (ℕ × S)). (slot, value) ∷ l) (sym (ap rest e))

  -- one list has one first value
  pub one_value : (now before other : List (ℕ × S)) (k slot : ℕ) (value same : S) → now ≡ (k, value) ∷ before → now ≡ (slot, same) ∷ other → value ≡ same
  one_value now before other k slot value same e e' = ap (λ (l : List (ℕ × S)). first value l) (sym e ∙ e')
    where
      first : S → List (ℕ × S) → S
      first d [] = d
      first d (x ∷ xs) = x.1
