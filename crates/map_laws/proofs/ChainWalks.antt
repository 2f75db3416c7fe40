-- Rows: lists of which each member stands in one relation to the next one.
use Rattle.std.proofs.Common.{◌≡◌, ◌⊎◌, inl, inr, List, [], ◌∷◌, refl, sym, ap, ◌∙◌, subst}
use Rattle.map_laws.proofs.ChainMembers.{Among, AreDistinct}

-- each member stands in the relation to the next one
abbrev pub IsRow : {A : Type 0} → (A → A → Type 0) → List A → Type 0
IsRow R [] = Unit {0}
IsRow R (x ∷ []) = Unit {0}
IsRow R (x ∷ y ∷ ys) = R x y × IsRow R (y ∷ ys)

-- the last of a list that begins with x
abbrev pub last_of : {A : Type 0} → A → List A → A
last_of x [] = x
last_of x (y ∷ ys) = last_of y ys

-- it is a member
pub last_among : {A : Type 0} (x : A) (xs : List A) → Among (last_of x xs) (x ∷ xs)
last_among x [] = inl refl
last_among x (y ∷ ys) = inr (last_among y ys)

module _ {A : Type 0} (R : A → A → Type 0) where
  -- each member is the last one or has a next one
  pub next_among : (x : A) (xs : List A) (y : A) → IsRow R (x ∷ xs) → Among y (x ∷ xs) → (last_of x xs ≡ y) ⊎ ((z : A) × Among z (x ∷ xs) × R y z)
  next_among x [] y r (inl e) = inl e
  next_among x [] y r (inr m) = absurd m
  next_among x (w ∷ ws) y r (inl e) = inr (w, inr (inl refl), subst (λ v. R v w) e r.0)
  next_among x (w ∷ ws) y r (inr m) = elim (next_among w ws y r.1 m) [ inl e ↦ inl e | inr n ↦ inr (n.0, inr n.1, n.2) ]

  -- each member is the first one or has one before it
  pub prev_among : (x : A) (xs : List A) (y : A) → IsRow R (x ∷ xs) → Among y (x ∷ xs) → (x ≡ y) ⊎ ((z : A) × Among z (x ∷ xs) × R z y)
  prev_among x [] y r (inl e) = inl e
  prev_among x [] y r (inr m) = absurd m
  prev_among x (w ∷ ws) y r (inl e) = inl e
  prev_among x (w ∷ ws) y r (inr m) = elim (prev_among w ws y r.1 m) [
    | inl e ↦ inr (x, inl refl, subst (λ v. R x v) e r.0)
    | inr n ↦ inr (n.0, inr n.1, n.2)
  ]

  -- what passes on from each member to the next one holds of all where it holds of the first
  row_forth : (P : A → Type 0) → ((y z : A) → R y z → P y → P z) → (x : A) (xs : List A) (y : A) → IsRow R (x ∷ xs) → P x → Among y (x ∷ xs) → P y
  row_forth P on x [] y r p (inl e) = subst P e p
  row_forth P on x [] y r p (inr m) = absurd m
  row_forth P on x (w ∷ ws) y r p (inl e) = subst P e p
  row_forth P on x (w ∷ ws) y r p (inr m) = row_forth P on w ws y r.1 (on x w r.0 p) m

  -- what passes back from each member to the one before holds of the first where it holds of one
  row_back : (P : A → Type 0) → ((y z : A) → R y z → P z → P y) → (x : A) (xs : List A) (y : A) → IsRow R (x ∷ xs) → P y → Among y (x ∷ xs) → P x
  row_back P on x [] y r p (inl e) = subst P (sym e) p
  row_back P on x [] y r p (inr m) = absurd m
  row_back P on x (w ∷ ws) y r p (inl e) = subst P (sym e) p
  row_back P on x (w ∷ ws) y r p (inr m) = on x w r.0 (row_back P on w ws y r.1 p m)

  -- so what passes both ways holds of all where it holds of one
  pub row_spread : (P : A → Type 0) → ((y z : A) → R y z → P y → P z) → ((y z : A) → R y z → P z → P y) → (x : A) (xs : List A) (y z : A)
      → IsRow R (x ∷ xs) → Among y (x ∷ xs) → P y → Among z (x ∷ xs) → P z
  row_spread P forth back x xs y z r m p n = row_forth P forth x xs z r (row_back P back x xs y r p m) n

-- the members behind the first one, where the first ones are one
behind_among : {A : Type 0} (x y : A) (xs ys : List A) → x ≡ y → AreDistinct (x ∷ xs) → ((z : A) → Among z (x ∷ xs) → Among z (y ∷ ys))
    → (z : A) → Among z xs → Among z ys
behind_among x y xs ys e d there z m =
    elim (there z (inr m)) [
      | inl f ↦ absurd (d.0 (subst (λ w. Among w xs) (sym (e ∙ f)) m))
      | inr n ↦ n
    ]

-- Two rows with one first member and the same members are one, where each has one way on at most and no member stands twice.
pub row_same : {A : Type 0} (R : A → A → Type 0) → ((x y z : A) → R x y → R x z → y ≡ z) → (x y : A) (xs ys : List A) → x ≡ y
    → IsRow R (x ∷ xs) → IsRow R (y ∷ ys) → AreDistinct (x ∷ xs) → AreDistinct (y ∷ ys)
    → ((z : A) → Among z (x ∷ xs) → Among z (y ∷ ys)) → ((z : A) → Among z (y ∷ ys) → Among z (x ∷ xs)) → x ∷ xs ≡ y ∷ ys
row_same R only x y [] [] e r s d f there back = ap (λ z. z ∷ []) e
row_same R only x y [] (w ∷ ws) e r s d f there back = absurd (behind_among y x (w ∷ ws) [] (sym e) f back w (inl refl))
row_same R only x y (v ∷ vs) [] e r s d f there back = absurd (behind_among x y (v ∷ vs) [] e d there v (inl refl))
row_same R only x y (v ∷ vs) (w ∷ ws) e r s d f there back =
    let next : v ≡ w = only y v w (subst (λ z. R z v) e r.0) s.0 in
    ap (λ z. z ∷ v ∷ vs) e
    ∙ ap (λ zs. y ∷ zs) (row_same R only v w vs ws next r.1 s.1 d.1 f.1 (behind_among x y (v ∷ vs) (w ∷ ws) e d there) (behind_among y x (w ∷ ws) (v ∷ vs) (sym e) f back))
