-- Members of lists by their places, rows of which each member stands in a relation to the next one, and lists of which no
-- member stands twice.
use Rattle.std.proofs.Common.{◌≡◌, ◌⊎◌, inl, inr, ℕ, zero, suc, ◌<◌, List, [], ◌∷◌, ◌++◌, map, length, reverse, get_or, AllPairs, refl, sym, ap, ap₂, ◌∙◌, subst, arith}
use Rattle.std.specs.Prelude.{flat_map}
use Rattle.map_laws.proofs.ChainMembers.{Among, AreDistinct, among_left, among_right, append_among}
use Rattle.map_laws.proofs.ChainWalks.{IsRow, last_of}
use Rattle.slice_laws.proofs.Paths.{reverse_cons}

-- the list has x at place n
abbrev pub At : {A : Type 0} → List A → ℕ → A → Type 0
At [] n x = ⊥
At (y ∷ ys) zero x = y ≡ x
At (y ∷ ys) (suc n) x = At ys n x

module _ {A : Type 0} where
  pub at_among : (xs : List A) (n : ℕ) (x : A) → At xs n x → Among x xs
  at_among [] n x a = absurd a
  at_among (y ∷ ys) zero x a = inl a
  at_among (y ∷ ys) (suc n) x a = inr (at_among ys n x a)

  pub among_at : (xs : List A) (x : A) → Among x xs → (n : ℕ) × At xs n x
  among_at [] x m = absurd m
  among_at (y ∷ ys) x (inl e) = (zero, e)
  among_at (y ∷ ys) x (inr m) = let n = among_at ys x m in (suc n.0, n.1)

  -- a place has one member
  pub at_only : (xs : List A) (n : ℕ) (x y : A) → At xs n x → At xs n y → x ≡ y
  at_only [] n x y a b = absurd a
  at_only (z ∷ zs) zero x y a b = sym a ∙ b
  at_only (z ∷ zs) (suc n) x y a b = at_only zs n x y a b

  -- and where none stands twice, a member has one place
  pub at_once : (xs : List A) → AreDistinct xs → (n m : ℕ) (x : A) → At xs n x → At xs m x → n ≡ m
  at_once [] d n m x a b = absurd a
  at_once (y ∷ ys) d zero zero x a b = refl
  at_once (y ∷ ys) d zero (suc m) x a b = absurd (d.0 (subst (λ z. Among z ys) (sym a) (at_among ys m x b)))
  at_once (y ∷ ys) d (suc n) zero x a b = absurd (d.0 (subst (λ z. Among z ys) (sym b) (at_among ys n x a)))
  at_once (y ∷ ys) d (suc n) (suc m) x a b = ap suc (at_once ys d.1 n m x a b)

  pub at_place : (xs : List A) (n : ℕ) (x d : A) → At xs n x → (n < length xs) × (get_or xs n d ≡ x)
  at_place [] n x d a = absurd a
  at_place (y ∷ ys) zero x d a = (omega arith, a)
  at_place (y ∷ ys) (suc n) x d a = let r = at_place ys n x d a in (omega (arith, r.0), r.1)

  pub place_at : (xs : List A) (n : ℕ) (d : A) → n < length xs → At xs n (get_or xs n d)
  place_at [] n d l = absurd (omega arith)
  place_at (y ∷ ys) zero d l = refl
  place_at (y ∷ ys) (suc n) d l = place_at ys n d (omega arith)

  -- what holds of members at two places, the first one earlier
  pub pairs_from_places : (R : A → A → Type 0) (xs : List A) → ((i j : ℕ) (x y : A) → i < j → At xs i x → At xs j y → R x y) → AllPairs R xs
  pairs_from_places R xs h i j d less short = h i j (get_or xs i d) (get_or xs j d) less (place_at xs i d (omega arith)) (place_at xs j d short)

  pub places_from_pairs : (R : A → A → Type 0) (xs : List A) → AllPairs R xs → (i j : ℕ) (x y : A) → i < j → At xs i x → At xs j y → R x y
  places_from_pairs R xs pairs i j x y less a b =
      let p = at_place xs i x x a in
      let q = at_place xs j y x b in
      subst (λ z. R z y) p.1 (subst (λ z. R (get_or xs i x) z) q.1 (pairs i j x less q.0))

-- ---- rows

module _ {A : Type 0} (R : A → A → Type 0) where
  -- a member is the last one, or has a next one
  pub next_at : (xs : List A) (n : ℕ) (x : A) → IsRow R xs → At xs n x → (suc n ≡ length xs) ⊎ ((y : A) × At xs (suc n) y × R x y)
  next_at [] n x r a = absurd a
  next_at (y ∷ []) zero x r a = inl refl
  next_at (y ∷ []) (suc n) x r a = absurd a
  next_at (y ∷ z ∷ zs) zero x r a = inr (z, refl, subst (λ w. R w z) a r.0)
  next_at (y ∷ z ∷ zs) (suc n) x r a = elim (next_at (z ∷ zs) n x r.1 a) [ inl e ↦ inl (ap suc e) | inr m ↦ inr m ]

  -- it is the first one, or has one before it
  pub prev_at : (xs : List A) (n : ℕ) (x : A) → IsRow R xs → At xs n x → (n ≡ zero) ⊎ ((m : ℕ) × (y : A) × (n ≡ suc m) × At xs m y × R y x)
  prev_at [] n x r a = absurd a
  prev_at (y ∷ ys) zero x r a = inl refl
  prev_at (y ∷ []) (suc n) x r a = absurd a
  prev_at (y ∷ z ∷ zs) (suc zero) x r a = inr (zero, y, refl, refl, subst (λ w. R y w) a r.0)
  prev_at (y ∷ z ∷ zs) (suc (suc n)) x r a = elim (prev_at (z ∷ zs) (suc n) x r.1 a) [
    | inl e ↦ absurd (omega arith)
    | inr m ↦ inr (suc m.0, m.1, ap suc m.2, m.3, m.4)
  ]

  -- two rows of which the last of the first stands in the relation to the first of the second
  row_append : (x : A) (xs : List A) (y : A) (ys : List A) → IsRow R (x ∷ xs) → IsRow R (y ∷ ys) → R (last_of x xs) y
      → IsRow R ((x ∷ xs) ++ y ∷ ys)
  row_append x [] y ys r s u = (u, s)
  row_append x (z ∷ zs) y ys r s u = (r.0, row_append z zs y ys r.1 s u)

last_append : {A : Type 0} (x : A) (xs : List A) (y : A) (ys : List A) → last_of x (xs ++ y ∷ ys) ≡ last_of y ys
last_append x [] y ys = refl
last_append x (z ∷ zs) y ys = last_append z zs y ys

-- a list that is not empty, with its first and its last member, which is a row
pub record IsRowFrom {A : Type 0} (R : A → A → Type 0) (first last : A) (xs : List A) : Type 0 where
  pub head : A
  pub tail : List A
  pub is : xs ≡ head ∷ tail
  pub begins : head ≡ first
  pub ends : last_of head tail ≡ last
  pub row : IsRow R (head ∷ tail)

-- one after the other
pub joined_rows : {A : Type 0} {R : A → A → Type 0} {a b c d : A} {xs ys : List A} → IsRowFrom R a b xs → IsRowFrom R c d ys → R b c
    → IsRowFrom R a d (xs ++ ys)
joined_rows {A} {R} {a} {b} {c} {d} {xs} {ys} p q u = record {
  head = p.head;
  tail = p.tail ++ q.head ∷ q.tail;
  is = ap₂ (λ s t. s ++ t) p.is q.is;
  begins = p.begins;
  ends = last_append p.head p.tail q.head q.tail ∙ q.ends;
  row = row_append R p.head p.tail q.head q.tail p.row q.row (subst (λ z. R z q.head) (sym p.ends) (subst (λ z. R b z) (sym q.begins) u));
}

-- turned round
reversed_row : {A : Type 0} (R : A → A → Type 0) (x : A) (xs : List A) → IsRow R (x ∷ xs)
    → IsRowFrom (λ a b. R b a) (last_of x xs) x (reverse (x ∷ xs))
reversed_row R x [] r = record { head = x; tail = []; is = refl; begins = refl; ends = refl; row = tt }
reversed_row {A} R x (y ∷ ys) r =
    let back : IsRowFrom (λ a b. R b a) (last_of y ys) y (reverse (y ∷ ys)) = reversed_row R y ys r.1 in
    let single : IsRowFrom (λ a b. R b a) x x (x ∷ []) = record { head = x; tail = []; is = refl; begins = refl; ends = refl; row = tt } in
    subst (IsRowFrom (λ a b. R b a) (last_of y ys) x) (sym (reverse_cons x (y ∷ ys))) (joined_rows back single r.0)

-- with a function that keeps the relation
pub mapped_row : {A B : Type 0} {R : A → A → Type 0} (S : B → B → Type 0) (f : A → B) → ((x y : A) → R x y → S (f x) (f y)) → {a b : A} {xs : List A}
    → IsRowFrom R a b xs → IsRowFrom S (f a) (f b) (map f xs)
mapped_row {A} {B} {R} S f keeps {a} {b} {xs} p = record {
  head = f p.head;
  tail = map f p.tail;
  is = ap (map f) p.is;
  begins = ap f p.begins;
  ends = last_map p.head p.tail ∙ ap f p.ends;
  row = row_map p.head p.tail p.row;
}
  where
    last_map : (x : A) (xs : List A) → last_of (f x) (map f xs) ≡ f (last_of x xs)
    last_map x [] = refl
    last_map x (y ∷ ys) = last_map y ys

    row_map : (x : A) (xs : List A) → IsRow R (x ∷ xs) → IsRow S (f x ∷ map f xs)
    row_map x [] r = tt
    row_map x (y ∷ ys) r = (keeps x y r.0, row_map y ys r.1)

-- ---- distinct members

distinct_append : {A : Type 0} (xs ys : List A) → AreDistinct xs → AreDistinct ys → ((x : A) → Among x xs → Among x ys → ⊥)
    → AreDistinct (xs ++ ys)
distinct_append [] ys d e apart = e
distinct_append (x ∷ xs) ys d e apart = (
  (λ m. elim (append_among xs ys x m) [ inl l ↦ d.0 l | inr r ↦ apart x (inl refl) r ]),
  distinct_append xs ys d.1 e (λ y l r. apart y (inr l) r),
)

pub among_reverse : {A : Type 0} (xs : List A) (x : A) → Among x (reverse xs) → Among x xs
among_reverse [] x m = m
among_reverse (y ∷ ys) x m = elim (append_among (reverse ys) (y ∷ []) x (subst (Among x) (reverse_cons y ys) m)) [
  | inl l ↦ inr (among_reverse ys x l)
  | inr r ↦ elim r [ inl e ↦ inl e | inr n ↦ absurd n ]
]

pub distinct_reverse : {A : Type 0} (xs : List A) → AreDistinct xs → AreDistinct (reverse xs)
distinct_reverse [] d = tt
distinct_reverse (y ∷ ys) d =
    subst AreDistinct (sym (reverse_cons y ys))
    (distinct_append (reverse ys) (y ∷ []) (distinct_reverse ys d.1) ((λ m. m), tt) (λ x l r. elim r [ inl e ↦ d.0 (subst (λ z. Among z ys) (sym e) (among_reverse ys x l)) | inr n ↦ n ]))

-- with a function that keeps members apart
pub distinct_map : {A B : Type 0} (f : A → B) → ((x y : A) → f x ≡ f y → x ≡ y) → (xs : List A) → AreDistinct xs → AreDistinct (map f xs)
distinct_map f one [] d = tt
distinct_map {A} f one (x ∷ xs) d = ((λ m. d.0 (back xs m)), distinct_map f one xs d.1)
  where
    back : (ys : List A) → Among (f x) (map f ys) → Among x ys
    back [] m = m
    back (y ∷ ys) (inl e) = inl (one y x e)
    back (y ∷ ys) (inr m) = inr (back ys m)

pub among_flat_map : {A B : Type 0} (f : A → List B) (xs : List A) (y : B) → Among y (flat_map f xs) → (x : A) × Among x xs × Among y (f x)
among_flat_map f [] y m = absurd m
among_flat_map f (x ∷ xs) y m = elim (append_among (f x) (flat_map f xs) y m) [
  | inl l ↦ (x, inl refl, l)
  | inr r ↦ (let n = among_flat_map f xs y r in (n.0, inr n.1, n.2))
]

-- lists of which each has distinct members and a mark of its own
pub distinct_flat_map : {A B : Type 0} (f : A → List B) (mark : B → A) → ((x : A) (y : B) → Among y (f x) → mark y ≡ x) → (xs : List A)
    → AreDistinct xs
    → ((x : A) → Among x xs → AreDistinct (f x)) → AreDistinct (flat_map f xs)
distinct_flat_map f mark own [] d each = tt
distinct_flat_map f mark own (x ∷ xs) d each =
    distinct_append (f x) (flat_map f xs) (each x (inl refl)) (distinct_flat_map f mark own xs d.1 (λ y m. each y (inr m)))
    (λ y l r. let n = among_flat_map f xs y r in d.0 (subst (λ z. Among z xs) (sym (own n.0 y n.2) ∙ own x y l) n.1))

-- a row turned round, by its first and its last member
pub reversed_from : {A : Type 0} {R : A → A → Type 0} {a b : A} {xs : List A} → IsRowFrom R a b xs → IsRowFrom (λ x y. R y x) b a (reverse xs)
reversed_from {A} {R} {a} {b} {xs} p =
    subst (λ ys. IsRowFrom (λ x y. R y x) b a (reverse ys)) (sym p.is)
    (subst (λ z. IsRowFrom (λ x y. R y x) z a (reverse (p.head ∷ p.tail))) p.ends
    (subst (λ z. IsRowFrom (λ x y. R y x) (last_of p.head p.tail) z (reverse (p.head ∷ p.tail))) p.begins
    (reversed_row R p.head p.tail p.row)))

-- what stands at the last place of a row is its last member
pub at_last : {A : Type 0} {R : A → A → Type 0} {a b : A} {xs : List A} → IsRowFrom R a b xs → (n : ℕ) (x : A) → At xs n x → suc n ≡ length xs → x ≡ b
at_last {A} {R} {a} {b} {xs} p n x at e =
    by p.head p.tail n (subst (λ ys. At ys n x) p.is at) (e ∙ ap length p.is) ∙ p.ends
  where
    by : (y : A) (ys : List A) (n : ℕ) → At (y ∷ ys) n x → suc n ≡ length (y ∷ ys) → x ≡ last_of y ys
    by y [] zero at e = sym at
    by y [] (suc n) at e = absurd at
    by y (z ∷ zs) zero at e = absurd (omega arith)
    by y (z ∷ zs) (suc n) at e = by z zs n at (omega arith)

-- and at the first place its first one
pub at_first : {A : Type 0} {R : A → A → Type 0} {a b : A} {xs : List A} → IsRowFrom R a b xs → (x : A) → At xs zero x → x ≡ a
at_first {A} {R} {a} {b} {xs} p x at = by (subst (λ ys. At ys zero x) p.is at) ∙ p.begins
  where
    by : At (p.head ∷ p.tail) zero x → x ≡ p.head
    by at = sym at

pub is_row : {A : Type 0} {R : A → A → Type 0} {a b : A} {xs : List A} → IsRowFrom R a b xs → IsRow R xs
is_row {A} {R} {a} {b} {xs} p = subst (IsRow R) (sym p.is) p.row

pub among_in_reverse : {A : Type 0} (xs : List A) (x : A) → Among x xs → Among x (reverse xs)
among_in_reverse [] x m = m
among_in_reverse (y ∷ ys) x (inl e) = subst (Among x) (sym (reverse_cons y ys)) (among_right (reverse ys) (y ∷ []) x (inl e))
among_in_reverse (y ∷ ys) x (inr n) = subst (Among x) (sym (reverse_cons y ys)) (among_left (reverse ys) (y ∷ []) x (among_in_reverse ys x n))
