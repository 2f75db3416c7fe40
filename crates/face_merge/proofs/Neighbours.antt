-- The faces that an arc pairs: the members of `mergeable` and of `neighbours_of` are exactly the permitted neighbours.
use Rattle.std.proofs.Common.{◌≡◌, ◌⊎◌, inl, inr, ℕ, Bool, true, false, not, ◌&&◌, ◌||◌, ◌==◌, List, [], ◌∷◌, ◌++◌, cond, ◌∙◌, subst, arith, eq-eqb}
use Rattle.std.specs.List.{AllByRecursion, list_any}
use Rattle.std.proofs.lemmas.Bool.{cond-true, cond-false, cond_both, or_left, or_right, or_cases, and_from}
use Rattle.std.proofs.lemmas.Bool.Decides.{nat_tests}
use Rattle.tgap_model.specs.declared.base.Rules.{Rules}
use Rattle.tgap_model.specs.declared.merge.LabelledArc.{LabelledArc}
use Rattle.tgap_model.specs.History.{is_between, are_neighbours, permits, is_permitted, permitting, permitted_by, is_shared, mergeable, neighbours_of}

-- two different faces, neither of them the outside
abbrev pub is_pair : ℕ → ℕ → Bool
is_pair f g = not (f == 0) && not (g == 0) && not (f == g)

-- what holds of each member of two lists, and of both together
each_append : (P : ℕ → Type 0) (xs ys : List ℕ) → AllByRecursion P xs → AllByRecursion P ys → AllByRecursion P (xs ++ ys)
each_append P [] ys p q = q
each_append P (x ∷ xs) ys p q = (p.0, each_append P xs ys p.1 q)

-- the first of two lists
each_left : (P : ℕ → Type 0) (xs ys : List ℕ) → AllByRecursion P (xs ++ ys) → AllByRecursion P xs
each_left P [] ys p = tt
each_left P (x ∷ xs) ys p = (p.0, each_left P xs ys p.1)

-- the second of two lists
each_right : (P : ℕ → Type 0) (xs ys : List ℕ) → AllByRecursion P (xs ++ ys) → AllByRecursion P ys
each_right P [] ys p = p
each_right P (x ∷ xs) ys p = each_right P xs ys p.1

-- ---- one arc, by its labels

-- the labels of a shared arc are a pair, either way round
pub shared_pair : (l r : ℕ) → (not (l == 0) && not (r == 0) && not (l == r)) ≡ true → (is_pair l r ≡ true) × (is_pair r l ≡ true)
shared_pair l r e = (e, grind (arith, nat_tests))

-- an arc is between its labels
pub between_itself : (l r : ℕ) → (((l == l) && (r == r)) || ((l == r) && (r == l))) ≡ true
between_itself l r = grind (arith, nat_tests)

-- and between them the other way round
pub between_turned : (l r : ℕ) → (((l == r) && (r == l)) || ((l == l) && (r == r))) ≡ true
between_turned l r = grind (arith, nat_tests)

-- the faces that an arc is between are its labels
pub between_labels : (f g l r : ℕ) → (((l == f) && (r == g)) || ((l == g) && (r == f))) ≡ true → ((l ≡ f) × (r ≡ g)) ⊎ ((l ≡ g) × (r ≡ f))
between_labels f g l r e = grind (arith, nat_tests)

-- an arc between two different faces, neither of them the outside, is shared
pub between_shared : (f g l r : ℕ) → is_pair f g ≡ true → (((l == f) && (r == g)) || ((l == g) && (r == f))) ≡ true → (not (l == 0) && not (r == 0) && not (l == r)) ≡ true
between_shared f g l r pair e = grind (arith, nat_tests)

-- a shared arc with the face at its left makes its right label a neighbour
left_between : (f l r : ℕ) → (not (l == 0) && not (r == 0) && not (l == r) && (l == f)) ≡ true → (is_pair f r ≡ true) × ((((l == f) && (r == r)) || ((l == r) && (r == f))) ≡ true)
left_between f l r e = (grind (arith, nat_tests), grind (arith, nat_tests))

-- and with the face at its right its left label
right_between : (f l r : ℕ) → (not (l == 0) && not (r == 0) && not (l == r) && (r == f)) ≡ true → (is_pair f l ≡ true) × ((((l == f) && (r == l)) || ((l == l) && (r == f))) ≡ true)
right_between f l r e = (grind (arith, nat_tests), grind (arith, nat_tests))

-- an arc with another face at its left has the face at its right only
right_only : (f g l r : ℕ) → is_pair f g ≡ true → l ≡ g → (not (l == 0) && not (r == 0) && not (l == r) && (l == f)) ≡ false
right_only f g l r pair e = grind (arith, nat_tests)

-- ---- the faces that have a permitted neighbour

module _ (rules : Rules) (classes : List ℕ) where
  -- a side of an arc, where it permits the other, and where the other permits it
  permitting_has : (P : ℕ → Type 0) (f g : ℕ) → permits rules classes f g ≡ true → AllByRecursion P (permitting rules classes f g) → P f
  permitting_has P f g e ps = (subst (AllByRecursion P) (cond-true (permits rules classes f g) (f ∷ []) [] e) ps).0

  permitted_has : (P : ℕ → Type 0) (f g : ℕ) → permits rules classes f g ≡ true → AllByRecursion P (permitted_by rules classes f g) → P g
  permitted_has P f g e ps = (subst (AllByRecursion P) (cond-true (permits rules classes f g) (g ∷ []) [] e) ps).0

  -- each of them has a permitted neighbour in the whole map, where the arcs are some of the map's
  mergeable_within : (whole arcs : List LabelledArc) → ((f g : ℕ) → list_any (is_between f g) arcs ≡ true → list_any (is_between f g) whole ≡ true)
      → AllByRecursion (λ f. (g : ℕ) × (is_permitted rules classes whole f g ≡ true)) (mergeable rules classes arcs)
  mergeable_within whole [] within = tt
  mergeable_within whole (a ∷ arcs) within =
      each_append P (cond (is_shared a) (permitting rules classes a.left a.right ++ permitting rules classes a.right a.left) []) (mergeable rules classes arcs)
      (cond_both (is_shared a) (permitting rules classes a.left a.right ++ permitting rules classes a.right a.left) [] (AllByRecursion P) (λ e. here (shared_pair a.left a.right e)) (λ _. tt))
      (mergeable_within whole arcs (λ f g e. within f g (or_right (is_between f g a) _ e)))
    where
      P : ℕ → Type 0
      P f = (g : ℕ) × (is_permitted rules classes whole f g ≡ true)

      side : (f g : ℕ) → are_neighbours whole f g ≡ true → AllByRecursion P (permitting rules classes f g)
      side f g near = cond_both (permits rules classes f g) (f ∷ []) [] (AllByRecursion P) (λ e. ((g, and_from _ _ near e), tt)) (λ _. tt)

      here : (is_pair a.left a.right ≡ true) × (is_pair a.right a.left ≡ true) → AllByRecursion P (permitting rules classes a.left a.right ++ permitting rules classes a.right a.left)
      here e =
          each_append P (permitting rules classes a.left a.right) (permitting rules classes a.right a.left)
          (side a.left a.right (and_from _ _ e.0 (within a.left a.right (or_left _ _ (between_itself a.left a.right)))))
          (side a.right a.left (and_from _ _ e.1 (within a.right a.left (or_left _ _ (between_turned a.left a.right)))))

  -- each of them has a permitted neighbour
  pub mergeable_neighbours : (arcs : List LabelledArc) → AllByRecursion (λ f. (g : ℕ) × (is_permitted rules classes arcs f g ≡ true)) (mergeable rules classes arcs)
  mergeable_neighbours arcs = mergeable_within arcs arcs (λ _ _ e. e)

  -- what holds of each of them holds of each face with a permitted neighbour
  pub mergeable_has : (P : ℕ → Type 0) (arcs : List LabelledArc) (f g : ℕ) → AllByRecursion P (mergeable rules classes arcs) → is_pair f g ≡ true → list_any (is_between f g) arcs ≡ true
      → permits rules classes f g ≡ true → P f
  mergeable_has P [] f g ps pair e permitted = absurd cc
  mergeable_has P (a ∷ arcs) f g ps pair e permitted =
      elim (or_cases (is_between f g a) _ e) [
        | inl here ↦ at_arc here
        | inr later ↦ mergeable_has P arcs f g (each_right P (cond (is_shared a) (permitting rules classes a.left a.right ++ permitting rules classes a.right a.left) []) _ ps) pair later permitted
      ]
    where
      at_labels : ((a.left ≡ f) × (a.right ≡ g)) ⊎ ((a.left ≡ g) × (a.right ≡ f)) → AllByRecursion P (permitting rules classes a.left a.right ++ permitting rules classes a.right a.left) → P f
      at_labels (inl e) p =
          let part = each_left P (permitting rules classes a.left a.right) (permitting rules classes a.right a.left) p in
          subst P e.0 (permitting_has P a.left a.right (rw (e.0, e.1) permitted) part)
      at_labels (inr e) p =
          let part = each_right P (permitting rules classes a.left a.right) (permitting rules classes a.right a.left) p in
          subst P e.1 (permitting_has P a.right a.left (rw (e.0, e.1) permitted) part)

      at_arc : is_between f g a ≡ true → P f
      at_arc here =
          let p = each_left P (cond (is_shared a) (permitting rules classes a.left a.right ++ permitting rules classes a.right a.left) []) _ ps in
          at_labels (between_labels f g a.left a.right here)
          (subst (AllByRecursion P) (cond-true (is_shared a) (permitting rules classes a.left a.right ++ permitting rules classes a.right a.left) [] (between_shared f g a.left a.right pair here)) p)

  -- ---- the permitted neighbours of a face

  -- each of them is one in the whole map, where the arcs are some of the map's
  listed_within : (whole arcs : List LabelledArc) (f : ℕ) → ((f g : ℕ) → list_any (is_between f g) arcs ≡ true → list_any (is_between f g) whole ≡ true)
      → AllByRecursion (λ g. is_permitted rules classes whole f g ≡ true) (neighbours_of rules classes arcs f)
  listed_within whole [] f within = tt
  listed_within whole (a ∷ arcs) f within =
      each_append P (cond (is_shared a && (a.left == f)) (permitted_by rules classes f a.right) (cond (is_shared a && (a.right == f)) (permitted_by rules classes f a.left) []))
      (neighbours_of rules classes arcs f)
      (cond_both (is_shared a && (a.left == f)) (permitted_by rules classes f a.right) _ (AllByRecursion P) (λ e. side a.right (from_left e))
      (λ _. cond_both (is_shared a && (a.right == f)) (permitted_by rules classes f a.left) [] (AllByRecursion P) (λ e. side a.left (from_right e)) (λ _. tt)))
      (listed_within whole arcs f (λ f g e. within f g (or_right (is_between f g a) _ e)))
    where
      P : ℕ → Type 0
      P g = is_permitted rules classes whole f g ≡ true

      side : (g : ℕ) → are_neighbours whole f g ≡ true → AllByRecursion P (permitted_by rules classes f g)
      side g near = cond_both (permits rules classes f g) (g ∷ []) [] (AllByRecursion P) (λ e. (and_from _ _ near e, tt)) (λ _. tt)

      from_left : (is_shared a && (a.left == f)) ≡ true → are_neighbours whole f a.right ≡ true
      from_left e =
          let m = left_between f a.left a.right e in
          and_from _ _ m.0 (within f a.right (or_left _ _ m.1))

      from_right : (is_shared a && (a.right == f)) ≡ true → are_neighbours whole f a.left ≡ true
      from_right e =
          let m = right_between f a.left a.right e in
          and_from _ _ m.0 (within f a.left (or_left _ _ m.1))

  -- each of them is one
  pub neighbours_are : (arcs : List LabelledArc) (f : ℕ) → AllByRecursion (λ g. is_permitted rules classes arcs f g ≡ true) (neighbours_of rules classes arcs f)
  neighbours_are arcs f = listed_within arcs arcs f (λ _ _ e. e)

  -- what holds of each of them holds of each permitted neighbour
  pub neighbours_has : (P : ℕ → Type 0) (arcs : List LabelledArc) (f g : ℕ) → AllByRecursion P (neighbours_of rules classes arcs f) → is_pair f g ≡ true → list_any (is_between f g) arcs ≡ true
      → permits rules classes f g ≡ true → P g
  neighbours_has P [] f g ps pair e permitted = absurd cc
  neighbours_has P (a ∷ arcs) f g ps pair e permitted =
      elim (or_cases (is_between f g a) _ e) [
        | inl here ↦ at_labels (between_labels f g a.left a.right here) (between_shared f g a.left a.right pair here)
        | inr later ↦ neighbours_has P arcs f g (each_right P found _ ps) pair later permitted
      ]
    where
      found : List ℕ
      found = cond (is_shared a && (a.left == f)) (permitted_by rules classes f a.right) (cond (is_shared a && (a.right == f)) (permitted_by rules classes f a.left) [])

      head : AllByRecursion P found
      head = each_left P found _ ps

      at_labels : ((a.left ≡ f) × (a.right ≡ g)) ⊎ ((a.left ≡ g) × (a.right ≡ f)) → is_shared a ≡ true → P g
      at_labels (inl e) s =
          let left : (is_shared a && (a.left == f)) ≡ true = and_from _ _ s (eq-eqb a.left f e.0) in
          let side = subst (AllByRecursion P) (cond-true _ (permitted_by rules classes f a.right) _ left) head in
          subst P e.1 (permitted_has P f a.right (rw e.1 permitted) side)
      at_labels (inr e) s =
          let left : (is_shared a && (a.left == f)) ≡ false = right_only f g a.left a.right pair e.0 in
          let right : (is_shared a && (a.right == f)) ≡ true = and_from _ _ s (eq-eqb a.right f e.1) in
          let side = subst (AllByRecursion P) (cond-false _ (permitted_by rules classes f a.right) _ left ∙ cond-true _ (permitted_by rules classes f a.left) [] right) head in
          subst P e.0 (permitted_has P f a.left (rw e.0 permitted) side)
