-- Sorted lists with one or two members more: where they stand, and what the faces down them say.
use Rattle.std.proofs.Common.{◌≡◌, ℕ, zero, suc, ◌<◌, Bool, true, false, cond, ◌||◌, ◌==◌, List, [], ◌∷◌, ◌++◌, map, All, AllPairs, length, get_or, refl, ap, ◌∙◌, subst, arith}
use Rattle.std.proofs.Math.Bool.{or_comm}
use Rattle.std.proofs.lemmas.Bool.{and_parts, and_from}
use Rattle.std.proofs.lemmas.List.Elements.{All-head, All-tail, All-append, All-weaker}
use Rattle.std.proofs.lemmas.List.Sorted.{IsPermutation-middle, IsPermutation-cons, IsPermutation-trans}
use Rattle.lemmas.specs.Sorting.{insert_by, sort_by, IsStrictOrderOn}
use Rattle.lemmas.proofs.Members.{AllPairs-nil, AllPairs-head, AllPairs-tail}
use Rattle.std.proofs.lemmas.List.Kept.{AllPairs-cons}
use Rattle.lemmas.proofs.Sorting.{insert_by-permutation, sort_by-permutation, All-sort_by, insert_by-is_sorted, sort_by-is_sorted, sort_by-permuted}
use Rattle.tgap_model.specs.declared.segment.LabelledSegment.{LabelledSegment}
use Rattle.tgap_model.specs.Partition.{sides, agree_from}
use Rattle.map_laws.proofs.Labels.{neighbours_cancel}
use Rattle.removal_laws.proofs.Pairs.{mid_before, mid_after, mid_out}

-- pairs of members, from pairs of their values
pub pairs_from_values : {A B : Type 0} (R : B → B → Type 0) (f : A → B) (xs : List A) → AllPairs R (map f xs) → AllPairs (λ x y. R (f x) (f y)) xs
pairs_from_values {A} R f [] h = AllPairs-nil (λ (x y : A). R (f x) (f y))
pairs_from_values {A} R f (x ∷ xs) h = AllPairs-cons (λ (y z : A). R (f y) (f z)) x xs
    (of_all xs (AllPairs-head R (f x) (map f xs) h)) (pairs_from_values R f xs (AllPairs-tail R (f x) (map f xs) h))
  where
    of_all : (ys : List A) → All (R (f x)) (map f ys) → All (λ y. R (f x) (f y)) ys
    of_all [] k i d l = absurd (omega arith)
    of_all (y ∷ ys) k i d l = by i l (of_all ys (All-tail (R (f x)) (f y) (map f ys) k))
      where
        by : (i : ℕ) → i < suc (length ys) → All (λ z. R (f x) (f z)) ys → R (f x) (f (get_or (y ∷ ys) i d))
        by zero m rest = All-head (R (f x)) (f y) (map f ys) k
        by (suc i) m rest = rest i d (omega arith)

module _ {A : Type 0} (P : A → Type 0) (before : A → A → Bool) (o : IsStrictOrderOn P before) where
  -- one of the two stands before the other
  abbrev pub AreOrdered : A → A → Type 0
  AreOrdered x y = (before x y || before y x) ≡ true

  -- a member in the middle may be sorted in last
  pub sort_middle : (xs : List A) (y : A) (ys : List A) → All P (xs ++ y ∷ ys) → AllPairs AreOrdered (xs ++ y ∷ ys)
      → sort_by before (xs ++ y ∷ ys) ≡ insert_by before y (sort_by before (xs ++ ys))
  sort_middle xs y ys p h = sort_by-permuted o (xs ++ y ∷ ys) (insert_by before y (sort_by before (xs ++ ys))) p
      (insert_by-is_sorted before y (sort_by before (xs ++ ys)) (All-sort_by before (AreOrdered y) (xs ++ ys) others) (sort_by-is_sorted before (xs ++ ys) (mid_out AreOrdered xs y ys h)))
      (IsPermutation-trans (xs ++ y ∷ ys) (y ∷ (xs ++ ys)) (insert_by before y (sort_by before (xs ++ ys))) (IsPermutation-middle xs y ys)
      (IsPermutation-trans (y ∷ (xs ++ ys)) (y ∷ sort_by before (xs ++ ys)) (insert_by before y (sort_by before (xs ++ ys)))
      (IsPermutation-cons y (xs ++ ys) (sort_by before (xs ++ ys)) (sort_by-permutation before (xs ++ ys)))
      (insert_by-permutation before y (sort_by before (xs ++ ys)))))
    where
      others : All (AreOrdered y) (xs ++ ys)
      others = All-append (AreOrdered y) xs ys
          (All-weaker (λ x. AreOrdered x y) (AreOrdered y) (λ x k. or_comm (before y x) (before x y) ∙ k) xs (mid_before AreOrdered xs y ys h))
          (mid_after AreOrdered xs y ys h)

-- two members that stand to the others in one order stand at one place
pub same_insert : {A B : Type 0} (before : A → A → Bool) (f : A → B) (y z : A) → f y ≡ f z → (ss : List A) → All (λ s. before y s ≡ before z s) ss
    → map f (insert_by before y ss) ≡ map f (insert_by before z ss)
same_insert before f y z e [] h = ap (λ x. x ∷ []) e
same_insert before f y z e (s ∷ ss) h =
    by (before y s) (before z s) (All-head (λ s. before y s ≡ before z s) s ss h) (same_insert before f y z e ss (All-tail (λ s. before y s ≡ before z s) s ss h))
  where
    by : (v w : Bool) → v ≡ w → map f (insert_by before y ss) ≡ map f (insert_by before z ss)
        → map f (cond v (y ∷ s ∷ ss) (s ∷ insert_by before y ss)) ≡ map f (cond w (z ∷ s ∷ ss) (s ∷ insert_by before z ss))
    by true true g k = ap (λ x. x ∷ f s ∷ map f ss) e
    by true false g k = absurd cc
    by false true g k = absurd cc
    by false false g k = ap (λ xs. f s ∷ xs) k

-- two such members of which the second leads back may be left out
module _ (before : LabelledSegment → LabelledSegment → Bool) (y z : LabelledSegment) (back : (sides y).upper ≡ (sides z).lower) (forth : (sides z).upper ≡ (sides y).lower) where
  both_cancel : (v : Bool) (u : ℕ) (ss : List LabelledSegment) → agree_from u (map sides (cond v (y ∷ z ∷ ss) (z ∷ y ∷ ss))) ≡ true → agree_from u (map sides ss) ≡ true
  both_cancel true u ss h = neighbours_cancel u [] (sides y) (sides z) (map sides ss) h back
  both_cancel false u ss h = neighbours_cancel u [] (sides z) (sides y) (map sides ss) h forth

  pub two_cancel : (u : ℕ) (ss : List LabelledSegment) → All (λ s. before y s ≡ before z s) ss
      → agree_from u (map sides (insert_by before y (insert_by before z ss))) ≡ true → agree_from u (map sides ss) ≡ true
  two_cancel u [] h k = both_cancel (before y z) u [] k
  two_cancel u (s ∷ ss) h k =
      by (before z s) refl (All-head (λ s. before y s ≡ before z s) s ss h) k (two_cancel (sides s).lower ss (All-tail (λ s. before y s ≡ before z s) s ss h))
    where
      by : (w : Bool) → before z s ≡ w → before y s ≡ before z s
          → agree_from u (map sides (insert_by before y (cond w (z ∷ s ∷ ss) (s ∷ insert_by before z ss)))) ≡ true
          → (agree_from (sides s).lower (map sides (insert_by before y (insert_by before z ss))) ≡ true → agree_from (sides s).lower (map sides ss) ≡ true)
          → agree_from u (map sides (s ∷ ss)) ≡ true
      by true e f g rest = both_cancel (before y z) u (s ∷ ss)
          (subst (λ (v : Bool). agree_from u (map sides (cond (before y z) (y ∷ z ∷ s ∷ ss) (z ∷ cond v (y ∷ s ∷ ss) (s ∷ insert_by before y ss)))) ≡ true) (f ∙ e) g)
      by false e f g rest =
          let parts = and_parts ((sides s).upper == u) (agree_from (sides s).lower (map sides (insert_by before y (insert_by before z ss))))
          (subst (λ (v : Bool). agree_from u (map sides (cond v (y ∷ s ∷ insert_by before z ss) (s ∷ insert_by before y (insert_by before z ss)))) ≡ true) (f ∙ e) g) in
          and_from ((sides s).upper == u) (agree_from (sides s).lower (map sides ss)) parts.0 (rest parts.1)
