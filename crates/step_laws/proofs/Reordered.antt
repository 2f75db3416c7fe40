-- Lists with the same members, each as often, in another order.
use Rattle.std.proofs.Common.{◌≡◌, inl, inr, ℕ, Bool, true, false, not, List, ◌∷◌, ◌++◌, map, filter, sum_by, refl, sym, ap, ◌∙◌, subst, arith}
use Rattle.std.proofs.lemmas.List.Sums.{sum_by-cons, sum_by-append}
use Rattle.std.proofs.lemmas.List.Filters.{sum_by-filter_both}
use Rattle.lemmas.specs.Sorting.{sort_by}
use Rattle.lemmas.proofs.Counts.{sum_by-map}
use Rattle.lemmas.proofs.Sorting.{sum_by-sort_by}
use Rattle.map_laws.proofs.ChainMembers.{Among, append_among, among_left, among_right}
use Rattle.map_laws.proofs.Lists.{sort_among, among_sort, map_among, among_map, kept_among, among_kept}

-- The second list has the members of the first, each as often.
pub record AreReordered {A : Type 0} (xs ys : List A) : Type 0 where
  pub sums : (f : A → ℕ) → sum_by f xs ≡ sum_by f ys
  pub there : (x : A) → Among x xs → Among x ys
  pub back : (x : A) → Among x ys → Among x xs

module _ {A : Type 0} where
  pub reordered_back : (xs ys : List A) → AreReordered xs ys → AreReordered ys xs
  reordered_back xs ys r = record { sums = λ f. sym (r.sums f); there = r.back; back = r.there }

  -- the first two exchanged
  pub reordered_swap : (x y : A) (zs : List A) → AreReordered (x ∷ y ∷ zs) (y ∷ x ∷ zs)
  reordered_swap x y zs = record {
    sums = λ f. omega (arith, sum_by-cons f x (y ∷ zs), sum_by-cons f y zs, sum_by-cons f y (x ∷ zs), sum_by-cons f x zs);
    there = swap x y;
    back = swap y x;
  }
    where
      swap : (x y z : A) → Among z (x ∷ y ∷ zs) → Among z (y ∷ x ∷ zs)
      swap x y z (inl e) = inr (inl e)
      swap x y z (inr (inl e)) = inl e
      swap x y z (inr (inr m)) = inr (inr m)

  -- the first one behind others
  pub reordered_behind : (x : A) (ys zs : List A) → AreReordered (x ∷ (ys ++ zs)) (ys ++ x ∷ zs)
  reordered_behind x ys zs = record {
    sums = λ f. omega (arith, sum_by-cons f x (ys ++ zs), sum_by-append f ys zs, sum_by-append f ys (x ∷ zs), sum_by-cons f x zs);
    there = there;
    back = back;
  }
    where
      there : (z : A) → Among z (x ∷ (ys ++ zs)) → Among z (ys ++ x ∷ zs)
      there z (inl e) = among_right ys (x ∷ zs) z (inl e)
      there z (inr m) = elim (append_among ys zs z m) [ inl n ↦ among_left ys (x ∷ zs) z n | inr n ↦ among_right ys (x ∷ zs) z (inr n) ]

      back : (z : A) → Among z (ys ++ x ∷ zs) → Among z (x ∷ (ys ++ zs))
      back z m = elim (append_among ys (x ∷ zs) z m) [
        | inl n ↦ inr (among_left ys zs z n)
        | inr n ↦ elim n [ inl e ↦ inl e | inr o ↦ inr (among_right ys zs z o) ]
      ]

  -- sorted
  pub reordered_sort : (before : A → A → Bool) (xs : List A) → AreReordered xs (sort_by before xs)
  reordered_sort before xs =
      record { sums = λ f. sym (sum_by-sort_by before f xs); there = among_sort before xs; back = sort_among before xs }

  -- those that pass a test before those that fail it
  pub reordered_split : (p : A → Bool) (xs : List A) → AreReordered xs (filter p xs ++ filter (λ x. not (p x)) xs)
  reordered_split p xs = record {
    sums = λ f. omega (
      arith,
      sum_by-append f (filter p xs) (filter (λ x. not (p x)) xs),
      sum_by-filter_both p (λ x. not (p x)) (λ x. refl) f xs,
    );
    there = λ x m. by x m (p x) refl;
    back = λ x m. elim (append_among (filter p xs) (filter (λ x. not (p x)) xs) x m) [
      | inl n ↦ kept_among p xs x n
      | inr n ↦ kept_among (λ x. not (p x)) xs x n
    ];
  }
    where
      by : (x : A) → Among x xs → (b : Bool) → p x ≡ b → Among x (filter p xs ++ filter (λ x. not (p x)) xs)
      by x m true e = among_left (filter p xs) (filter (λ x. not (p x)) xs) x (among_kept p xs x m e)
      by x m false e = among_right (filter p xs) (filter (λ x. not (p x)) xs) x (among_kept (λ x. not (p x)) xs x m (ap not e))

-- values of reordered lists
pub reordered_map : {A B : Type 0} (g : A → B) (xs ys : List A) → AreReordered xs ys → AreReordered (map g xs) (map g ys)
reordered_map {A = A} {B = B} g xs ys r = record {
  sums = λ f. sum_by-map f g xs ∙ r.sums (λ x. f (g x)) ∙ sym (sum_by-map f g ys);
  there = λ y m. over xs ys r.there y m;
  back = λ y m. over ys xs r.back y m;
}
  where
    over : (us vs : List A) → ((x : A) → Among x us → Among x vs) → (y : B) → Among y (map g us) → Among y (map g vs)
    over us vs on y m = let n = map_among g us y m in subst (λ z. Among z (map g vs)) n.2 (among_map g vs n.0 (on n.0 n.1))
