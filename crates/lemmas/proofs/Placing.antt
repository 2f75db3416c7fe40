-- The place of a new member in a sorted list, by binary search, and the members after it went there.
use Rattle.std.proofs.Common.{◌≡◌, ◌⊎◌, inl, inr, ⊎_elim, ℕ, ◌<◌, ◌≤◌, Bool, true, false, List, [], ◌∷◌, ◌+◌, length, take, drop, get_or, All, Contains, refl, sym, ap, ◌∙◌, subst, true≢false, arith}
use Rattle.std.specs.List.{insert}
use Rattle.std.proofs.lemmas.Bool.{cases_order, false_from_ne_true}
use Rattle.std.proofs.lemmas.List.{get_or_default, take-append-drop, length-drop, length-take-le, get_or-take, get_or-drop}
use Rattle.std.proofs.lemmas.List.Sorted.{Contains-permutation, IsPermutation-sym}
use Rattle.lemmas.specs.Sorting.{insert_by, is_before_first, is_sorted_by, IsStrictOrderOn}
use Rattle.lemmas.proofs.Sorting.{sorted_pairs, insert_by-between, insert_by-permutation}
use Rattle.lemmas.proofs.Members.{in_tail, in_cases}

module _ {A : Type 0} {P : A → Type 0} {before : A → A → Bool} (o : IsStrictOrderOn P before) (x : A) (ys : List A) (px : P x) (ps : All P ys) (sorted : is_sorted_by before ys ≡ true) where
  -- what stands before a member stands before all that follow
  pub before_from : (m k : ℕ) (e d : A) → m ≤ k → k < length ys → before x (get_or ys m e) ≡ true → before x (get_or ys k d) ≡ true
  before_from m k e d le short h = by (cases_order m k)
    where
      here : before x (get_or ys m d) ≡ true
      here = subst (λ y. before x y ≡ true) (get_or_default ys m e d (omega arith)) h

      by : (m ≡ k) ⊎ ((m < k) ⊎ (k < m)) → before x (get_or ys k d) ≡ true
      by (inl same) = subst (λ n. before x (get_or ys n d) ≡ true) same here
      by (inr (inl less)) = o.passes x (get_or ys m d) (get_or ys k d) px (ps m d (omega arith)) (ps k d short) here (sorted_pairs o ys ps sorted m k d less short)
      by (inr (inr more)) = absurd (omega arith)

  -- what does not stand before a member stands before none in front of it
  pub not_before_up_to : (m k : ℕ) (e d : A) → k ≤ m → m < length ys → before x (get_or ys m e) ≡ false → before x (get_or ys k d) ≡ false
  not_before_up_to m k e d le short h = false_from_ne_true (before x (get_or ys k d)) (λ f. true≢false (sym (before_from k m d e le short f) ∙ h))

-- the place between those that it does not stand before and those that it stands before
pub insert-place : {A : Type 0} (before : A → A → Bool) (x : A) (ys : List A) (i : ℕ) → i ≤ length ys → ((k : ℕ) (d : A) → k < i → before x (get_or ys k d) ≡ false)
    → ((k : ℕ) (d : A) → i ≤ k → k < length ys → before x (get_or ys k d) ≡ true) → insert ys i x ≡ insert_by before x ys
insert-place {A = A} before x ys i le above below =
    sym (ap (insert_by before x) (sym (take-append-drop i ys)) ∙ insert_by-between before x (take i ys) (drop i ys)
    (λ k d l. let short : k < i = omega (arith, length-take-le i ys le) in rw (get_or-take i ys k d short) (above k d short))
    (first (drop i ys) (λ d l. subst (λ y. before x y ≡ true) (sym (get_or-drop i ys 0 d)) (below (i + 0) d (omega arith) (omega (arith, l, length-drop i ys))))))
  where
    first : (zs : List A) → ((d : A) → 0 < length zs → before x (get_or zs 0 d) ≡ true) → is_before_first before x zs ≡ true
    first [] h = refl
    first (z ∷ zs) h = h z (omega arith)

-- what is inserted is a member, and the others stay
pub Contains-insert_by : {A : Type 0} (before : A → A → Bool) (x : A) (ys : List A) (z : A) → (x ≡ z) ⊎ Contains ys z → Contains (insert_by before x ys) z
Contains-insert_by before x ys z h =
    Contains-permutation (x ∷ ys) (insert_by before x ys) z (insert_by-permutation before x ys) (⊎_elim (λ e. (0, omega arith, e)) (in_tail x ys z) h)

pub Contains-from_insert_by : {A : Type 0} (before : A → A → Bool) (x : A) (ys : List A) (z : A) → Contains (insert_by before x ys) z → (x ≡ z) ⊎ Contains ys z
Contains-from_insert_by before x ys z c =
    in_cases x ys z (Contains-permutation (insert_by before x ys) (x ∷ ys) z (IsPermutation-sym (x ∷ ys) (insert_by before x ys) (insert_by-permutation before x ys)) c)
