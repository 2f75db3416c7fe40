-- What differs in its keys is put in one after the other.
use Rattle.std.proofs.Common.{◌≡◌, ℕ, false, nat_lt, List, ◌∷◌, ◌++◌, length, get_or, All, AllPairs, IsPermutation, sym, subst, length-append, arith}
use Rattle.std.specs.Prelude.{◌==◌}
use Rattle.std.specs.List.{list_any}
use Rattle.std.proofs.lemmas.Bool.{ne_eqb}
use Rattle.std.proofs.Math.ListN.{get_or-append}
use Rattle.std.proofs.Math.Seq.{get_or-append_seam}
use Rattle.std.proofs.lemmas.List.Folds.{list_any_none}
use Rattle.std.proofs.lemmas.List.Sorted.{IsPermutation-trans, IsPermutation-middle, IsPermutation-append_left}
use Rattle.lemmas.specs.Sorting.{insert_by}
use Rattle.lemmas.proofs.Sorting.{insert_by-permutation, AllPairs-permutation}
use Rattle.client_replay.specs.Working.{DifferBy}
use Rattle.client_replay.proofs.Apart.{keys_differ, differ_turned}

-- of all, these are put in, and those are left
pub record IsPutting {A : Type 0} (key : A → ℕ) (all now left : List A) : Type 0 where
  pub moved : IsPermutation all (now ++ left)
  pub apart : AllPairs (DifferBy key) (now ++ left)

module _ {A : Type 0} (key : A → ℕ) where
  in_front : (now left : List A) (x : A) → AllPairs (DifferBy key) (now ++ x ∷ left) → All (λ y. DifferBy key y x) now
  in_front now left x h i d l =
      let n = length now in
      let here : get_or (now ++ x ∷ left) n d ≡ x = get_or-append_seam now x left d in
      let there : get_or (now ++ x ∷ left) i d ≡ get_or now i d = get_or-append now (x ∷ left) d i l in
      let both = h i n d l (let c = length-append now (x ∷ left) in omega (arith, c)) in
      subst (λ y. DifferBy key y x) there (subst (DifferBy key (get_or (now ++ x ∷ left) i d)) here both)

  pub next_new : (all now left : List A) (x : A) → IsPutting key all now (x ∷ left) → list_any (λ y. key y == key x) now ≡ false
  next_new all now left x h =
      let apart = in_front now left x h.apart in
      list_any_none (λ y. key y == key x) now (λ i d l. ne_eqb (key (get_or now i d)) (key x) (keys_differ key (get_or now i d) x (apart i d l)))

  pub put_next : (all now left next : List A) (x : A) → IsPutting key all now (x ∷ left) → next ≡ insert_by (λ y z. nat_lt (key y) (key z)) x now → IsPutting key all next left
  put_next all now left next x h is = record {
    moved = IsPermutation-trans all (now ++ x ∷ left) (next ++ left) h.moved both;
    apart = AllPairs-permutation (DifferBy key) (differ_turned key) (now ++ x ∷ left) (next ++ left) both h.apart;
  }
    where
      both : IsPermutation (now ++ x ∷ left) (next ++ left)
      both =
          IsPermutation-trans (now ++ x ∷ left) ((x ∷ now) ++ left) (next ++ left) (IsPermutation-middle now x left)
          (IsPermutation-append_left left (x ∷ now) next (subst (IsPermutation (x ∷ now)) (sym is) (insert_by-permutation (λ y z. nat_lt (key y) (key z)) x now)))
