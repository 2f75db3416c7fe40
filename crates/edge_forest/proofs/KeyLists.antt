-- The lists of keys by label: keys are listed for a label once more.
use Rattle.std.proofs.Common.{◌≡◌, inl, inr, ℕ, ◌<◌, List, [], ◌++◌, length, get_or, set, Result, Ok, Err, sym, ap, ◌∙◌, subst}
use Rattle.std.specs.Prelude.{Contains}
use Rattle.std.specs.Result.{OnErr}
use Rattle.std.proofs.lemmas.Bool.{cases_eq}
use Rattle.std.proofs.lemmas.List.{get_or-set_same, get_or-set_other, get_or_default, length-set, set-set, set-get_or}
use Rattle.std.proofs.lemmas.List.Elements.{Contains-append_left, Contains-append_right}
use Rattle.edge_forest.specs.Growth.{keys_at}

-- each label has at least the keys of before
pub record HasLists (lists lists' : List (List ℕ)) : Type 0 where
  pub count : length lists' ≡ length lists
  pub keys : (l i : ℕ) → Contains (keys_at lists l) i → Contains (keys_at lists' l) i

-- keys are listed for a label once more
pub lists_more : (lists lists' : List (List ℕ)) (l : ℕ) (keys : List ℕ) → lists' ≡ set lists l (keys_at lists l ++ keys) → l < length lists → HasLists lists lists' × ((i : ℕ) → Contains keys i → Contains (keys_at lists' l) i)
lists_more lists lists' l keys is inside = (
  record {
    count = ap length is ∙ length-set lists l (keys_at lists l ++ keys);
    keys = λ j i c. elim (cases_eq j l) [
      | inl e ↦
          subst (λ (ks : List ℕ). Contains ks i) (sym (ap (keys_at lists') e ∙ here))
          (Contains-append_left (keys_at lists l) keys i (subst (λ (n : ℕ). Contains (keys_at lists n) i) e c))
      | inr ne ↦ subst (λ (ks : List ℕ). Contains ks i) (sym (ap (λ (ls : List (List ℕ)). keys_at ls j) is ∙ get_or-set_other lists l j (keys_at lists l ++ keys) [] ne)) c
    ];
  },
  λ i c. subst (λ (ks : List ℕ). Contains ks i) (sym here) (Contains-append_right (keys_at lists l) keys i c),
)
  where
    here : keys_at lists' l ≡ keys_at lists l ++ keys
    here = ap (λ (ls : List (List ℕ)). keys_at ls l) is ∙ get_or-set_same lists l (keys_at lists l ++ keys) [] inside

-- a list that is taken out and put back with more keys, or as it was
module _ (lists : List (List ℕ)) (l : ℕ) (other was now : List ℕ) (inside : l < length lists) (taken : was ≡ get_or lists l was) where
  pub back_with : (keys : List ℕ) → now ≡ was ++ keys → set (set lists l other) l now ≡ set lists l (keys_at lists l ++ keys)
  back_with keys e = set-set lists l other now ∙ ap (set lists l) (e ∙ ap (λ (ks : List ℕ). ks ++ keys) (taken ∙ get_or_default lists l was [] inside))

  pub back_as_before : now ≡ was → set (set lists l other) l now ≡ lists
  back_as_before e = set-set lists l other now ∙ ap (set lists l) (e ∙ taken) ∙ set-get_or lists l was

-- what holds holds of an error too
pub on_err : {T E P : Type 0} (r : Result T E) → P → OnErr r P
on_err (Ok x) p = tt
on_err (Err y) p = p
