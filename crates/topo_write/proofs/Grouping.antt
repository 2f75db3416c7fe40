-- Places of a list by what stands there.
use Rattle.std.proofs.Common.{◌≡◌, ◌≢◌, ◌⊎◌, inl, inr, ℕ, zero, suc, ◌+◌, ◌<◌, ◌==◌, Bool, cond, List, [], ◌∷◌, ◌++◌, length, map-id, filter, get_or, set, replicate, refl, sym, ap, ◌∙◌, eq-eqb, arith}
use Rattle.std.specs.List.{range_with_len}
use Rattle.std.proofs.lemmas.Bool.{cases_eq, eqb-true, false_from_ne_true}
use Rattle.std.proofs.lemmas.List.{append-nil, get_or-set_same, get_or-set_other, length-set}
use Rattle.std.proofs.lemmas.List.FromFn.{filter_of_map_range_with_len_more}
use Rattle.topo_write.specs.Building.{AreGroups}

-- one more place stands last in its group
pub grouped_more : (keys : List ℕ) (i : ℕ) (groups : List (List ℕ)) (ys : List ℕ) → get_or keys i 0 < length groups → AreGroups keys i groups
    → ys ≡ get_or groups (get_or keys i 0) [] ++ i ∷ [] → AreGroups keys (i + 1) (set groups (get_or keys i 0) ys)
grouped_more keys i groups ys short known pushed n l = by (cases_eq n v)
  where
    v : ℕ
    v = get_or keys i 0

    at : ℕ → Bool
    at x = get_or keys x 0 == n

    before : List ℕ
    before = filter at (range_with_len 0 i)

    more : filter at (range_with_len 0 (i + 1)) ≡ before ++ cond (at i) (i ∷ []) []
    more =
        ap (filter at) (sym (map-id (range_with_len 0 (i + 1)))) ∙ filter_of_map_range_with_len_more at (λ x. x) 0 i i (omega arith)
        ∙ ap (λ (xs : List ℕ). filter at xs ++ cond (at i) (i ∷ []) []) (map-id (range_with_len 0 i))

    by : (n ≡ v) ⊎ (n ≢ v) → get_or (set groups v ys) n [] ≡ filter at (range_with_len 0 (i + 1))
    by (inl e) =
        ap (λ (k : ℕ). get_or (set groups v ys) k []) e ∙ get_or-set_same groups v ys [] short ∙ pushed
        ∙ ap (λ (k : ℕ). get_or groups k [] ++ i ∷ []) (sym e) ∙ ap (λ (xs : List ℕ). xs ++ i ∷ []) (known n (omega (arith, e, short)))
        ∙ ap (λ (b : Bool). before ++ cond b (i ∷ []) []) (sym (eq-eqb v n (sym e))) ∙ sym more
    by (inr ne) =
        get_or-set_other groups v n ys [] ne ∙ known n (omega (arith, l, length-set groups v ys)) ∙ sym (append-nil before)
        ∙ ap (λ (b : Bool). before ++ cond b (i ∷ []) []) (sym (false_from_ne_true (at i) (λ f. ne (sym (eqb-true v n f))))) ∙ sym more

-- no place stands in an empty group
pub no_groups : (keys : List ℕ) (n : ℕ) → AreGroups keys 0 (replicate n [])
no_groups keys zero k l = refl
no_groups keys (suc n) zero l = refl
no_groups keys (suc n) (suc k) l = no_groups keys n k (omega (arith, l))
