-- Lists that are laid one after the other.
use Rattle.std.proofs.Common.{◌≡◌, ⊎_elim, ℕ, ◌+◌, ◌-◌, ◌<◌, ◌≤◌, List, [], ◌∷◌, ◌++◌, length, get_or, refl, sym, ap₂, ◌∙◌, subst, arith}
use Rattle.std.specs.List.{slice_range}
use Rattle.std.proofs.lemmas.Bool.{cases_lt}
use Rattle.std.proofs.lemmas.List.{get_or_append_left, get_or_default, get_or_push, length-append, length_push, same_lists}
use Rattle.std.proofs.lemmas.List.FromFn.{get_or-map-range_with_len, length-map-range_with_len}
use Rattle.edge_forest.specs.FlatLists.{lists_between}
use Rattle.edge_forest.proofs.LaidSteps.{range_before, range_behind}

-- ---- the lists so far

abbrev between : List ℕ → List ℕ → ℕ → List ℕ
between starts ids x = slice_range ids (get_or starts x 0) (get_or starts (x + 1) 0)

pub record IsFlat (lists : List (List ℕ)) (n : ℕ) (starts ids : List ℕ) : Type 0 where
  pub count : length starts ≡ n + 1
  pub end : get_or starts n 0 ≡ length ids
  pub ascend : (x : ℕ) → x < n → get_or starts x 0 ≤ get_or starts (x + 1) 0
  pub within : (x : ℕ) → x < n + 1 → get_or starts x 0 ≤ length ids
  pub each : (x : ℕ) → x < n → slice_range ids (get_or starts x 0) (get_or starts (x + 1) 0) ≡ get_or lists x []

-- one more list
pub flat_more : (lists : List (List ℕ)) (n : ℕ) (starts ids new : List ℕ) → new ≡ get_or lists n [] → IsFlat lists n starts ids
    → IsFlat lists (n + 1) (starts ++ length (ids ++ new) ∷ []) (ids ++ new)
flat_more lists n starts ids new is old = record {
  count = omega (arith, length_push starts (length (ids ++ new)), old.count);
  end = last;
  ascend = λ x l. ⊎_elim (ascend_before x) (ascend_here x l) (cases_lt x n);
  within = λ x l. ⊎_elim (within_before x) (within_here x l) (cases_lt x (n + 1));
  each = λ x l. ⊎_elim (each_before x) (each_here x l) (cases_lt x n);
}
  where
    ids' : List ℕ
    ids' = ids ++ new

    starts' : List ℕ
    starts' = starts ++ length (ids ++ new) ∷ []

    longer : length ids' ≡ length ids + length new
    longer = length-append ids new

    kept : (x : ℕ) → x < n + 1 → get_or starts' x 0 ≡ get_or starts x 0
    kept x l = get_or_append_left starts (length (ids ++ new) ∷ []) 0 x (omega (arith, l, old.count))

    last : get_or starts' (n + 1) 0 ≡ length ids'
    last = get_or_push starts (length (ids ++ new)) 0 (n + 1) old.count

    is_here : (x : ℕ) → x < n + 1 → n ≤ x → x ≡ n
    is_here x l le = omega (arith, l, le)

    ascend_before : (x : ℕ) → x < n → get_or starts' x 0 ≤ get_or starts' (x + 1) 0
    ascend_before x l = omega (arith, kept x (omega (arith, l)), kept (x + 1) (omega (arith, l)), old.ascend x l)

    ascend_n : get_or starts' n 0 ≤ get_or starts' (n + 1) 0
    ascend_n = omega (arith, kept n (omega arith), old.end, last, longer)

    ascend_here : (x : ℕ) → x < n + 1 → n ≤ x → get_or starts' x 0 ≤ get_or starts' (x + 1) 0
    ascend_here x l le = subst (λ (y : ℕ). get_or starts' y 0 ≤ get_or starts' (y + 1) 0) (sym (is_here x l le)) ascend_n

    within_before : (x : ℕ) → x < n + 1 → get_or starts' x 0 ≤ length ids'
    within_before x l = omega (arith, kept x l, old.within x l, longer)

    within_here : (x : ℕ) → x < n + 1 + 1 → n + 1 ≤ x → get_or starts' x 0 ≤ length ids'
    within_here x l le =
        let same : x ≡ n + 1 = omega (arith, l, le) in
        subst (λ (y : ℕ). get_or starts' y 0 ≤ length ids') (sym same) (omega (arith, last))

    each_before : (x : ℕ) → x < n → between starts' ids' x ≡ get_or lists x []
    each_before x l =
        ap₂ (λ (a b : ℕ). slice_range ids' a b) (kept x (omega (arith, l))) (kept (x + 1) (omega (arith, l)))
        ∙ range_before ids new (get_or starts x 0) (get_or starts (x + 1) 0) (old.ascend x l) (old.within (x + 1) (omega (arith, l)))
        ∙ old.each x l

    each_n : between starts' ids' n ≡ get_or lists n []
    each_n =
        ap₂ (λ (a b : ℕ). slice_range ids' a b) (kept n (omega arith) ∙ old.end) (last ∙ longer)
        ∙ range_behind ids new (length new) refl
        ∙ is

    each_here : (x : ℕ) → x < n + 1 → n ≤ x → between starts' ids' x ≡ get_or lists x []
    each_here x l le = subst (λ (y : ℕ). between starts' ids' y ≡ get_or lists y []) (sym (is_here x l le)) each_n

-- ---- all lists

pub flat_ends : (lists : List (List ℕ)) (n : ℕ) (starts ids : List ℕ) → n ≡ length lists → IsFlat lists n starts ids → lists_between starts ids ≡ lists
flat_ends lists n starts ids all w =
    same_lists (lists_between starts ids) lists (omega (arith, count, size, all))
    (λ x d l.
    let short : x < n = omega (arith, l, count, size) in
    get_or-map-range_with_len (between starts ids) 0 (length starts - 1) x x d (omega (arith, short, size)) (omega arith)
    ∙ w.each x short
    ∙ get_or_default lists x [] d (omega (arith, short, all)))
  where
    count : length (lists_between starts ids) ≡ length starts - 1
    count = length-map-range_with_len (between starts ids) 0 (length starts - 1)

    size : length starts - 1 ≡ n
    size = omega (arith, w.count)

-- ---- one of them

module _ (starts ids : List ℕ) (x : ℕ) (short : x < length (lists_between starts ids)) where
  -- it has a start and an end
  pub list_short : x + 1 < length starts
  list_short = omega (arith, short, length-map-range_with_len (between starts ids) 0 (length starts - 1))

  pub list_at : slice_range ids (get_or starts x 0) (get_or starts (x + 1) 0) ≡ get_or (lists_between starts ids) x []
  list_at = sym (get_or-map-range_with_len (between starts ids) 0 (length starts - 1) x x [] (omega (arith, list_short)) (omega arith))
