-- Edges put in order of key, the least ones first.
use Rattle.std.proofs.Common.{◌≡◌, ◌≢◌, ℕ, ◌<◌, ◌≤◌, Bool, true, false, cond, not, nat_lt, ◌==◌, ◌||◌, List, [], ◌∷◌, ◌++◌, length, get_or, All, AllPairs, Contains, IsPermutation, refl, sym, ap, ◌∙◌, subst, subst₂, append_assoc, arith}
use Rattle.std.specs.List.{list_any}
use Rattle.std.proofs.lemmas.Bool.Decides.{nat_tests}
use Rattle.std.proofs.lemmas.List.{append-nil, get_or_append_left, get_or_push, length-append}
use Rattle.std.proofs.lemmas.List.Elements.{All-nil, All-cons, All-head, All-tail, All-append, All-filter, All-weaker, All-contains, filter-append, Contains-append_left, Contains-append_right}
use Rattle.std.proofs.lemmas.List.Kept.{AllPairs-filter}
use Rattle.std.proofs.lemmas.List.Sorted.{IsPermutation-trans, IsPermutation-append, All-permutation}
use Rattle.tgap_model.specs.declared.slice.Edge.{Edge}
use Rattle.lemmas.specs.Sorting.{insert_by}
use Rattle.lemmas.proofs.Members.{in_head, Contains-filter, AllPairs-append}
use Rattle.lemmas.proofs.Orders.{nat_lt_order, order_by_key}
use Rattle.lemmas.proofs.Permutations.{IsPermutation-filter}
use Rattle.lemmas.proofs.Sorting.{before_first_from_all, insert_by-first, All-sort_by, sort_by-permutation, sort_by-is_sorted, sorted_pairs, AllPairs-permutation}
use Rattle.grid_index.specs.Live.{without_keys}
use Rattle.grid_index.specs.Merged.{in_order, IsFront}
use Rattle.grid_index.proofs.Sorted.{lt_test, test_lt}

lt_false : (m n : ℕ) → n < m → nat_lt m n ≡ false
lt_false m n h = grind (arith, nat_tests)

comes_before : Edge → Edge → Bool
comes_before e f = nat_lt e.key f.key

-- the edge of the least key comes first
sort_least : (xs ys : List Edge) (x : Edge) → All (λ y. x.key < y.key) xs → All (λ y. x.key < y.key) ys → in_order (xs ++ x ∷ ys) ≡ x ∷ in_order (xs ++ ys)
unfolding comes_before
sort_least [] ys x h k =
    insert_by-first comes_before x (in_order ys) (before_first_from_all comes_before x (in_order ys)
    (All-sort_by comes_before (λ y. comes_before x y ≡ true) ys (All-weaker (λ y. x.key < y.key) (λ y. comes_before x y ≡ true) (λ y l. lt_test x.key y.key l) ys k)))
sort_least (a ∷ xs) ys x h k =
    let rest = in_order (xs ++ ys) in
    ap (insert_by comes_before a) (sort_least xs ys x (All-tail (λ y. x.key < y.key) a xs h) k)
    ∙ ap (λ (b : Bool). cond b (a ∷ x ∷ rest) (x ∷ insert_by comes_before a rest)) (lt_false a.key x.key (All-head (λ y. x.key < y.key) a xs h))

-- ---- what a list begins with

front_more : (xs zs : List Edge) (c : Edge) → IsFront (xs ++ c ∷ []) zs → IsFront xs zs
front_more xs zs c f = (c ∷ f.0, f.1 ∙ append_assoc xs (c ∷ []) f.0)

pub front_trans : (xs ys zs : List Edge) → IsFront xs ys → IsFront ys zs → IsFront xs zs
front_trans xs ys zs f g = (f.0 ++ g.0, g.1 ∙ ap (λ l. l ++ g.0) f.1 ∙ append_assoc xs f.0 g.0)

All-front : (P : Edge → Type 0) (xs zs : List Edge) → IsFront xs zs → All P zs → All P xs
All-front P xs zs f h k d l =
    subst P (get_or_append_left xs f.0 d k l) (subst (All P) f.1 h k d (omega (arith, length-append xs f.0)))

pub AllPairs-front : (R : Edge → Edge → Type 0) (xs zs : List Edge) → IsFront xs zs → AllPairs R zs → AllPairs R xs
AllPairs-front R xs zs f h i j d less l =
    subst₂ R (get_or_append_left xs f.0 d i (omega arith)) (get_or_append_left xs f.0 d j l) (subst (AllPairs R) f.1 h i j d less (omega (arith, length-append xs f.0)))

-- the last of descending keys is the least
last_least : (xs : List Edge) (c : Edge) → AllPairs (λ e f. f.key < e.key) (xs ++ c ∷ []) → All (λ e. c.key < e.key) xs
last_least xs c h k d l =
    subst₂ (λ (e f : Edge). f.key < e.key) (get_or_append_left xs (c ∷ []) d k l) (get_or_push xs c d (length xs) refl) (h k (length xs) d l (omega (arith, length-append xs (c ∷ []))))

-- ---- what comes below a key

pub record IsBelow (key : ℕ) (changed0 come0 changed come : List Edge) : Type 0 where
  pub least : (es : List Edge) → All (λ e. key ≤ e.key) es → changed ++ in_order (es ++ come) ≡ changed0 ++ in_order (es ++ come0)
  pub front : IsFront come come0

pub IsBelow-next : (key : ℕ) (changed0 come0 changed come : List Edge) (c : Edge) → AllPairs (λ e f. f.key < e.key) come0 → c.key < key → IsBelow key changed0 come0 changed (come ++ c ∷ [])
    → IsBelow key changed0 come0 (changed ++ c ∷ []) come
IsBelow-next key changed0 come0 changed come c descend less h = record {
  least = λ es above.
      append_assoc changed (c ∷ []) (in_order (es ++ come))
      ∙ ap (λ l. changed ++ l) (sym (sorted es above))
      ∙ h.least es above;
  front = front_more come come0 c h.front;
}
  where
    later : All (λ e. c.key < e.key) come
    later = last_least come c (AllPairs-front (λ e f. f.key < e.key) (come ++ c ∷ []) come0 h.front descend)

    sorted : (es : List Edge) → All (λ e. key ≤ e.key) es → in_order (es ++ (come ++ c ∷ [])) ≡ c ∷ in_order (es ++ come)
    sorted es above =
        ap in_order (sym (append_assoc es come (c ∷ [])))
        ∙ sort_least (es ++ come) [] c
        (All-append (λ e. c.key < e.key) es come (All-weaker (λ e. key ≤ e.key) (λ e. c.key < e.key) (λ e l. omega arith) es above) later) (All-nil (λ e. c.key < e.key))
        ∙ ap (λ l. c ∷ in_order l) (append-nil (es ++ come))

-- those that are left are not below the key if the last is not
pub all_above : (key : ℕ) (come0 come : List Edge) (c : Edge) → AllPairs (λ e f. f.key < e.key) come0 → IsFront (come ++ c ∷ []) come0 → key ≤ c.key → All (λ e. key ≤ e.key) (come ++ c ∷ [])
all_above key come0 come c descend front le =
    let later = last_least come c (AllPairs-front (λ e f. f.key < e.key) (come ++ c ∷ []) come0 front descend) in
    All-append (λ e. key ≤ e.key) come (c ∷ []) (All-weaker (λ e. c.key < e.key) (λ e. key ≤ e.key) (λ e l. omega arith) come later) (All-cons (λ e. key ≤ e.key) c [] le (All-nil (λ e. key ≤ e.key)))

-- all that is left, one after the other
pub push_last : (changed come : List Edge) (c : Edge) (come0 : List Edge) → AllPairs (λ e f. f.key < e.key) come0 → IsFront (come ++ c ∷ []) come0
    → (changed ++ c ∷ []) ++ in_order come ≡ changed ++ in_order (come ++ c ∷ [])
push_last changed come c come0 descend front =
    let later = last_least come c (AllPairs-front (λ e f. f.key < e.key) (come ++ c ∷ []) come0 front descend) in
    append_assoc changed (c ∷ []) (in_order come)
    ∙ ap (λ l. changed ++ l) (sym (sort_least come [] c later (All-nil (λ e. c.key < e.key)) ∙ ap (λ l. c ∷ in_order l) (append-nil come)))

pub front_rest : (xs zs : List Edge) (c : Edge) → IsFront (xs ++ c ∷ []) zs → IsFront xs zs
front_rest xs zs c f = front_more xs zs c f

-- ---- both lists

pub record IsMerging (gone : List ℕ) (rest0 come0 rest changed come : List Edge) : Type 0 where
  pub sum : changed ++ in_order (without_keys gone rest ++ come) ≡ in_order (without_keys gone rest0 ++ come0)
  pub rests : IsFront rest rest0
  pub comes : IsFront come come0

module _ (gone : List ℕ) (rest0 come0 rest changed come changed1 come1 : List Edge) (x : Edge)
    (descend : AllPairs (λ e f. f.key < e.key) rest0)
    (fresh : All (λ e. All (λ f. f.key ≢ e.key) come0) (without_keys gone rest0))
    (h : IsMerging gone rest0 come0 (rest ++ x ∷ []) changed come)
    (least : (es : List Edge) → All (λ e. x.key ≤ e.key) es → changed1 ++ in_order (es ++ come1) ≡ changed ++ in_order (es ++ come))
    (front : IsFront come1 come) (above : All (λ e. x.key ≤ e.key) come1) where
  keep : Edge → Bool
  keep e = not (list_any (λ k. k == e.key) gone)

  later : All (λ e. x.key < e.key) rest
  later = last_least rest x (AllPairs-front (λ e f. f.key < e.key) (rest ++ x ∷ []) rest0 h.rests descend)

  kept_later : All (λ e. x.key < e.key) (without_keys gone rest)
  unfolding keep
  kept_later = All-filter keep (λ e. x.key < e.key) rest later

  parts : without_keys gone (rest ++ x ∷ []) ≡ without_keys gone rest ++ without_keys gone (x ∷ [])
  unfolding keep
  parts = filter-append keep rest (x ∷ [])

  at_least : (b : Bool) → All (λ e. x.key ≤ e.key) (cond b (x ∷ []) [])
  at_least true = All-cons (λ e. x.key ≤ e.key) x [] (omega arith) (All-nil (λ e. x.key ≤ e.key))
  at_least false = All-nil (λ e. x.key ≤ e.key)

  all_least : All (λ e. x.key ≤ e.key) (without_keys gone (rest ++ x ∷ []))
  unfolding keep
  all_least = subst (All (λ e. x.key ≤ e.key)) (sym parts)
      (All-append (λ e. x.key ≤ e.key) (without_keys gone rest) (without_keys gone (x ∷ [])) (All-weaker (λ e. x.key < e.key) (λ e. x.key ≤ e.key) (λ e l. omega arith) (without_keys gone rest) kept_later) (at_least (keep x)))

  moved : changed1 ++ in_order (without_keys gone (rest ++ x ∷ []) ++ come1) ≡ in_order (without_keys gone rest0 ++ come0)
  moved = least (without_keys gone (rest ++ x ∷ [])) all_least ∙ h.sum

  -- an edge whose key is among those that go
  pub IsMerging-gone : list_any (λ k. k == x.key) gone ≡ true → IsMerging gone rest0 come0 rest changed1 come1
  unfolding keep
  IsMerging-gone e = record {
    sum =
        ap (λ l. changed1 ++ in_order (l ++ come1)) (sym (parts ∙ ap (λ (b : Bool). without_keys gone rest ++ cond (not b) (x ∷ []) []) e ∙ append-nil (without_keys gone rest)))
        ∙ moved;
    rests = front_more rest rest0 x h.rests;
    comes = front_trans come1 come come0 front h.comes;
  }

  -- an edge that stays
  pub IsMerging-kept : list_any (λ k. k == x.key) gone ≡ false → IsMerging gone rest0 come0 rest (changed1 ++ x ∷ []) come1
  unfolding keep
  IsMerging-kept e = record {
    sum =
        append_assoc changed1 (x ∷ []) (in_order (without_keys gone rest ++ come1))
        ∙ ap (λ l. changed1 ++ l) (sym (sort_least (without_keys gone rest) come1 x kept_later strictly))
        ∙ ap (λ l. changed1 ++ in_order l) (sym (append_assoc (without_keys gone rest) (x ∷ []) come1))
        ∙ ap (λ l. changed1 ++ in_order (l ++ come1)) (sym (parts ∙ ap (λ (b : Bool). without_keys gone rest ++ cond (not b) (x ∷ []) []) e))
        ∙ moved;
    rests = front_more rest rest0 x h.rests;
    comes = front_trans come1 come come0 front h.comes;
  }
    where
      within : Contains rest0 x
      within = subst (λ l. Contains l x) (sym h.rests.1) (Contains-append_left (rest ++ x ∷ []) h.rests.0 x (Contains-append_right rest (x ∷ []) x (in_head x [])))

      others : All (λ f. f.key ≢ x.key) come1
      others = All-front (λ f. f.key ≢ x.key) come1 come0 (front_trans come1 come come0 front h.comes)
          (All-contains (λ e. All (λ f. f.key ≢ e.key) come0) (without_keys gone rest0) x fresh (Contains-filter keep rest0 x within (ap not e)))

      strictly : All (λ f. x.key < f.key) come1
      strictly k d l = let le = above k d l in let ne = others k d l in omega arith

-- ---- the whole

-- what has no equal keys is put in strictly ascending order
pub in_order_ascends : (edges : List Edge) → AllPairs (λ e f. e.key ≢ f.key) edges → AllPairs (λ e f. e.key < f.key) (in_order edges)
unfolding comes_before
in_order_ascends edges apart =
    let decided : AllPairs (λ e f. (comes_before e f || comes_before f e) ≡ true) edges = λ i j d less l. decides (get_or edges i d).key (get_or edges j d).key (apart i j d less l) in
    let pairs = sorted_pairs (order_by_key (λ (e : Edge). e.key) nat_lt_order) (in_order edges) (λ k d l. tt) (sort_by-is_sorted comes_before edges decided) in
    λ i j d less l. test_lt (get_or (in_order edges) i d).key (get_or (in_order edges) j d).key (pairs i j d less l)
  where
    decides : (m n : ℕ) → m ≢ n → (nat_lt m n || nat_lt n m) ≡ true
    decides m n ne = grind (arith, nat_tests)

-- all keys differ
pub distinct : (stay come : List Edge) → AllPairs (λ e f. e.key < f.key) stay → AllPairs (λ e f. e.key < f.key) come → All (λ e. All (λ f. f.key ≢ e.key) come) stay → AllPairs (λ e f. e.key ≢ f.key) (stay ++ come)
distinct stay come up climb fresh =
    AllPairs-append (λ e f. e.key ≢ f.key) stay come (λ i j d less l e. let h = up i j d less l in absurd (omega arith)) (λ i j d less l e. let h = climb i j d less l in absurd (omega arith))
    (λ k d l i a m e. fresh k d l i a m (sym e))

module _ (gone : List ℕ) (edges rest come turned : List Edge) (p : IsPermutation edges rest) (q : IsPermutation come turned) (fresh : All (λ e. All (λ f. f.key ≢ e.key) come) (without_keys gone edges)) where
  stay : Edge → Bool
  stay e = not (list_any (λ k. k == e.key) gone)

  pub fresh_permuted : All (λ e. All (λ f. f.key ≢ e.key) turned) (without_keys gone rest)
  unfolding stay
  fresh_permuted =
      All-weaker (λ e. All (λ f. f.key ≢ e.key) come) (λ e. All (λ f. f.key ≢ e.key) turned) (λ e h. All-permutation (λ f. f.key ≢ e.key) come turned q h) (without_keys gone rest)
      (All-permutation (λ e. All (λ f. f.key ≢ e.key) come) (without_keys gone edges) (without_keys gone rest) (IsPermutation-filter stay edges rest p) fresh)

  all_permuted : IsPermutation (without_keys gone edges ++ come) (without_keys gone rest ++ turned)
  unfolding stay
  all_permuted = IsPermutation-append (without_keys gone edges) (without_keys gone rest) come turned (IsPermutation-filter stay edges rest p) q

  pub changed_same : IsPermutation (without_keys gone edges ++ come) (in_order (without_keys gone rest ++ turned))
  unfolding comes_before
  changed_same = IsPermutation-trans (without_keys gone edges ++ come) (without_keys gone rest ++ turned) (in_order (without_keys gone rest ++ turned)) all_permuted
      (sort_by-permutation comes_before (without_keys gone rest ++ turned))

  pub changed_ascends : AllPairs (λ e f. e.key < f.key) edges → AllPairs (λ e f. e.key < f.key) come → AllPairs (λ e f. e.key < f.key) (in_order (without_keys gone rest ++ turned))
  unfolding stay
  changed_ascends up climb = in_order_ascends (without_keys gone rest ++ turned)
      (AllPairs-permutation (λ e f. e.key ≢ f.key) (λ e f ne e2. ne (sym e2)) (without_keys gone edges ++ come) (without_keys gone rest ++ turned) all_permuted
      (distinct (without_keys gone edges) come (AllPairs-filter (λ e f. e.key < f.key) stay edges up) climb fresh))
