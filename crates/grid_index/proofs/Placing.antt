-- Edges in order of key, changed where they stand.
use Rattle.std.proofs.Common.{◌≡◌, ◌≢◌, ◌⊎◌, inl, inr, ℕ, zero, suc, ◌+◌, ◌<◌, ◌≤◌, Bool, true, false, cond, not, ◌&&◌, ◌||◌, ◌==◌, List, [], ◌∷◌, ◌++◌, length, filter, get_or, take, All, AllPairs, Contains, IsPermutation, Ok, Err, refl, sym, ap, ap₂, ◌∙◌, subst, subst₂, append_assoc, true≢false, arith}
use Rattle.std.specs.Prelude.{Option, Some, None, is_some, IfSome, slice_set}
use Rattle.std.specs.List.{list_any, SwappedAt}
use Rattle.std.specs.List.Sorted.{IsNonDecreasing, IsBinarySearchResult}
use Rattle.std.specs.Ordering.{nat_cmp, ordering_index}
use Rattle.std.specs.declared.cmp.Ordering.TheVariants.{Less, Equal, Greater}
use Rattle.std.proofs.lemmas.Bool.{cases_lt}
use Rattle.std.proofs.lemmas.Bool.Decides.{nat_tests}
use Rattle.std.proofs.lemmas.List.{append-nil, get_or-map, length-map, length-append, get_or_default, map-append, get_or_append_left, get_or_push, drop_more}
use Rattle.std.proofs.lemmas.List.Elements.{All-head, All-tail, All-contains, filter-append}
use Rattle.std.proofs.lemmas.List.Filters.{FiltersInPlace, FiltersInPlace-all, FiltersInPlace-more_no, FiltersInPlace-more_swap}
use Rattle.std.proofs.lemmas.List.Folds.{list_any-append, list_any_none}
use Rattle.std.proofs.lemmas.List.Kept.{AllPairs-filter}
use Rattle.std.proofs.lemmas.List.Sorted.{IsPermutation-cons, IsPermutation-trans, IsPermutation-refl, IsPermutation-append_comm, IsPermutation-append_left, IsPermutation-append_right}
use Rattle.tgap_model.specs.declared.slice.Edge.{Edge}
use Rattle.lemmas.proofs.Members.{AllPairs-head, AllPairs-tail, Contains-filter, Contains-from_map, filter_agree_on}
use Rattle.lemmas.proofs.Permutations.{IsPermutation-filter}
use Rattle.grid_index.specs.Live.{keys, without_keys}
use Rattle.grid_index.specs.Slots.{no_edge, edge_at}
use Rattle.grid_index.specs.Changes.{AreBelow, AreUpTo, is_new}
use Rattle.grid_index.specs.Merged.{IsFront}
use Rattle.grid_index.proofs.Merging.{AllPairs-front, front_rest}

same : (m n : ℕ) → m ≡ n → (m == n) ≡ true
same m n e = grind (arith, nat_tests)

differ : (m n : ℕ) → m ≢ n → (m == n) ≡ false
differ m n ne = grind (arith, nat_tests)

-- ---- the place of a key

equal : (a k : ℕ) → nat_cmp a k ≡ Equal → a ≡ k
equal a k e = grind (arith, nat_tests)

less : (a k : ℕ) → nat_cmp a k ≡ Less → a < k
less a k e = grind (arith, nat_tests)

greater : (a k : ℕ) → nat_cmp a k ≡ Greater → k < a
greater a k e = grind (arith, nat_tests)

higher : (a b k : ℕ) → a ≤ b → ordering_index (nat_cmp a k) ≤ ordering_index (nat_cmp b k)
higher a b k h = grind (arith, nat_tests)

pub place_found : (edges : List Edge) (key i : ℕ) → IsBinarySearchResult (λ e. nat_cmp e.key key) edges (Ok i) → (edge_at edges i).key ≡ key
place_found edges key i h = equal (edge_at edges i).key key (h no_edge)

pub place_none : (edges : List Edge) (key i : ℕ) → AllPairs (λ e f. e.key < f.key) edges → IsBinarySearchResult (λ e. nat_cmp e.key key) edges (Err i) → All (λ e. e.key ≢ key) edges
place_none edges key i up h k d l e =
    let parted = h (λ i j d le m. higher (get_or edges i d).key (get_or edges j d).key key (rising i j d le m)) in
    elim (cases_lt k i) [
      | inl low ↦ let f = less (get_or edges k d).key key (parted.0 k d (omega arith) low) in omega arith
      | inr high ↦ let f = greater (get_or edges k d).key key (parted.1 k d high l) in omega arith
    ]
  where
    rising : (i j : ℕ) (d : Edge) → i ≤ j → j < length edges → (get_or edges i d).key ≤ (get_or edges j d).key
    rising i j d le l = elim (cases_lt i j) [
      | inl m ↦ let u = up i j d m l in omega arith
      | inr m ↦ let e : i ≡ j = omega arith in subst (λ n. (get_or edges i d).key ≤ (get_or edges n d).key) e (omega arith)
    ]

-- ---- the next key that goes

pub none_next : (keys : List ℕ) (next key d : ℕ) → IsNonDecreasing keys → AreBelow keys next key → (length keys ≤ next) ⊎ (key < get_or keys next d) → list_any (λ k. k == key) keys ≡ false
none_next keys next key d up below h = list_any_none (λ k. k == key) keys (λ k a l. differ (get_or keys k a) key (λ e. by k a l e (cases_lt k next) h))
  where
    by : (k a : ℕ) → k < length keys → get_or keys k a ≡ key → (k < next) ⊎ (next ≤ k) → (length keys ≤ next) ⊎ (key < get_or keys next d) → ⊥
    by k a l e (inl m) h = let b = below k m l in let f = get_or_default keys k a 0 l in omega arith
    by k a l e (inr m) (inl n) = omega arith
    by k a l e (inr m) (inr n) =
        let u = up next k d m l in let f = get_or_default keys k a d l in omega arith

and_false : (a : Bool) → (a && false) ≡ false
and_false true = refl
and_false false = refl

-- ---- filters

pub filter_twice : {A : Type 0} (p q r : A → Bool) (xs : List A) → ((x : A) → r x ≡ (p x && q x)) → filter p (filter q xs) ≡ filter r xs
filter_twice p q r [] h = refl
filter_twice {A} p q r (x ∷ xs) h = by (p x) (q x) (r x) refl (h x) (filter_twice p q r xs h)
  where
    by : (a b c : Bool) → p x ≡ a → c ≡ (a && b) → filter p (filter q xs) ≡ filter r xs → filter p (cond b (x ∷ filter q xs) (filter q xs)) ≡ cond c (x ∷ filter r xs) (filter r xs)
    by a false c e f rest = rest ∙ sym (ap (λ (t : Bool). cond t (x ∷ filter r xs) (filter r xs)) (f ∙ and_false a))
    by true true c e f rest =
        ap (λ (t : Bool). cond t (x ∷ filter p (filter q xs)) (filter p (filter q xs))) e ∙ ap (λ ys. x ∷ ys) rest ∙ sym (ap (λ (t : Bool). cond t (x ∷ filter r xs) (filter r xs)) f)
    by false true c e f rest =
        ap (λ (t : Bool). cond t (x ∷ filter p (filter q xs)) (filter p (filter q xs))) e ∙ rest ∙ sym (ap (λ (t : Bool). cond t (x ∷ filter r xs) (filter r xs)) f)

not_or : (a b : Bool) → not (a || b) ≡ (not a && not b)
not_or true b = refl
not_or false b = refl

-- what is in neither list
pub neither : (ks ls : List ℕ) (n : ℕ) → not (list_any (λ k. k == n) (ks ++ ls)) ≡ (not (list_any (λ k. k == n) ks) && not (list_any (λ k. k == n) ls))
neither ks ls n = ap not (list_any-append (λ k. k == n) ks ls) ∙ not_or (list_any (λ k. k == n) ks) (list_any (λ k. k == n) ls)

keep : List ℕ → Edge → Bool
keep gone e = not (list_any (λ k. k == e.key) gone)

pub without_both : (ks ls : List ℕ) (edges : List Edge) → without_keys ks (without_keys ls edges) ≡ without_keys (ks ++ ls) edges
unfolding keep
without_both ks ls edges = filter_twice (keep ks) (keep ls) (keep (ks ++ ls)) edges (λ e. neither ks ls e.key)

pub without_none : (edges : List Edge) → without_keys [] edges ≡ edges
without_none [] = refl
without_none (e ∷ edges) = ap (λ es. e ∷ es) (without_none edges)

pub without_append : (ks : List ℕ) (xs ys : List Edge) → without_keys ks (xs ++ ys) ≡ without_keys ks xs ++ without_keys ks ys
unfolding keep
without_append ks xs ys = filter-append (keep ks) xs ys

pub without_all : (ks : List ℕ) (xs : List Edge) → All (λ e. not (list_any (λ k. k == e.key) ks) ≡ true) xs → without_keys ks xs ≡ xs
unfolding keep
without_all ks [] h = refl
without_all ks (x ∷ xs) h =
    ap₂ (λ (b : Bool) (ys : List Edge). cond b (x ∷ ys) ys) (All-head (λ e. keep ks e ≡ true) x xs h) (without_all ks xs (All-tail (λ e. keep ks e ≡ true) x xs h))

pub without_permuted : (ks : List ℕ) (xs ys : List Edge) → IsPermutation xs ys → IsPermutation (without_keys ks xs) (without_keys ks ys)
unfolding keep
without_permuted ks xs ys h = IsPermutation-filter (keep ks) xs ys h

not_among : (ks : List ℕ) (n : ℕ) → All (λ k. k ≢ n) ks → not (list_any (λ k. k == n) ks) ≡ true
not_among ks n h = ap not (list_any_none (λ k. k == n) ks (λ k d l. differ (get_or ks k d) n (h k d l)))

pub not_key : (edges : List Edge) (n : ℕ) → All (λ e. e.key ≢ n) edges → not (list_any (λ k. k == n) (keys edges)) ≡ true
not_key edges n h = not_among (keys edges) n (λ k d l e.
    let short : k < length edges = omega (arith, l, length-map edges (λ (e : Edge). e.key)) in
    h k no_edge short (sym (get_or-map (λ (e : Edge). e.key) edges k no_edge d short) ∙ e))

-- ---- an edge in the place of that of its key

pub keys_put : (edges : List Edge) (i : ℕ) (edge : Edge) → i < length edges → (edge_at edges i).key ≡ edge.key → keys (slice_set edges i edge) ≡ keys edges
keys_put [] i edge l e = absurd (omega arith)
keys_put (x ∷ xs) zero edge l e = ap (λ (n : ℕ). n ∷ keys xs) (sym e)
keys_put (x ∷ xs) (suc i) edge l e = ap (λ (ns : List ℕ). x.key ∷ ns) (keys_put xs i edge (omega arith) e)

pub put_moved : (edges : List Edge) (i : ℕ) (edge : Edge) → AllPairs (λ e f. e.key < f.key) edges → i < length edges → (edge_at edges i).key ≡ edge.key
    → IsPermutation (without_keys (edge.key ∷ []) edges ++ edge ∷ []) (slice_set edges i edge)
put_moved [] i edge up l e = absurd (omega arith)
put_moved (x ∷ xs) zero edge up l e =
    subst (λ (ys : List Edge). IsPermutation ys (edge ∷ xs))
    (sym (ap (λ (b : Bool). cond (not (b || false)) (x ∷ without_keys (edge.key ∷ []) xs) (without_keys (edge.key ∷ []) xs) ++ edge ∷ []) (same edge.key x.key (sym e))
    ∙ ap (λ (ys : List Edge). ys ++ edge ∷ []) rest))
    (IsPermutation-append_comm xs (edge ∷ []))
  where
    rest : without_keys (edge.key ∷ []) xs ≡ xs
    rest = without_all (edge.key ∷ []) xs (λ k d m. ap not (ap (λ (b : Bool). b || false) (differ edge.key (get_or xs k d).key (λ f.
        let u = AllPairs-head (λ e f. e.key < f.key) x xs up k d m in omega arith))))
put_moved (x ∷ xs) (suc i) edge up l e =
    subst (λ (ys : List Edge). IsPermutation ys (x ∷ slice_set xs i edge))
    (sym (ap (λ (b : Bool). cond (not (b || false)) (x ∷ without_keys (edge.key ∷ []) xs) (without_keys (edge.key ∷ []) xs) ++ edge ∷ []) (differ edge.key x.key (λ f.
    let u = AllPairs-head (λ e f. e.key < f.key) x xs up i no_edge (omega arith) in omega arith))))
    (IsPermutation-cons x (without_keys (edge.key ∷ []) xs ++ edge ∷ []) (slice_set xs i edge) (put_moved xs i edge (AllPairs-tail (λ e f. e.key < f.key) x xs up) (omega arith) e))

pub key_found : (edges : List Edge) (key : ℕ) → Contains (keys edges) key → All (λ e. e.key ≢ key) edges → ⊥
key_found edges key c h = let e = Contains-from_map (λ (e : Edge). e.key) edges key c in h e.1.0 e.0 e.1.1 (ap (λ (f : Edge). f.key) e.1.2 ∙ e.2)

-- keys decide the order
pub ascend_alike : (xs ys : List Edge) → keys ys ≡ keys xs → AllPairs (λ e f. e.key < f.key) xs → AllPairs (λ e f. e.key < f.key) ys
ascend_alike xs ys e up i j d m l =
    let f : Edge → ℕ = λ e. e.key in
    let long : length ys ≡ length xs = sym (length-map ys f) ∙ ap length e ∙ length-map xs f in
    let short : j < length xs = omega arith in
    subst₂ (λ (a b : ℕ). a < b)
    (sym (get_or-map f xs i d 0 (omega arith)) ∙ ap (λ ns. get_or ns i 0) (sym e) ∙ get_or-map f ys i d 0 (omega arith))
    (sym (get_or-map f xs j d 0 short) ∙ ap (λ ns. get_or ns j 0) (sym e) ∙ get_or-map f ys j d 0 l) (up i j d m short)

-- ---- one after the other

pub record ArePut (edges come now left : List Edge) : Type 0 where
  pub moved : IsPermutation (without_keys (keys come) edges ++ come) (without_keys (keys left) now ++ left)
  pub keys_stay : keys now ≡ keys edges
  pub front : IsFront left come

pub ArePut-start : (edges come : List Edge) → ArePut edges come edges come
ArePut-start edges come = record { moved = IsPermutation-refl (without_keys (keys come) edges ++ come); keys_stay = refl; front = ([], sym (append-nil come)) }

pub ArePut-next : (edges come now left newer : List Edge) (c : Edge) → AllPairs (λ e f. e.key ≢ f.key) come → ArePut edges come now (left ++ c ∷ [])
    → keys newer ≡ keys now → IsPermutation (without_keys (c.key ∷ []) now ++ c ∷ []) newer → ArePut edges come newer left
ArePut-next edges come now left newer c apart h stay moved = record {
  moved = IsPermutation-trans (without_keys (keys come) edges ++ come) (without_keys (keys (left ++ c ∷ [])) now ++ (left ++ c ∷ [])) (without_keys (keys left) newer ++ left) h.moved
      (IsPermutation-trans (without_keys (keys (left ++ c ∷ [])) now ++ (left ++ c ∷ [])) (W ++ c ∷ left) (without_keys (keys left) newer ++ left)
      (subst (λ (ks : List Edge). IsPermutation (ks ++ (left ++ c ∷ [])) (W ++ c ∷ left)) (sym both) (IsPermutation-append_right W (left ++ c ∷ []) (c ∷ left) (IsPermutation-append_comm left (c ∷ []))))
      (subst (λ (ks : List Edge). IsPermutation ks (without_keys (keys left) newer ++ left)) (append_assoc W (c ∷ []) left)
      (IsPermutation-append_left left (W ++ c ∷ []) (without_keys (keys left) newer)
      (subst (λ (ks : List Edge). IsPermutation ks (without_keys (keys left) newer)) after (without_permuted (keys left) (without_keys (c.key ∷ []) now ++ c ∷ []) newer moved)))));
  keys_stay = stay ∙ h.keys_stay;
  front = front_rest left come c h.front;
}
  where
    W : List Edge
    W = without_keys (keys left) (without_keys (c.key ∷ []) now)

    both : without_keys (keys (left ++ c ∷ [])) now ≡ W
    both = ap (λ (ks : List ℕ). without_keys ks now) (map-append (λ (e : Edge). e.key) left (c ∷ [])) ∙ sym (without_both (keys left) (c.key ∷ []) now)

    others : All (λ e. e.key ≢ c.key) left
    others k d l =
        let pairs = AllPairs-front (λ e f. e.key ≢ f.key) (left ++ c ∷ []) come h.front apart in
        let ne = pairs k (length left) d l (omega (arith, length-append left (c ∷ []))) in
        λ e. ne (ap (λ (f : Edge). f.key) (at_left k d l) ∙ e ∙ sym (ap (λ (f : Edge). f.key) (at_end d)))
      where
        at_left : (k : ℕ) (d : Edge) → k < length left → get_or (left ++ c ∷ []) k d ≡ get_or left k d
        at_left k d l = get_or_append_left left (c ∷ []) d k l

        at_end : (d : Edge) → get_or (left ++ c ∷ []) (length left) d ≡ c
        at_end d = get_or_push left c d (length left) refl

    after : without_keys (keys left) (without_keys (c.key ∷ []) now ++ c ∷ []) ≡ W ++ c ∷ []
    after = without_append (keys left) (without_keys (c.key ∷ []) now) (c ∷ [])
        ∙ ap (λ (b : Bool). W ++ cond b (c ∷ []) []) (not_key left c.key others)

pub ArePut-end : (edges come now left : List Edge) → left ≡ [] → ArePut edges come now left → IsPermutation (without_keys (keys come) edges ++ come) now
ArePut-end edges come now left e h =
    subst (IsPermutation (without_keys (keys come) edges ++ come)) (ap (λ (l : List Edge). without_keys (keys l) now ++ l) e ∙ append-nil (without_keys [] now) ∙ without_none now) h.moved

-- ---- the whole

-- a key that ends goes, and does not come again
any_filter : (ks gone : List ℕ) (n : ℕ) → list_any (λ k. k == n) (filter (is_new ks) gone) ≡ (list_any (λ k. k == n) gone && is_new ks n)
any_filter ks [] n = refl
any_filter ks (g ∷ gone) n = by (is_new ks g) (g == n) (is_new ks n) (any_filter ks gone n) refl (λ e. ap (is_new ks) (from_test g n e))
  where
    from_test : (m n : ℕ) → (m == n) ≡ true → m ≡ n
    from_test m n e = grind (arith, nat_tests)

    by : (a t b : Bool) → list_any (λ k. k == n) (filter (is_new ks) gone) ≡ (list_any (λ k. k == n) gone && b) → (g == n) ≡ t → (t ≡ true → a ≡ b)
        → list_any (λ k. k == n) (cond a (g ∷ filter (is_new ks) gone) (filter (is_new ks) gone)) ≡ ((t || list_any (λ k. k == n) gone) && b)
    by true true b rest e f = ap (λ (t : Bool). t || list_any (λ k. k == n) (filter (is_new ks) gone)) e ∙ f refl
    by true false b rest e f = ap (λ (t : Bool). t || list_any (λ k. k == n) (filter (is_new ks) gone)) e ∙ rest
    by false true b rest e f = rest ∙ ap (λ (t : Bool). list_any (λ k. k == n) gone && t) (sym (f refl)) ∙ and_false (list_any (λ k. k == n) gone) ∙ f refl
    by false false b rest e f = rest

pub ended_is : (gone : List ℕ) (edges come : List Edge) → All (λ e. All (λ f. f.key ≢ e.key) come) (without_keys gone edges)
    → without_keys (filter (is_new (keys come)) gone) (without_keys (keys come) edges) ≡ without_keys gone edges
unfolding keep
ended_is gone edges come fresh =
    filter_twice (keep ended) (keep (keys come)) (λ e. keep ended e && keep (keys come) e) edges (λ e. refl)
    ∙ filter_agree_on (λ e. keep ended e && keep (keys come) e) (keep gone) edges each
  where
    ended : List ℕ
    ended = filter (is_new (keys come)) gone

    by : (g c : Bool) → (g ≡ false → not c ≡ true) → (not (g && not c) && not c) ≡ not g
    by true true f = refl
    by true false f = refl
    by false true f = f refl
    by false false f = refl

    each : All (λ e. (not (list_any (λ k. k == e.key) ended) && keep (keys come) e) ≡ keep gone e) edges
    each k d l =
        let e = get_or edges k d in
        let n = e.key in
        ap (λ (b : Bool). not b && not (list_any (λ k. k == n) (keys come))) (any_filter (keys come) gone n)
        ∙ by (list_any (λ k. k == n) gone) (list_any (λ k. k == n) (keys come))
        (λ out. not_key come n (All-contains (λ e. All (λ f. f.key ≢ e.key) come) (without_keys gone edges) e fresh
        (Contains-filter (keep gone) edges e (k, l, get_or_default edges k e d l) (ap not out))))

-- those that come have none of the keys that end
pub come_stay : (gone : List ℕ) (come : List Edge) → without_keys (filter (is_new (keys come)) gone) come ≡ come
come_stay gone come = without_all (filter (is_new (keys come)) gone) come (λ k d l.
    ap not (any_filter (keys come) gone (get_or come k d).key
    ∙ ap (λ (b : Bool). list_any (λ n. n == (get_or come k d).key) gone && not b) (key_is_among come k d l)
    ∙ and_false (list_any (λ n. n == (get_or come k d).key) gone)))
  where
    key_is_among : (come : List Edge) (k : ℕ) (d : Edge) → k < length come → list_any (λ n. n == (get_or come k d).key) (keys come) ≡ true
    key_is_among [] k d l = absurd (omega arith)
    key_is_among (c ∷ come) zero d l = ap (λ (b : Bool). b || list_any (λ n. n == c.key) (keys come)) (same c.key c.key refl)
    key_is_among (c ∷ come) (suc k) d l =
        ap (λ (b : Bool). (c.key == (get_or come k d).key) || b) (key_is_among come k d (omega arith)) ∙ or_true (c.key == (get_or come k d).key)
      where
        or_true : (a : Bool) → (a || true) ≡ true
        or_true true = refl
        or_true false = refl

pub changed_same : (ended : List ℕ) (edges come mid : List Edge) → without_keys ended come ≡ come → IsPermutation (without_keys (keys come) edges ++ come) mid
    → IsPermutation (without_keys ended (without_keys (keys come) edges) ++ come) (without_keys ended mid)
changed_same ended edges come mid stay h =
    subst (λ (l : List Edge). IsPermutation l (without_keys ended mid))
    (without_append ended (without_keys (keys come) edges) come ∙ ap (λ (l : List Edge). without_keys ended (without_keys (keys come) edges) ++ l) stay)
    (without_permuted ended (without_keys (keys come) edges ++ come) mid h)

pub ascend_without : (ks : List ℕ) (edges : List Edge) → AllPairs (λ e f. e.key < f.key) edges → AllPairs (λ e f. e.key < f.key) (without_keys ks edges)
unfolding keep
ascend_without ks edges up = AllPairs-filter (λ e f. e.key < f.key) (keep ks) edges up

pub each_key : (edges come : List Edge) → All (Contains (keys edges)) (keys come) → All (λ e. Contains (keys edges) e.key) come
each_key edges come h k d l =
    subst (Contains (keys edges)) (get_or-map (λ (e : Edge). e.key) come k d 0 l) (h k 0 (omega (arith, l, length-map come (λ (e : Edge). e.key))))

pub all_apart : (edges : List Edge) → AllPairs (λ e f. e.key < f.key) edges → AllPairs (λ e f. e.key ≢ f.key) edges
all_apart edges up i j d m l e = let u = up i j d m l in omega arith

-- a place that was found has the key
pub key_there : (edges : List Edge) (i key : ℕ) → i < length edges → (edge_at edges i).key ≡ key → Contains (keys edges) key
key_there edges i key l e = (i, omega (arith, l, length-map edges (λ (e : Edge). e.key)), get_or-map (λ (e : Edge). e.key) edges i no_edge key l ∙ e)

-- what is passed up to a key is below the keys that follow
pub passed_below : (edges : List Edge) (gone : List ℕ) (next i : ℕ) → AllPairs (λ e f. e.key < f.key) edges → i < length edges → AreUpTo gone next (edge_at edges i).key
    → (j : ℕ) → i + 1 ≤ j → j < length edges → AreBelow gone next (edge_at edges j).key
passed_below edges gone next i up l h j m n k a b = let u = up i j no_edge (omega arith) n in let f = h k a b in omega arith

-- the key of the last of those that are left is there
pub last_there : (edges come was left : List Edge) (c : Edge) → was ≡ left ++ c ∷ [] → IsFront was come → All (λ e. Contains (keys edges) e.key) come → Contains (keys edges) c.key
last_there edges come was left c e front h =
    subst (λ (f : Edge). Contains (keys edges) f.key)
    (ap (λ (l : List Edge). get_or l (length left) c) (front.1 ∙ ap (λ (l : List Edge). l ++ front.0) e) ∙ get_or_append_left (left ++ c ∷ []) front.0 c (length left) short ∙ get_or_push left c c (length left) refl)
    (h (length left) c (omega (arith, ap length front.1, length-append was front.0, ap length e, length-append left (c ∷ []))))
  where
    short : length left < length (left ++ c ∷ [])
    short = omega (arith, length-append left (c ∷ []))

pub found_there : (edges : List Edge) (key : ℕ) (place : Option ℕ) → is_some place ≡ true → IfSome place (λ i. (i < length edges) × ((edge_at edges i).key ≡ key)) → Contains (keys edges) key
found_there edges key None some h = absurd (true≢false (sym some))
found_there edges key (Some i) some h = key_there edges i key h.0 h.1

-- ---- keys that go for good

-- the edges so far that stay stand at the front, and the keys that are passed are less than those that follow
pub record IsSwept (gone : List ℕ) (old now : List Edge) (next kept i : ℕ) : Type 0 where
  pub filtered : FiltersInPlace (λ (e : Edge). not (list_any (λ k. k == e.key) gone)) old now kept i
  pub passed : (j : ℕ) → i ≤ j → j < length old → AreBelow gone next (edge_at old j).key

front_stays : (p : Edge → Bool) (edges : List Edge) (n : ℕ) → ((j : ℕ) → j < n → j < length edges → p (edge_at edges j) ≡ true) → take n edges ≡ filter p (take n edges)
front_stays p [] zero h = refl
front_stays p [] (suc n) h = refl
front_stays p (e ∷ edges) zero h = refl
front_stays p (e ∷ edges) (suc n) h =
    ap (λ (es : List Edge). e ∷ es) (front_stays p edges n (λ j l s. h (suc j) (omega (arith, l)) (omega (arith, s))))
    ∙ sym (ap (λ (b : Bool). cond b (e ∷ filter p (take n edges)) (filter p (take n edges))) (h 0 (omega arith) (omega arith)))

-- the edges before the first one that goes stay
pub IsSwept-start : (gone : List ℕ) (edges : List Edge) (first : ℕ) → first ≤ length edges
    → ((j : ℕ) → j < first → list_any (λ k. k == (edge_at edges j).key) gone ≡ false) → IsSwept gone edges edges 0 first first
IsSwept-start gone edges first within before = record {
  filtered = record {
    front = front_stays (λ (e : Edge). not (list_any (λ k. k == e.key) gone)) edges first (λ j l s. ap not (before j l));
    rest = refl;
    behind = omega arith;
    within = within;
    long = refl;
  };
  passed = λ j l m k a b. absurd (omega arith);
}

-- where edges ascend, those before one that has the first of keys that do not fall have none of the keys
pub none_before : (gone : List ℕ) (edges : List Edge) (place : ℕ) → IsNonDecreasing gone → AllPairs (λ e f. e.key < f.key) edges → place < length edges
    → (edge_at edges place).key ≡ get_or gone 0 0 → (j : ℕ) → j < place → list_any (λ k. k == (edge_at edges j).key) gone ≡ false
none_before gone edges place fall up within at j l = list_any_none (λ k. k == (edge_at edges j).key) gone (λ i d s.
    let less = up j place no_edge l within in
    let le = fall 0 i d (omega arith) s in
    let same = get_or_default gone 0 d 0 (omega (arith, s)) in
    differ (get_or gone i d) (edge_at edges j).key (λ e. absurd (omega (arith, less, at, le, same, e))))

module _ (gone : List ℕ) (old now : List Edge) (next kept i later : ℕ) (x : Edge) (up : AllPairs (λ e f. e.key < f.key) old) (l : i < length now) (is : x ≡ get_or now i x) (upto : AreUpTo gone later x.key)
    (h : IsSwept gone old now next kept i) where
  was : x ≡ edge_at old i
  was =
      let f = h.filtered in
      let long = f.long in
      is ∙ get_or_default now i x no_edge l
      ∙ ap (λ (es : List Edge). get_or es 0 no_edge) (sym (drop_more now i no_edge l) ∙ f.rest ∙ drop_more old i no_edge (omega arith))

  then_passed : (j : ℕ) → i + 1 ≤ j → j < length old → AreBelow gone later (edge_at old j).key
  then_passed = let long = h.filtered.long in passed_below old gone later i up (omega arith) (subst (λ (e : Edge). AreUpTo gone later e.key) was upto)

  pub IsSwept-go : list_any (λ k. k == x.key) gone ≡ true → IsSwept gone old now later kept (i + 1)
  IsSwept-go e = record { filtered = FiltersInPlace-more_no h.filtered l (ap not e) is; passed = then_passed }

  pub IsSwept-stay : (newer : List Edge) → SwappedAt now newer kept i → list_any (λ k. k == x.key) gone ≡ false → IsSwept gone old newer later (kept + 1) (i + 1)
  IsSwept-stay newer s e = record { filtered = FiltersInPlace-more_swap h.filtered l (ap not e) is s; passed = then_passed }

pub IsSwept-same : (gone : List ℕ) (old : List Edge) {now newer : List Edge} {next kept more i : ℕ} → newer ≡ now → more ≡ kept → IsSwept gone old now next kept i → IsSwept gone old newer next more i
IsSwept-same gone old {now} {newer} {next} {kept} {more} {i} e f h = subst₂ (λ (n : List Edge) (k : ℕ). IsSwept gone old n next k i) (sym e) (sym f) h

pub IsSwept-end : (gone : List ℕ) (old now : List Edge) (next kept i : ℕ) → length old ≤ i → IsSwept gone old now next kept i → take kept now ≡ without_keys gone old
IsSwept-end gone old now next kept i l h = FiltersInPlace-all h.filtered l

-- nothing is left
pub none_left : {A : Type 0} (xs : List A) → length xs ≡ 0 → xs ≡ []
none_left [] e = refl
none_left (x ∷ xs) e = absurd (omega arith)

pub none_tested : {A : Type 0} (xs : List A) (r : Bool) → r ≡ (length xs == 0) → r ≡ true → xs ≡ []
none_tested [] r e h = refl
none_tested (x ∷ xs) r e h = absurd (true≢false (sym h ∙ e ∙ differ (length (x ∷ xs)) 0 (λ f. omega arith)))
