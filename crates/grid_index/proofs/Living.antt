-- The slots of a list of edges, and how both change.
use Rattle.std.proofs.Common.{◌≡◌, ◌≢◌, inl, inr, ℕ, suc, ◌+◌, ◌<◌, ◌≤◌, Bool, true, false, cond, not, ◌==◌, ◌||◌, List, [], ◌∷◌, ◌++◌, length, filter, map, get_or, take, All, AllPairs, Contains, IsPermutation, Option, Some, refl, sym, ap, ap₂, ◌∙◌, subst, subst₂, true≢false, arith}
use Rattle.std.specs.List.{flat_map, list_any, range_with_len}
use Rattle.std.specs.List.Sorted.{IsNonDecreasing, IsNonDecreasingBy}
use Rattle.std.proofs.lemmas.Bool.Decides.{nat_tests}
use Rattle.std.proofs.lemmas.List.{take_more, map_push, get_or-map, length-map, map-append, get_or_default}
use Rattle.std.proofs.lemmas.List.Elements.{All-head, All-tail, All-append, All-filter}
use Rattle.std.proofs.lemmas.List.Folds.{flat_map-map, list_any_none}
use Rattle.std.proofs.lemmas.List.FromFn.{fill_by_all}
use Rattle.std.proofs.lemmas.List.Sorted.{IsPermutation-map, IsPermutation-trans, IsPermutation-sym, IsPermutation-append_left, All-permutation, list_any-IsPermutation, length_permutation}
use Rattle.tgap_model.specs.declared.geometry.Window.{Window}
use Rattle.tgap_model.specs.declared.slice.Edge.{Edge}
use Rattle.lemmas.proofs.Members.{in_cases, AllPairs-head, AllPairs-tail, Contains-from_map, filter_agree_on}
use Rattle.lemmas.proofs.Permutations.{IsPermutation-filter}
use Rattle.lemmas.proofs.Sorting.{AllPairs-permutation}
use Rattle.grid_index.specs.declared.keys.KeyBox.{KeyBox}
use Rattle.grid_index.specs.declared.segments.Entry.{Entry}
use Rattle.grid_index.specs.Live.{near_segments, keys, without_keys, AreLive, IsLiveEdge}
use Rattle.grid_index.specs.Slots.{held, stays, no_edge, entry_of, edge_at, entry_near, is_near, AreNear, IsIndexed}
use Rattle.grid_index.proofs.Ordering.{map-filter}
use Rattle.grid_index.proofs.Holding.{held-append}

-- ---- entries

pub entries_more : (entries : List (Option Entry)) (edges : List Edge) (i : ℕ) (edge : Edge) (e : Entry) → i < length edges → edge ≡ get_or edges i edge → e ≡ entry_of edge → held entries ≡ map entry_of (take i edges)
    → held (entries ++ Some e ∷ []) ≡ map entry_of (take (i + 1) edges)
entries_more entries edges i edge e l is made h =
    held-append entries (Some e ∷ []) ∙ ap₂ (λ (xs : List Entry) (x : Entry). xs ++ x ∷ []) h (made ∙ ap entry_of is)
    ∙ sym (ap (map entry_of) (take_more edges i edge l) ∙ map_push entry_of (take i edges) (get_or edges i edge))

pub entries_at_more : (entries : List (Option Entry)) (edges : List Edge) (places : List ℕ) (i : ℕ) (edge : Edge) (e : Entry) → i < length places → get_or places i 0 < length edges
    → edge ≡ get_or edges (get_or places i 0) edge → e ≡ entry_of edge → held entries ≡ map (λ k. entry_of (edge_at edges k)) (take i places)
    → held (entries ++ Some e ∷ []) ≡ map (λ k. entry_of (edge_at edges k)) (take (i + 1) places)
entries_at_more entries edges places i edge e l m is made h =
    let f : ℕ → Entry = λ k. entry_of (edge_at edges k) in
    held-append entries (Some e ∷ [])
    ∙ ap₂ (λ (xs : List Entry) (x : Entry). xs ++ x ∷ []) h (made ∙ ap entry_of (is ∙ get_or_default edges (get_or places i 0) edge no_edge m))
    ∙ sym (ap (map f) (take_more places i 0 l) ∙ map_push f (take i places) (get_or places i 0))

-- in another order
pub laid : (edges : List Edge) (order : List ℕ) → IsPermutation (range_with_len 0 (length edges)) order → IsPermutation (map entry_of edges) (map (λ i. entry_of (edge_at edges i)) order)
laid edges order h =
    let f : ℕ → Entry = λ k. entry_of (edge_at edges k) in
    let e = entry_of no_edge in
    subst (λ (xs : List Entry). IsPermutation xs (map f order))
    (sym (fill_by_all f (map entry_of edges) (length edges) e (length-map edges entry_of) (λ k l. get_or-map entry_of edges k no_edge e l)))
    (IsPermutation-map f (range_with_len 0 (length edges)) order h)

pub entries_ascend : (edges : List Edge) → AllPairs (λ e f. e.key < f.key) edges → AllPairs (λ e f. e.key < f.key) (map entry_of edges)
entries_ascend edges h i j d less l =
    let short : j < length edges = omega (arith, l, length-map edges entry_of) in
    let first : i < length edges = omega arith in
    subst₂ (λ (e f : Entry). e.key < f.key) (sym (get_or-map entry_of edges i no_edge d first)) (sym (get_or-map entry_of edges j no_edge d short)) (h i j no_edge less short)

pub near_of_entries : (area : Window) (edges : List Edge) → flat_map (entry_near area) (map entry_of edges) ≡ near_segments area edges
near_of_entries area edges = flat_map-map (entry_near area) entry_of edges

-- ---- how many stay

keep : List ℕ → Edge → Bool
keep gone e = not (list_any (λ k. k == e.key) gone)

filter_le : (p q : Edge → Bool) (xs : List Edge) → ((y : Edge) → p y ≡ true → q y ≡ true) → length (filter p xs) ≤ length (filter q xs)
filter_le p q [] h = omega arith
filter_le p q (x ∷ xs) h = by (p x) (q x) (h x) (filter_le p q xs h)
  where
    by : (a b : Bool) → (a ≡ true → b ≡ true) → length (filter p xs) ≤ length (filter q xs) → length (cond a (x ∷ filter p xs) (filter p xs)) ≤ length (cond b (x ∷ filter q xs) (filter q xs))
    by true true f le = omega arith
    by true false f le = absurd (true≢false (sym (f refl)))
    by false true f le = omega arith
    by false false f le = le

filter_less : (p q : Edge → Bool) (xs : List Edge) (x : Edge) → Contains xs x → q x ≡ true → p x ≡ false → ((y : Edge) → p y ≡ true → q y ≡ true) → length (filter p xs) < length (filter q xs)
filter_less p q [] x c e f h = absurd (omega (arith, c.1))
filter_less p q (y ∷ ys) x c e f h = elim (in_cases y ys x c) [
  | inl same ↦ here (p y) (q y) (ap p same ∙ f) (ap q same ∙ e) (filter_le p q ys h)
  | inr rest ↦ there (p y) (q y) (h y) (filter_less p q ys x rest e f h)
]
  where
    here : (a b : Bool) → a ≡ false → b ≡ true → length (filter p ys) ≤ length (filter q ys) → length (cond a (y ∷ filter p ys) (filter p ys)) < length (cond b (y ∷ filter q ys) (filter q ys))
    here false true e f le = omega arith
    here true b e f le = absurd (true≢false e)
    here false false e f le = absurd (true≢false (sym f))

    there : (a b : Bool) → (a ≡ true → b ≡ true) → length (filter p ys) < length (filter q ys) → length (cond a (y ∷ filter p ys) (filter p ys)) < length (cond b (y ∷ filter q ys) (filter q ys))
    there true true f le = omega arith
    there true false f le = absurd (true≢false (sym (f refl)))
    there false true f le = omega arith
    there false false f le = le

key_differs : (m n : ℕ) → m ≢ n → (m == n) ≡ false
key_differs m n ne = grind (arith, nat_tests)

key_same : (m n : ℕ) → m ≡ n → (m == n) ≡ true
key_same m n e = grind (arith, nat_tests)

-- each key that goes takes an edge
pub stay_count : (gone : List ℕ) (edges : List Edge) → All (Contains (keys edges)) gone → AllPairs (λ k l. k ≢ l) gone → length (without_keys gone edges) + length gone ≤ length edges
unfolding keep
stay_count [] edges there apart = let h = filter_le (keep []) (λ e. true) edges (λ e f. refl) in omega (arith, h, all_kept edges)
  where
    all_kept : (es : List Edge) → length (filter (λ e. true) es) ≡ length es
    all_kept [] = refl
    all_kept (e ∷ es) = ap suc (all_kept es)
stay_count (g ∷ gone) edges there apart =
    let rest = stay_count gone edges (All-tail (Contains (keys edges)) g gone there) (AllPairs-tail (λ k l. k ≢ l) g gone apart) in
    let edge = Contains-from_map (λ (e : Edge). e.key) edges g (All-head (Contains (keys edges)) g gone there) in
    let others = list_any_none (λ k. k == g) gone (λ k d l. key_differs (get_or gone k d) g (λ e. AllPairs-head (λ k l. k ≢ l) g gone apart k d l (sym e))) in
    let stays : keep gone edge.0 ≡ true = ap not (ap (λ (n : ℕ). list_any (λ k. k == n) gone) edge.2 ∙ others) in
    let goes : keep (g ∷ gone) edge.0 ≡ false = out (g == edge.0.key) (list_any (λ k. k == edge.0.key) gone) (key_same g edge.0.key (sym edge.2)) in
    let less = filter_less (keep (g ∷ gone)) (keep gone) edges edge.0 edge.1 stays goes (λ y. weaker (g == y.key) (list_any (λ k. k == y.key) gone)) in
    omega arith
  where
    out : (a b : Bool) → a ≡ true → not (a || b) ≡ false
    out true b e = refl
    out false b e = absurd (true≢false (sym e))

    weaker : (a b : Bool) → not (a || b) ≡ true → not b ≡ true
    weaker false b e = e
    weaker true b e = absurd (true≢false (sym e))

-- ---- in another order

pub same_kept : (gone sorted : List ℕ) (edges : List Edge) → IsPermutation gone sorted → without_keys sorted edges ≡ without_keys gone edges
unfolding keep
same_kept gone sorted edges h = filter_agree_on (keep sorted) (keep gone) edges (λ k d l.
    ap not (sym (list_any-IsPermutation (λ n. n == (get_or edges k d).key) gone sorted h)))

-- strictly, where no two are equal
pub ascend_strictly : (edges : List Edge) → IsNonDecreasingBy (λ e. e.key) edges → AllPairs (λ e f. e.key ≢ f.key) edges → AllPairs (λ e f. e.key < f.key) edges
ascend_strictly edges up apart i j d less l = let le = up i j d (omega arith) l in let ne = apart i j d less l in omega arith

pub apart_permuted : (come sorted : List Edge) → IsPermutation come sorted → AllPairs (λ e f. e.key ≢ f.key) come → AllPairs (λ e f. e.key ≢ f.key) sorted
apart_permuted come sorted h apart = AllPairs-permutation (λ e f. e.key ≢ f.key) (λ e f ne k. ne (sym k)) come sorted h apart

-- no edge that stays has the key of one that comes
pub all_fresh : (stay come sorted : List Edge) → IsPermutation come sorted → All (λ e. Contains (keys stay) e.key → ⊥) come → All (λ e. All (λ f. f.key ≢ e.key) sorted) stay
all_fresh stay come sorted h fresh k d l i a m same =
    All-permutation (λ e. Contains (keys stay) e.key → ⊥) come sorted h fresh i a m
    (k, omega (arith, l, length-map stay (λ (e : Edge). e.key)), get_or-map (λ (e : Edge). e.key) stay k d (get_or sorted i a).key l ∙ sym same)

-- ---- both change alike

stays_is : (gone : List ℕ) (edges : List Edge) → map entry_of (without_keys gone edges) ≡ filter (stays gone) (map entry_of edges)
unfolding keep
stays_is gone edges = map-filter entry_of (keep gone) (stays gone) edges (λ k d l. refl)

pub stay_held : (gone : List ℕ) (edges : List Edge) (slots : List (Option Entry)) → IsPermutation (map entry_of edges) (held slots) → IsPermutation (map entry_of (without_keys gone edges)) (filter (stays gone) (held slots))
stay_held gone edges slots h = subst (λ (xs : List Entry). IsPermutation xs (filter (stays gone) (held slots))) (sym (stays_is gone edges)) (IsPermutation-filter (stays gone) (map entry_of edges) (held slots) h)

-- so there is room
pub stay_held_count : (gone : List ℕ) (edges : List Edge) (slots : List (Option Entry)) → IsPermutation (map entry_of edges) (held slots) → length (filter (stays gone) (held slots)) ≡ length (without_keys gone edges)
stay_held_count gone edges slots h =
    length_permutation (map entry_of (without_keys gone edges)) (filter (stays gone) (held slots)) (stay_held gone edges slots h) ∙ length-map (without_keys gone edges) entry_of

pub IsIndexed-changed : (gone : List ℕ) (edges come new : List Edge) (slots newer : List (Option Entry)) → AreLive edges → All IsLiveEdge come → IsPermutation (map entry_of edges) (held slots)
    → IsPermutation (filter (stays gone) (held slots) ++ map entry_of come) (held newer) → IsPermutation (without_keys gone edges ++ come) new → AllPairs (λ e f. e.key < f.key) new → IsIndexed new newer
unfolding keep
IsIndexed-changed gone edges come new slots newer live alive h moved changed up = record {
  live = record {
    ascending = up;
    each = All-permutation IsLiveEdge (without_keys gone edges ++ come) new changed (All-append IsLiveEdge (without_keys gone edges) come (All-filter (keep gone) IsLiveEdge edges live.each) alive);
  };
  held =
      IsPermutation-trans (map entry_of new) (map entry_of (without_keys gone edges ++ come)) (held newer)
      (IsPermutation-map entry_of new (without_keys gone edges ++ come) (IsPermutation-sym (without_keys gone edges ++ come) new changed))
      (subst (λ (xs : List Entry). IsPermutation xs (held newer)) (sym (map-append entry_of (without_keys gone edges) come))
      (IsPermutation-trans (map entry_of (without_keys gone edges) ++ map entry_of come) (filter (stays gone) (held slots) ++ map entry_of come) (held newer)
      (IsPermutation-append_left (map entry_of come) (map entry_of (without_keys gone edges)) (filter (stays gone) (held slots)) (stay_held gone edges slots h)) moved));
}

-- ---- what is sought

pub keys_rise : (edges : List Edge) → IsNonDecreasingBy (λ e. e.key) edges → IsNonDecreasing (keys edges)
keys_rise edges up i j d le l =
    let f : Edge → ℕ = λ e. e.key in
    let short : j < length edges = omega (arith, l, length-map edges f) in
    subst₂ (λ (m n : ℕ). m ≤ n) (sym (get_or-map f edges i no_edge d (omega arith))) (sym (get_or-map f edges j no_edge d short)) (up i j no_edge le short)

pub all_near : (sought : List KeyBox) (entries held0 held1 : List Entry) → IsPermutation entries held0 → held1 ≡ held0 → All (λ s. AreNear s.area s.key entries) sought → All (λ s. AreNear s.area s.key held1) sought
all_near sought entries held0 held1 moved same near k d l =
    let s = get_or sought k d in
    subst (AreNear s.area s.key) (sym same) (All-permutation (λ (e : Entry). e.key ≡ s.key → is_near s.area e ≡ true) entries held0 moved (near k d l))
