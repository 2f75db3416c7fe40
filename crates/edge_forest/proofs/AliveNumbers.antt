-- The numbers of the edges whose range holds a step, in the order of their keys.
use Rattle.std.proofs.Common.{◌≡◌, ◌≢◌, ℕ, ◌+◌, ◌<◌, ◌≤◌, Bool, true, cond, nat_lt, ◌∷◌, [], List, ◌++◌, filter, map-id, length, get_or, All, AllPairs, IsPermutation, map, refl, sym, ap, ◌∙◌, subst, arith}
use Rattle.std.specs.List.{range_with_len}
use Rattle.std.specs.List.Sorted.{IsNonDecreasingBy}
use Rattle.std.proofs.Math.ListN.{get_or-map}
use Rattle.std.proofs.lemmas.Bool.Decides.{Decides-ltb}
use Rattle.std.proofs.lemmas.List.{length-map}
use Rattle.std.proofs.lemmas.List.Elements.{filter-append, All-filter, All-map, filter_passes}
use Rattle.std.proofs.lemmas.List.Kept.{AllPairs-filter}
use Rattle.std.proofs.lemmas.List.FromFn.{map-range_with_len_more, length-range_with_len, get_or-range_with_len}
use Rattle.std.proofs.lemmas.List.Sorted.{All-permutation, IsPermutation-map, IsPermutation-trans}
use Rattle.lemmas.proofs.Orders.{nat_lt_order, order_by_key}
use Rattle.lemmas.proofs.Sorting.{sorted_from_adjacent, sort_by-permuted, AllPairs-permutation}
use Rattle.edge_forest.specs.declared.alive.KeyedEdge.{KeyedEdge}
use Rattle.edge_forest.specs.declared.edge.ForestEdge.{ForestEdge}
use Rattle.edge_forest.specs.Edges.{edge_at, is_alive, alive_edges}
use Rattle.edge_forest.specs.Index.{keyed}

-- ---- the numbers that pass a test

-- one more number
pub passing_more : (test : ℕ → Bool) (n : ℕ) → filter test (range_with_len 0 (n + 1)) ≡ filter test (range_with_len 0 n) ++ cond (test n) (n ∷ []) []
passing_more test n =
    ap (filter test)
    (sym (map-id (range_with_len 0 (n + 1))) ∙ map-range_with_len_more (λ i. i) 0 n n (omega arith) ∙ ap (λ (xs : List ℕ). xs ++ n ∷ []) (map-id (range_with_len 0 n)))
    ∙ filter-append test (range_with_len 0 n) (n ∷ [])

range_ascends : (n : ℕ) → AllPairs (λ i j. i < j) (range_with_len 0 n)
range_ascends n i j d less short =
    omega (arith, length-range_with_len 0 n, get_or-range_with_len 0 n i d (omega (arith, length-range_with_len 0 n)), get_or-range_with_len 0 n j d (omega (arith, length-range_with_len 0 n)))

range_below : (n : ℕ) → All (λ i. i < n) (range_with_len 0 n)
range_below n k d short = omega (arith, length-range_with_len 0 n, get_or-range_with_len 0 n k d (omega (arith, length-range_with_len 0 n)))

-- ---- in the order of their keys

module _ (edges : List ForestEdge) (k : ℕ) where
  abbrev key_of : ℕ → ℕ
  key_of i = (edge_at edges i).key

  abbrev alive : List ℕ
  alive = filter (λ i. is_alive k (edge_at edges i)) (range_with_len 0 (length edges))

  abbrev AreKeysApart : Type 0
  AreKeysApart =
      (i j : ℕ) → i < length edges → j < length edges → i ≢ j → is_alive k (edge_at edges i) ≡ true → is_alive k (edge_at edges j) ≡ true → key_of i ≢ key_of j

  alive_apart : AreKeysApart → AllPairs (λ i j. key_of i ≢ key_of j) alive
  alive_apart apart i j d less short =
      let below = All-filter (λ n. is_alive k (edge_at edges n)) (λ n. n < length edges) (range_with_len 0 (length edges)) (range_below (length edges)) in
      let pass = filter_passes (λ n. is_alive k (edge_at edges n)) (range_with_len 0 (length edges)) in
      let ascends : get_or alive i d < get_or alive j d =
      AllPairs-filter (λ m n. m < n) (λ n. is_alive k (edge_at edges n)) (range_with_len 0 (length edges)) (range_ascends (length edges)) i j d less short in
      apart (get_or alive i d) (get_or alive j d) (below i d (omega arith)) (below j d short) (omega arith) (pass i d (omega arith)) (pass j d short)

  alive_sorted : (ids : List ℕ) → AreKeysApart → IsPermutation alive ids → IsNonDecreasingBy key_of ids → ids ≡ alive_edges edges k
  alive_sorted ids apart moved ascend =
      sym (sort_by-permuted (order_by_key key_of nat_lt_order) alive ids (λ i d l. tt)
      (sorted_from_adjacent (λ i j. nat_lt (key_of i) (key_of j)) ids (λ i d short.
      let le : key_of (get_or ids i d) ≤ key_of (get_or ids (i + 1) d) = ascend i (i + 1) d (omega arith) short in
      let ne : key_of (get_or ids i d) ≢ key_of (get_or ids (i + 1) d) = pairs i (i + 1) d (omega arith) short in
      (Decides-ltb (key_of (get_or ids i d)) (key_of (get_or ids (i + 1) d))).1 (omega arith)))
      moved)
    where
      pairs : AllPairs (λ i j. key_of i ≢ key_of j) ids
      pairs = AllPairs-permutation (λ i j. key_of i ≢ key_of j) (λ i j ne e. ne (sym e)) alive ids moved (alive_apart apart)

  -- ---- with their keys beside them

  numbers_kept : (ids : List ℕ) → map (λ (e : KeyedEdge). e.id) (map (keyed edges) ids) ≡ ids
  numbers_kept [] = refl
  numbers_kept (i ∷ ids) = ap (λ (is : List ℕ). i ∷ is) (numbers_kept ids)

  pub keyed_sorted : (ids : List ℕ) (found : List KeyedEdge) → AreKeysApart → IsPermutation alive ids → IsPermutation (map (keyed edges) ids) found
      → IsNonDecreasingBy (λ (e : KeyedEdge). e.key) found → map (λ (e : KeyedEdge). e.id) found ≡ alive_edges edges k
  keyed_sorted ids found apart moved sorted ascend =
      alive_sorted (map (λ (e : KeyedEdge). e.id) found) apart
      (IsPermutation-trans alive ids (map (λ (e : KeyedEdge). e.id) found) moved
      (subst (λ (is : List ℕ). IsPermutation is (map (λ (e : KeyedEdge). e.id) found)) (numbers_kept ids)
      (IsPermutation-map (λ (e : KeyedEdge). e.id) (map (keyed edges) ids) found sorted)))
      (λ i j d le short.
      let within : j < length found = omega (arith, short, length-map found (λ (e : KeyedEdge). e.id)) in
      omega (arith, key_at i d (omega (arith, le, within)), key_at j d within, ascend i j (keyed edges d) le within))
    where
      AreKeyed : KeyedEdge → Type 0
      AreKeyed e = e.key ≡ key_of e.id

      all : All AreKeyed found
      all = All-permutation AreKeyed (map (keyed edges) ids) found sorted (All-map AreKeyed (keyed edges) ids (λ i d l. refl))

      key_at : (i d : ℕ) → i < length found → key_of (get_or (map (λ (e : KeyedEdge). e.id) found) i d) ≡ (get_or found i (keyed edges d)).key
      key_at i d l = ap key_of (get_or-map (λ (e : KeyedEdge). e.id) found i (keyed edges d)) ∙ sym (all i (keyed edges d) l)
