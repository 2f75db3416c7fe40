-- When all joints are joined, the edges that have not ended are the chains, and so are those whose range holds the step.
use Rattle.std.proofs.Common.{◌≡◌, ◌⊎◌, inl, inr, ℕ, zero, suc, ◌+◌, ◌<◌, ◌≤◌, ◌||◌, nat_le, nat_lt, Bool, true, cond, List, [], ◌∷◌, map, filter, length, get_or, Option, Some, None, refl, sym, ap, ap₂, ◌∙◌, subst, arith}
use Rattle.std.specs.List.{range_with_len}
use Rattle.std.proofs.lemmas.Bool.{and_from, and_parts, or_left, or_right, cases_order, lt-ltb, le-leb, ltb-true}
use Rattle.lemmas.specs.Sorting.{sort_by, is_sorted_by, is_before_first}
use Rattle.lemmas.proofs.Sorting.{sort_by-sorted}
use Rattle.tgap_model.specs.Merged.{merged}
use Rattle.tgap_model.specs.Chains.{degree, Chain, key, is_directed, directed, turned_round, chains_at}
use Rattle.map_laws.proofs.ChainMembers.{Among, filter_among, sorted_same}
use Rattle.map_laws.proofs.Lists.{ArePairs, kept_among, among_kept, among_range, sort_among, among_sort, sort_pairs, pairs_of, pairs_kept}
use Rattle.map_laws.proofs.JoinSteps.{AreJoined}
use Rattle.map_laws.proofs.ChainsExist.{joined_are_chains, chains_are}
use Rattle.edge_forest.specs.declared.edge.ForestEdge.{ForestEdge}
use Rattle.edge_forest.specs.declared.net.Current.{Current}
use Rattle.edge_forest.specs.declared.growth.Growth.{Growth}
use Rattle.edge_forest.specs.Edges.{edge_at, chains_of, chain_of, is_alive, alive_edges}
use Rattle.edge_forest.specs.Forest.{never}
use Rattle.edge_forest.specs.Net.{row_at, numbers_of}
use Rattle.edge_forest.specs.Family.{family}
use Rattle.edge_forest.specs.Growth.{rows_of, IsStored, IsAtRest}
use Rattle.edge_forest.specs.Growth as stored
use Rattle.edge_forest.proofs.Nets.{some_same}

-- ---- the family is directed, and in the order of keys

module _ (chains : List Chain) where
  -- row j of these rows has the key a + j
  abbrev AreFrom : ℕ → List (Option Current) → Type 0
  AreFrom a rows = (j : ℕ) (r : Current) → row_at rows j ≡ Some r → (key (get_or chains r.id []) ≡ a + j) × (is_directed (get_or chains r.id []) ≡ true)

  rest_from : (a : ℕ) (row : Option Current) (rows : List (Option Current)) → AreFrom a (row ∷ rows) → AreFrom (a + 1) rows
  rest_from a row rows w j r e = let u = w (suc j) r e in (omega (arith, u.0), u.1)

  keys_from : (a : ℕ) (rows : List (Option Current)) → AreFrom a rows → (c : Chain) → Among c (family chains rows) → a ≤ key c
  keys_from a [] w c m = absurd m
  keys_from a (None ∷ rows) w c m = omega (arith, keys_from (a + 1) rows (rest_from a None rows w) c m)
  keys_from a (Some r ∷ rows) w c (inl e) = omega (arith, (w 0 r refl).0, ap key e)
  keys_from a (Some r ∷ rows) w c (inr m) = omega (arith, keys_from (a + 1) rows (rest_from a (Some r) rows w) c m)

  family_sorted : (a : ℕ) (rows : List (Option Current)) → AreFrom a rows → is_sorted_by (λ c d. nat_lt (key c) (key d)) (family chains rows) ≡ true
  family_sorted a [] w = refl
  family_sorted a (None ∷ rows) w = family_sorted (a + 1) rows (rest_from a None rows w)
  family_sorted a (Some r ∷ rows) w =
      and_from _ _ (first (family chains rows) (keys_from (a + 1) rows (rest_from a (Some r) rows w))) (family_sorted (a + 1) rows (rest_from a (Some r) rows w))
    where
      first : (cs : List Chain) → ((c : Chain) → Among c cs → a + 1 ≤ key c) → is_before_first (λ c d. nat_lt (key c) (key d)) (get_or chains r.id []) cs ≡ true
      first [] above = refl
      first (c ∷ cs) above = lt-ltb (key (get_or chains r.id [])) (key c) (omega (arith, (w 0 r refl).0, above c (inl refl)))

  family_directed : (a : ℕ) (rows : List (Option Current)) → AreFrom a rows → map directed (family chains rows) ≡ family chains rows
  family_directed a [] w = refl
  family_directed a (None ∷ rows) w = family_directed (a + 1) rows (rest_from a None rows w)
  family_directed a (Some r ∷ rows) w =
      ap₂ (λ (c : Chain) (cs : List Chain). c ∷ cs)
      (ap (λ (b : Bool). cond b (get_or chains r.id []) (turned_round (get_or chains r.id []))) (w 0 r refl).1)
      (family_directed (a + 1) rows (rest_from a (Some r) rows w))

  numbers_chains : (rows : List (Option Current)) → map (λ i. get_or chains i []) (numbers_of rows) ≡ family chains rows
  numbers_chains [] = refl
  numbers_chains (None ∷ rows) = numbers_chains rows
  numbers_chains (Some r ∷ rows) = ap (λ (cs : List Chain). get_or chains r.id [] ∷ cs) (numbers_chains rows)

  number_of : (rows : List (Option Current)) (i : ℕ) → Among i (numbers_of rows) → (j : ℕ) × (r : Current) × (row_at rows j ≡ Some r) × (r.id ≡ i)
  number_of [] i m = absurd m
  number_of (None ∷ rows) i m = let o = number_of rows i m in (suc o.0, o.1, o.2, o.3)
  number_of (Some r ∷ rows) i (inl e) = (0, r, refl, e)
  number_of (Some r ∷ rows) i (inr m) = let o = number_of rows i m in (suc o.0, o.1, o.2, o.3)

  of_number : (rows : List (Option Current)) (j : ℕ) (r : Current) → row_at rows j ≡ Some r → Among r.id (numbers_of rows)
  of_number [] j r e = absurd cc
  of_number (None ∷ rows) zero r e = absurd cc
  of_number (None ∷ rows) (suc j) r e = of_number rows j r e
  of_number (Some s ∷ rows) zero r e = inl (ap (λ (o : Option Current). number o) e)
    where
      number : Option Current → ℕ
      number None = 0
      number (Some r) = r.id
  of_number (Some s ∷ rows) (suc j) r e = inr (of_number rows j r e)

-- keys ascend along the numbers
numbers_sorted : (edges : List ForestEdge) (a : ℕ) (rows : List (Option Current))
    → ((j : ℕ) (r : Current) → row_at rows j ≡ Some r → (edge_at edges r.id).key ≡ a + j)
    → (is_sorted_by (λ i j. nat_lt (edge_at edges i).key (edge_at edges j).key) (numbers_of rows) ≡ true)
    × ((i : ℕ) → Among i (numbers_of rows) → a ≤ (edge_at edges i).key)
numbers_sorted edges a [] w = (refl, λ i m. absurd m)
numbers_sorted edges a (None ∷ rows) w =
    let r = numbers_sorted edges (a + 1) rows (λ j r e. omega (arith, w (suc j) r e)) in (r.0, λ i m. omega (arith, r.1 i m))
numbers_sorted edges a (Some r ∷ rows) w =
    let u = numbers_sorted edges (a + 1) rows (λ j r e. omega (arith, w (suc j) r e)) in (
      and_from _ _ (first (numbers_of rows) u.1) u.0,
      (λ i m. elim m [ inl e ↦ omega (arith, w 0 r refl, ap (λ (n : ℕ). (edge_at edges n).key) e) | inr n ↦ omega (arith, u.1 i n) ]),
    )
  where
    first : (is : List ℕ) → ((i : ℕ) → Among i is → a + 1 ≤ (edge_at edges i).key) → is_before_first (λ i j. nat_lt (edge_at edges i).key (edge_at edges j).key) r.id is ≡ true
    first [] above = refl
    first (i ∷ is) above = lt-ltb (edge_at edges r.id).key (edge_at edges i).key (omega (arith, w 0 r refl, above i (inl refl)))

pub among_in_range : (a n i : ℕ) → a ≤ i → i < a + n → Among i (range_with_len a n)
among_in_range a zero i low high = absurd (omega arith)
among_in_range a (suc n) i low high = elim (order a i low) [
  | inl e ↦ inl e
  | inr l ↦ inr (among_in_range (a + 1) n i (omega arith) (omega arith))
]
  where
    order : (a i : ℕ) → a ≤ i → (a ≡ i) ⊎ (a < i)
    order zero zero l = inl refl
    order zero (suc i) l = inr (omega arith)
    order (suc a) zero l = absurd (omega arith)
    order (suc a) (suc i) l = elim (order a i (omega arith)) [ inl e ↦ inl (ap suc e) | inr s ↦ inr (omega arith) ]

range_ascends : (a n : ℕ) → ArePairs (λ (i j : ℕ). i < j) (range_with_len a n)
range_ascends a zero = tt
range_ascends a (suc n) = ((λ j m. omega (arith, (among_range (a + 1) n j m).0)), range_ascends (a + 1) n)

-- of different numbers one is less
some_order : (m n : ℕ) → (m ≡ n → ⊥) → (nat_lt m n || nat_lt n m) ≡ true
some_order m n ne = elim (cases_order m n) [
  | inl e ↦ absurd (ne e)
  | inr o ↦ elim o [ inl l ↦ or_left (nat_lt m n) (nat_lt n m) (lt-ltb m n l) | inr l ↦ or_right (nat_lt m n) (nat_lt n m) (lt-ltb n m l) ]
]

-- ---- the edges that have not ended

module _ (k : ℕ) (g : Growth) (w : IsStored k g) (less : k < never) where
  abbrev edges : List ForestEdge
  edges = g.edges.items

  abbrev rows : List (Option Current)
  rows = rows_of g

  alive_is : (i : ℕ) → i < length edges → (edge_at edges i).high ≡ never → is_alive k (edge_at edges i) ≡ true
  alive_is i l e =
      and_from (nat_le (edge_at edges i).low k) (nat_lt k (edge_at edges i).high) (le-leb (edge_at edges i).low k (w.low i l))
      (lt-ltb k (edge_at edges i).high (omega (arith, e, less)))

  listed_alive : (i : ℕ) → Among i (numbers_of rows) → Among i (alive_edges edges k)
  listed_alive i m =
      let o = number_of [] rows i m in
      let e = w.of_edges o.0 o.1 o.2 in
      let inside : i < length edges = omega (arith, e.id, o.3) in
      among_sort (λ i j. nat_lt (edge_at edges i).key (edge_at edges j).key) (filter (λ i. is_alive k (edge_at edges i)) (range_with_len 0 (length edges))) i
      (among_kept (λ i. is_alive k (edge_at edges i)) (range_with_len 0 (length edges)) i (among_in_range 0 (length edges) i (omega arith) (omega (arith, inside)))
      (alive_is i inside (ap (λ (n : ℕ). (edge_at edges n).high) (sym o.3) ∙ e.high)))

  alive_listed : (i : ℕ) → Among i (alive_edges edges k) → Among i (numbers_of rows)
  alive_listed i m =
      let n = sort_among (λ i j. nat_lt (edge_at edges i).key (edge_at edges j).key) (filter (λ i. is_alive k (edge_at edges i)) (range_with_len 0 (length edges))) i m in
      let inside : i < length edges = omega (arith, (among_range 0 (length edges) i (kept_among (λ i. is_alive k (edge_at edges i)) (range_with_len 0 (length edges)) i n)).1) in
      let alive = and_parts (nat_le (edge_at edges i).low k) (nat_lt k (edge_at edges i).high) (filter_among (λ i. is_alive k (edge_at edges i)) (range_with_len 0 (length edges)) i n) in
      let high : (edge_at edges i).high ≡ never = elim (w.high i inside) [
        | inl h ↦ absurd (omega (arith, h, ltb-true k (edge_at edges i).high alive.1))
        | inr h ↦ h
      ] in
      let r = w.of_rows i inside high in
      subst (λ (j : ℕ). Among j (numbers_of rows)) r.2 (of_number [] rows (edge_at edges i).key r.0 r.1)

  -- the row of an edge that is alive
  alive_row : (i : ℕ) → Among i (filter (λ i. is_alive k (edge_at edges i)) (range_with_len 0 (length edges)))
      → (r : Current) × (row_at rows (edge_at edges i).key ≡ Some r) × (r.id ≡ i)
  alive_row i n =
      let inside : i < length edges = omega (arith, (among_range 0 (length edges) i (kept_among (λ i. is_alive k (edge_at edges i)) (range_with_len 0 (length edges)) i n)).1) in
      let alive = and_parts (nat_le (edge_at edges i).low k) (nat_lt k (edge_at edges i).high) (filter_among (λ i. is_alive k (edge_at edges i)) (range_with_len 0 (length edges)) i n) in
      w.of_rows i inside (elim (w.high i inside) [
        | inl h ↦ absurd (omega (arith, h, ltb-true k (edge_at edges i).high alive.1))
        | inr h ↦ h
      ])

  pub alive_differ : (i j : ℕ) → Among i (filter (λ i. is_alive k (edge_at g.edges.items i)) (range_with_len 0 (length g.edges.items)))
      → Among j (filter (λ i. is_alive k (edge_at g.edges.items i)) (range_with_len 0 (length g.edges.items))) → (edge_at g.edges.items i).key ≡ (edge_at g.edges.items j).key → i ≡ j
  alive_differ i j m n e =
      let r = alive_row i m in
      let s = alive_row j n in
      sym r.2 ∙ ap (λ (c : Current). c.id) (some_same (sym r.1 ∙ ap (row_at rows) e ∙ s.1)) ∙ s.2

  alive_sorted : is_sorted_by (λ i j. nat_lt (edge_at edges i).key (edge_at edges j).key) (alive_edges edges k) ≡ true
  alive_sorted =
      sort_pairs (λ i j. nat_lt (edge_at edges i).key (edge_at edges j).key) (filter (λ i. is_alive k (edge_at edges i)) (range_with_len 0 (length edges)))
      (pairs_of (λ (i j : ℕ). i < j) _ (filter (λ i. is_alive k (edge_at edges i)) (range_with_len 0 (length edges)))
      (λ i j m n l. some_order (edge_at edges i).key (edge_at edges j).key (λ e. absurd (omega (arith, l, alive_differ i j m n e))))
      (pairs_kept (λ (i j : ℕ). i < j) (λ i. is_alive k (edge_at edges i)) (range_with_len 0 (length edges)) (range_ascends 0 (length edges))))

  -- they are the edges whose range holds the step
  pub present_are_alive : numbers_of (rows_of g) ≡ alive_edges g.edges.items k
  present_are_alive =
      sym (sorted_same (λ i. (edge_at edges i).key) (alive_edges edges k) (numbers_of rows) alive_sorted
      (numbers_sorted edges 0 rows (λ j r e. omega (arith, (w.of_edges j r e).key))).0 alive_listed listed_alive)

-- ---- after all joins

module _ (k : ℕ) (g : Growth) (w : IsStored k g) (less : k < never)
    (a : AreJoined (merged g.base) k (λ q. degree (merged g.base) k q ≡ 2) (stored.family_of g)) where
  from_rows : (j : ℕ) (r : Current) → row_at (rows_of g) j ≡ Some r
      → (key (get_or (chains_of g.edges.items) r.id []) ≡ 0 + j) × (is_directed (get_or (chains_of g.edges.items) r.id []) ≡ true)
  from_rows j r e = let u = w.rows j r e in (omega (arith, u.key), u.directed)

  pub rest_chains : stored.family_of g ≡ chains_at (merged g.base) k
  rest_chains =
      sym (ap (sort_by (λ c d. nat_lt (key c) (key d))) (family_directed (chains_of g.edges.items) 0 (rows_of g) from_rows)
      ∙ sort_by-sorted (λ c d. nat_lt (key c) (key d)) (stored.family_of g) (family_sorted (chains_of g.edges.items) 0 (rows_of g) from_rows))
      ∙ chains_are (merged g.base) k _ (joined_are_chains (merged g.base) k (stored.family_of g) a)

  pub rest_alive : map (chain_of g.edges.items) (alive_edges g.edges.items k) ≡ chains_at (merged g.base) k
  rest_alive =
      ap (map (chain_of g.edges.items)) (sym (present_are_alive k g w less)) ∙ numbers_chains (chains_of g.edges.items) (rows_of g) ∙ rest_chains

  pub at_rest : IsAtRest k g
  at_rest = record { stored = w; chains = rest_chains; alive = rest_alive }
