-- What the order of the points says of all places, and what it gives to their nodes.
use Rattle.std.proofs.Common.{◌≡◌, ◌≢◌, ◌<◌, ◌≤◌, ◌⊎◌, inl, inr, ℕ, ◌+◌, ◌-◌, ◌==◌, Bool, List, [], ◌∷◌, ◌++◌, map, map-id, filter, cond, length, get_or, set, Contains, refl, sym, ap, ◌∙◌, subst, subst₂, eq-eqb, arith, rules}
use Rattle.std.specs.List.{range_with_len, All}
use Rattle.std.specs.Ordering.{int_cmp, ordering_then, is_lt}
use Rattle.std.proofs.lemmas.List.{get_or-set_same, get_or-set_other, get_or_default, length-set, append-nil}
use Rattle.std.proofs.lemmas.List.Elements.{All-from_get_or}
use Rattle.std.proofs.lemmas.List.FromFn.{length-range_with_len, get_or-range_with_len, length-map-range_with_len, get_or-map-range_with_len, filter_of_map_range_with_len_more}
use Rattle.std.proofs.lemmas.List.Sorted.{All-permutation, Contains-permutation, length_permutation}
use Rattle.std.proofs.lemmas.Bool.{cases_lt, cases_eq, eqb-true, false_from_ne_true}
use Rattle.lemmas.proofs.Members.{Contains-filter, Contains-from_filter}
use Rattle.lemmas.proofs.Sorting.{AllPairs-permutation}
use Rattle.tgap_model.specs.declared.geometry.Point.{Point}
use Rattle.tgap_model.specs.Segment.{point_before}
use Rattle.edge_forest.specs.declared.nodes.PlacedPoint.{PlacedPoint}
use Rattle.edge_forest.specs.declared.nodes.Nodes.{Nodes}
use Rattle.edge_forest.specs.Nodes.{node_at, places_at, AreNodes}
use Rattle.edge_forest.specs.Places.{no_row, placed, AreApart, AreInOrder, row_node, GoesUp, AreNumbered, AreListed}
use Rattle.edge_forest.proofs.Numbering.{up_same, up_before, up_not_back}

-- ---- the rows of all places

-- the derived order of points is theirs
pub derived_order : (p q : Point) → is_lt (ordering_then (int_cmp p.x q.x) (int_cmp p.y q.y)) ≡ point_before p q
derived_order p q = search rules

abbrev all_placed : List Point → List PlacedPoint
all_placed ps = map (placed ps) (range_with_len 0 (length ps))

placed_at : (ps : List Point) (x : ℕ) (d : PlacedPoint) → x < length ps → get_or (all_placed ps) x d ≡ placed ps x
placed_at ps x d l = get_or-map-range_with_len (placed ps) 0 (length ps) x x d l (omega arith)

placed_count : (ps : List Point) → length (all_placed ps) ≡ length ps
placed_count ps = length-map-range_with_len (placed ps) 0 (length ps)

module _ (ps : List Point) (rows : List PlacedPoint) (order : AreInOrder ps rows) where
  pub rows_count : length rows ≡ length ps
  rows_count = length_permutation (all_placed ps) rows order.moved ∙ placed_count ps

  pub rows_within : All (λ r. r.place < length rows) rows
  rows_within = All-permutation (λ r. r.place < length rows) (all_placed ps) rows order.moved
      (All-from_get_or (λ r. r.place < length rows) (all_placed ps) no_row (λ x l.
      let short : x < length ps = omega (arith, l, placed_count ps) in
      subst (λ (r : PlacedPoint). r.place < length rows) (sym (placed_at ps x no_row short)) (omega (arith, short, rows_count))))

  pub rows_apart : AreApart rows
  rows_apart = AllPairs-permutation (λ r s. r.place ≢ s.place) (λ r s ne e. ne (sym e)) (all_placed ps) rows order.moved (λ i j d less short.
      let l : j < length ps = omega (arith, short, placed_count ps) in
      subst₂ (λ (r s : PlacedPoint). r.place ≢ s.place) (sym (placed_at ps i d (omega (arith, less, l)))) (sym (placed_at ps j d l)) (λ e. omega (arith, e, less)))

  -- each place has a row
  row_of : (x : ℕ) → x < length ps → (k : ℕ) × (k < length rows) × (get_or rows k no_row ≡ placed ps x)
  row_of x l =
      let w : Contains (all_placed ps) (placed ps x) = (x, omega (arith, l, placed_count ps), placed_at ps x (placed ps x) l) in
      let found = Contains-permutation (all_placed ps) rows (placed ps x) order.moved w in
      (found.0, found.1, get_or_default rows found.0 no_row (placed ps x) found.1 ∙ found.2)

  -- of two places one goes up from the other
  either_up : (node_of : List ℕ) (count : ℕ) → AreNumbered rows (length rows) node_of count → (x y : ℕ) (d : Point) → x < length ps → y < length ps
      → GoesUp (get_or ps x d) (get_or ps y d) (get_or node_of x 0) (get_or node_of y 0) ⊎ GoesUp (get_or ps y d) (get_or ps x d) (get_or node_of y 0) (get_or node_of x 0)
  either_up node_of count known x y d l m = by (cases_lt (row_of y m).0 (row_of x l).0)
    where
      up : (x y : ℕ) (l : x < length ps) (m : y < length ps) → (row_of x l).0 ≤ (row_of y m).0 → GoesUp (get_or ps x d) (get_or ps y d) (get_or node_of x 0) (get_or node_of y 0)
      up x y l m le =
          let r = row_of x l in
          let s = row_of y m in
          let g = known.ascend r.0 s.0 le s.1 in
          let h = subst₂ (λ (a b : PlacedPoint). GoesUp a.point b.point (get_or node_of a.place 0) (get_or node_of b.place 0)) r.2 s.2 g in
          subst₂ (λ (p q : Point). GoesUp p q (get_or node_of x 0) (get_or node_of y 0)) (get_or_default ps x no_row.point d l) (get_or_default ps y no_row.point d m) h

      by : ((row_of y m).0 < (row_of x l).0) ⊎ ((row_of x l).0 ≤ (row_of y m).0)
          → GoesUp (get_or ps x d) (get_or ps y d) (get_or node_of x 0) (get_or node_of y 0) ⊎ GoesUp (get_or ps y d) (get_or ps x d) (get_or node_of y 0) (get_or node_of x 0)
      by (inl less) = inr (up y x m l (omega (arith, less)))
      by (inr le) = inl (up x y l m le)

  -- each place has one of the nodes
  pub nodes_below : (node_of : List ℕ) (count : ℕ) → AreNumbered rows (length rows) node_of count → (x : ℕ) → x < length ps → get_or node_of x 0 < count
  nodes_below node_of count known x l = by (known.ascend r.0 last (omega (arith, r.1)) (omega (arith, r.1)))
    where
      r : (k : ℕ) × (k < length rows) × (get_or rows k no_row ≡ placed ps x)
      r = row_of x l

      last : ℕ
      last = length rows - 1

      top : row_node rows node_of last + 1 ≡ count
      top = known.last last (omega (arith, r.1))

      same : row_node rows node_of r.0 ≡ get_or node_of x 0
      same = ap (λ (a : PlacedPoint). get_or node_of a.place 0) r.2

      by : GoesUp (get_or rows r.0 no_row).point (get_or rows last no_row).point (row_node rows node_of r.0) (row_node rows node_of last) → get_or node_of x 0 < count
      by (inl a) = omega (arith, a.1, top, same)
      by (inr a) = omega (arith, a.1, top, same)

  pub all_below : (node_of : List ℕ) (count : ℕ) → AreNumbered rows (length rows) node_of count → All (λ node. node < count) node_of
  all_below node_of count known = All-from_get_or (λ node. node < count) node_of 0 (λ x l. nodes_below node_of count known x (omega (arith, l, known.places, rows_count)))

-- ---- the places of each node

-- one more place stands last at its node
pub listed_more : (node_of : List ℕ) (i : ℕ) (places : List (List ℕ)) (ys : List ℕ) → get_or node_of i 0 < length places → AreListed node_of i places
    → ys ≡ get_or places (get_or node_of i 0) [] ++ i ∷ [] → AreListed node_of (i + 1) (set places (get_or node_of i 0) ys)
listed_more node_of i places ys short known pushed n l = by (cases_eq n v)
  where
    v : ℕ
    v = get_or node_of i 0

    at : ℕ → Bool
    at x = get_or node_of x 0 == n

    before : List ℕ
    before = filter at (range_with_len 0 i)

    more : filter at (range_with_len 0 (i + 1)) ≡ before ++ cond (at i) (i ∷ []) []
    more =
        ap (filter at) (sym (map-id (range_with_len 0 (i + 1)))) ∙ filter_of_map_range_with_len_more at (λ x. x) 0 i i (omega arith)
        ∙ ap (λ (xs : List ℕ). filter at xs ++ cond (at i) (i ∷ []) []) (map-id (range_with_len 0 i))

    by : (n ≡ v) ⊎ (n ≢ v) → get_or (set places v ys) n [] ≡ filter at (range_with_len 0 (i + 1))
    by (inl e) =
        ap (λ (k : ℕ). get_or (set places v ys) k []) e ∙ get_or-set_same places v ys [] short ∙ pushed
        ∙ ap (λ (k : ℕ). get_or places k [] ++ i ∷ []) (sym e) ∙ ap (λ (xs : List ℕ). xs ++ i ∷ []) (known n (omega (arith, e, short)))
        ∙ ap (λ (b : Bool). before ++ cond b (i ∷ []) []) (sym (eq-eqb v n (sym e))) ∙ sym more
    by (inr ne) =
        get_or-set_other places v n ys [] ne ∙ known n (omega (arith, l, length-set places v ys)) ∙ sym (append-nil before)
        ∙ ap (λ (b : Bool). before ++ cond b (i ∷ []) []) (sym (false_from_ne_true (at i) (λ f. ne (sym (eqb-true v n f))))) ∙ sym more

-- ---- nodes

pub are_nodes : (ps : List Point) (rows : List PlacedPoint) (count : ℕ) (nodes : Nodes) → AreInOrder ps rows → AreNumbered rows (length rows) nodes.node_of.items count
    → length nodes.places.items ≡ count → AreListed nodes.node_of.items (length nodes.node_of.items) nodes.places.items → AreNodes ps nodes
are_nodes ps rows count nodes order known few listed = record {
  count = places;
  below = λ x l. omega (arith, few, below x l);
  same = λ x y d l m. elim (up x y d l m) [
    | inl g ↦ up_same (get_or ps x d) (get_or ps y d) (node_at nodes x) (node_at nodes y) g
    | inr g ↦
        let s = up_same (get_or ps y d) (get_or ps x d) (node_at nodes y) (node_at nodes x) g in (λ e. sym (s.0 (sym e)), λ e. sym (s.1 (sym e)))
  ];
  ascend = λ x y d l m less. elim (up x y d l m) [
    | inl g ↦ up_before (get_or ps x d) (get_or ps y d) (node_at nodes x) (node_at nodes y) g less
    | inr g ↦ absurd (up_not_back (get_or ps y d) (get_or ps x d) (node_at nodes y) (node_at nodes x) g less)
  ];
  listed = λ x l.
      let n = node_at nodes x in
      let e : places_at nodes n ≡ filter (at n) all = listed n (omega (arith, few, below x l)) in
      subst (λ (xs : List ℕ). Contains xs x) (sym e) (Contains-filter (at n) all x (in_range x l) (eq-eqb n n refl));
  there = λ n x l c.
      let f = Contains-from_filter (at n) all x (subst (λ (xs : List ℕ). Contains xs x) (listed n l) c) in
      (from_range x f.0, eqb-true (node_at nodes x) n f.1);
}
  where
    all : List ℕ
    all = range_with_len 0 (length nodes.node_of.items)

    at : ℕ → ℕ → Bool
    at n x = node_at nodes x == n

    places : length nodes.node_of.items ≡ length ps
    places = known.places ∙ rows_count ps rows order

    below : (x : ℕ) → x < length ps → node_at nodes x < count
    below = nodes_below ps rows order nodes.node_of.items count known

    up : (x y : ℕ) (d : Point) → x < length ps → y < length ps
        → GoesUp (get_or ps x d) (get_or ps y d) (node_at nodes x) (node_at nodes y) ⊎ GoesUp (get_or ps y d) (get_or ps x d) (node_at nodes y) (node_at nodes x)
    up = either_up ps rows order nodes.node_of.items count known

    in_range : (x : ℕ) → x < length ps → Contains all x
    in_range x l =
        let short : x < length nodes.node_of.items = omega (arith, l, places) in
        let e : 0 + x ≡ x = omega arith in
        (x, omega (arith, short, length-range_with_len 0 (length nodes.node_of.items)), get_or-range_with_len 0 (length nodes.node_of.items) x x short ∙ e)

    from_range : (x : ℕ) → Contains all x → x < length ps
    from_range x c =
        let short : c.0 < length nodes.node_of.items = omega (arith, c.1, length-range_with_len 0 (length nodes.node_of.items)) in
        let e : 0 + c.0 ≡ x = sym (get_or-range_with_len 0 (length nodes.node_of.items) c.0 x short) ∙ c.2 in
        omega (arith, e, short, places)
