-- Nodes are numbered by going over the points in their order.
use Rattle.std.proofs.Common.{◌≡◌, ◌≢◌, ◌<◌, ◌≤◌, ◌⊎◌, inl, inr, ◌↔◌, ℕ, ◌+◌, ◌-◌, ◌==◌, true, false, List, length, get_or, set, sym, ap, ◌∙◌, subst, true≢false, eq-eqb, not, arith}
use Rattle.std.specs.List.{All}
use Rattle.std.proofs.lemmas.List.{get_or-set_same, get_or-set_other, length-set}
use Rattle.std.proofs.lemmas.List.Elements.{All-get_or}
use Rattle.std.proofs.lemmas.Bool.{cases_lt, or_cases, or_parts, not-false, eqb-true}
use Rattle.grid_geo.proofs.PointOrder.{points}
use Rattle.tgap_model.proofs.Points.{same_point-true, same_point-from}
use Rattle.tgap_model.specs.declared.geometry.Point.{Point}
use Rattle.tgap_model.specs.Segment.{point_before}
use Rattle.edge_forest.specs.declared.nodes.PlacedPoint.{PlacedPoint}
use Rattle.edge_forest.specs.Places.{no_row, AreApart, AscendByPoint, begins_node, row_node, GoesUp, AreNumbered}

-- ---- going up

goes_up_passes : (p q r : Point) (l m n : ℕ) → GoesUp p q l m → GoesUp q r m n → GoesUp p r l n
goes_up_passes p q r l m n (inl a) (inl b) = inl (a.0 ∙ b.0, a.1 ∙ b.1)
goes_up_passes p q r l m n (inl a) (inr b) = inr (subst (λ (z : Point). point_before z r ≡ true) (sym a.0) b.0, omega (arith, a.1, b.1))
goes_up_passes p q r l m n (inr a) (inl b) = inr (subst (λ (z : Point). point_before p z ≡ true) b.0 a.0, omega (arith, a.1, b.1))
goes_up_passes p q r l m n (inr a) (inr b) = inr (points.order.passes p q r tt tt tt a.0 b.0, omega (arith, a.1, b.1))

-- equal nodes are those of equal points, and a lower node is that of an earlier point
pub up_same : (p q : Point) (m n : ℕ) → GoesUp p q m n → (m ≡ n) ↔ (p ≡ q)
up_same p q m n (inl a) = (λ _. a.0, λ _. a.1)
up_same p q m n (inr a) =
    (λ e. absurd (omega (arith, e, a.1)), λ e. absurd (true≢false (sym (subst (λ (z : Point). point_before p z ≡ true) (sym e) a.0) ∙ points.order.itself p tt)))

pub up_before : (p q : Point) (m n : ℕ) → GoesUp p q m n → m < n → point_before p q ≡ true
up_before p q m n (inl a) l = absurd (omega (arith, a.1))
up_before p q m n (inr a) l = a.0

pub up_not_back : (p q : Point) (m n : ℕ) → GoesUp p q m n → n < m → ⊥
up_not_back p q m n (inl a) l = omega (arith, a.1)
up_not_back p q m n (inr a) l = omega (arith, a.1)

-- ---- one more row

begins_false : (rows : List PlacedPoint) (h i : ℕ) → h + 1 ≡ i → begins_node rows i ≡ false → (get_or rows h no_row).point ≡ (get_or rows i no_row).point
begins_false rows h i e b =
    let from : i - 1 ≡ h = omega (arith, e) in
    subst (λ (k : ℕ). (get_or rows k no_row).point ≡ (get_or rows i no_row).point) from (same_point-true _ _ (not-false _ (or_parts (i == 0) _ b).1))

begins_true : (rows : List PlacedPoint) (h i : ℕ) → h + 1 ≡ i → begins_node rows i ≡ true → (get_or rows h no_row).point ≢ (get_or rows i no_row).point
begins_true rows h i e b same = elim (or_cases (i == 0) _ b) [
  | inl f ↦ absurd (omega (arith, e, eqb-true i 0 f))
  | inr f ↦
      let from : i - 1 ≡ h = omega (arith, e) in
      true≢false (sym f ∙ ap not (same_point-from _ _ (subst (λ (k : ℕ). (get_or rows k no_row).point ≡ (get_or rows i no_row).point) (sym from) same)))
]

-- the row after the first i, which have `count` nodes, has node n
abbrev pub IsNext : List PlacedPoint → ℕ → ℕ → ℕ → Type 0
IsNext rows i count n = ((begins_node rows i ≡ true) × (n ≡ count)) ⊎ ((begins_node rows i ≡ false) × (n + 1 ≡ count))

module _ (rows : List PlacedPoint) (i count n : ℕ) (node_of : List ℕ) (short : i < length rows) (within : All (λ r. r.place < length rows) rows)
    (apart : AreApart rows) (ascend : AscendByPoint rows) (known : AreNumbered rows i node_of count) (on : IsNext rows i count n) where
  abbrev point : ℕ → Point
  point k = (get_or rows k no_row).point

  abbrev place : ℕ → ℕ
  place k = (get_or rows k no_row).place

  abbrev after : List ℕ
  after = set node_of (place i) n

  newest : row_node rows after i ≡ n
  newest =
      let inside : place i < length rows = All-get_or (λ (r : PlacedPoint). r.place < length rows) rows i no_row short within in
      get_or-set_same node_of (place i) n 0 (omega (arith, known.places, inside))

  earlier : (k : ℕ) → k < i → row_node rows after k ≡ row_node rows node_of k
  earlier k l = get_or-set_other node_of (place i) (place k) n 0 (apart k i no_row l short)

  -- the row goes up from the one before it
  next : (h : ℕ) → h + 1 ≡ i → GoesUp (point h) (point i) (row_node rows node_of h) n
  next h e = step on (known.last h e)
    where
      by : n ≡ count → row_node rows node_of h + 1 ≡ count → point h ≢ point i
          → (point_before (point h) (point i) ≡ true) ⊎ ((point h ≡ point i) ⊎ (point_before (point i) (point h) ≡ true))
          → GoesUp (point h) (point i) (row_node rows node_of h) n
      by new last ne (inl b) = inr (b, omega (arith, new, last))
      by new last ne (inr (inl s)) = absurd (ne s)
      by new last ne (inr (inr b)) =
          absurd (true≢false (sym b ∙ subst (λ (k : ℕ). point_before (point k) (point h) ≡ false) e (ascend h no_row (omega arith) (omega (arith, e, short)))))

      step : IsNext rows i count n → row_node rows node_of h + 1 ≡ count → GoesUp (point h) (point i) (row_node rows node_of h) n
      step (inl (begins, new)) last = by new last (begins_true rows h i e begins) (points.cases (point h) (point i))
      step (inr (stays, old)) last = inl (begins_false rows h i e stays, omega (arith, old, last))

  numbered_more : AreNumbered rows (i + 1) (set node_of (get_or rows i no_row).place n) (n + 1)
  numbered_more = record {
    places = length-set node_of (place i) n ∙ known.places;
    few = few on;
    last = λ k e. let same : k ≡ i = omega (arith, e) in ap (λ (m : ℕ). m + 1) (subst (λ (j : ℕ). row_node rows after j ≡ n) (sym same) newest);
    ascend = up;
  }
    where
      few : IsNext rows i count n → n + 1 ≤ i + 1
      few (inl (_, new)) = omega (arith, new, known.few)
      few (inr (_, old)) = omega (arith, old, known.few)

      to_newest : (j : ℕ) → j < i → GoesUp (point j) (point i) (row_node rows after j) n
      to_newest j l =
          let h = i - 1 in
          let e : h + 1 ≡ i = omega (arith, l) in
          subst (λ (m : ℕ). GoesUp (point j) (point i) m n) (sym (earlier j l))
          (goes_up_passes (point j) (point h) (point i) (row_node rows node_of j) (row_node rows node_of h) n (known.ascend j h (omega (arith, l)) (omega (arith, l))) (next h e))

      up : (j k : ℕ) → j ≤ k → k < i + 1 → GoesUp (point j) (point k) (row_node rows after j) (row_node rows after k)
      up j k l m = by (cases_lt k i) (cases_lt j i)
        where
          by : (k < i) ⊎ (i ≤ k) → (j < i) ⊎ (i ≤ j) → GoesUp (point j) (point k) (row_node rows after j) (row_node rows after k)
          by (inl a) b =
              subst (λ (x : ℕ). GoesUp (point j) (point k) x (row_node rows after k)) (sym (earlier j (omega (arith, a, l))))
              (subst (λ (x : ℕ). GoesUp (point j) (point k) (row_node rows node_of j) x) (sym (earlier k a)) (known.ascend j k l a))
          by (inr a) (inl b) =
              let same : k ≡ i = omega (arith, a, m) in
              subst (λ (z : ℕ). GoesUp (point j) (point z) (row_node rows after j) (row_node rows after z)) (sym same)
              (subst (λ (x : ℕ). GoesUp (point j) (point i) (row_node rows after j) x) (sym newest) (to_newest j b))
          by (inr a) (inr b) = let same : j ≡ k = omega (arith, a, b, l, m) in inl (ap point same, ap (row_node rows after) same)

-- the count with which the loop goes on
pub count_more : (rows : List PlacedPoint) (i count more : ℕ) (node_of : List ℕ) → i < length rows → All (λ r. r.place < length rows) rows
    → AreApart rows → AscendByPoint rows → AreNumbered rows i node_of count → ((begins_node rows i ≡ true) × (more ≡ count + 1)) ⊎ ((begins_node rows i ≡ false) × (more ≡ count))
    → AreNumbered rows (i + 1) (set node_of (get_or rows i no_row).place (more - 1)) more
count_more rows i count more node_of short within apart ascend known (inl (begins, new)) =
    let e : more - 1 + 1 ≡ more = omega (arith, new) in
    subst (λ (k : ℕ). AreNumbered rows (i + 1) (set node_of (get_or rows i no_row).place (more - 1)) k) e
    (numbered_more rows i count (more - 1) node_of short within apart ascend known (inl (begins, omega (arith, new))))
count_more rows i count more node_of short within apart ascend known (inr (stays, old)) =
    let later : i ≢ 0 = λ z. true≢false (sym (eq-eqb i 0 z) ∙ (or_parts (i == 0) _ stays).0) in
    let positive : row_node rows node_of (i - 1) + 1 ≡ count = known.last (i - 1) (omega (arith, later)) in
    let e : more - 1 + 1 ≡ more = omega (arith, old, positive) in
    subst (λ (k : ℕ). AreNumbered rows (i + 1) (set node_of (get_or rows i no_row).place (more - 1)) k) e
    (numbered_more rows i count (more - 1) node_of short within apart ascend known (inr (stays, e ∙ old)))
