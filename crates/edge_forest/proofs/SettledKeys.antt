-- One key of a step is visited.
use Rattle.std.proofs.Common.{◌≡◌, ◌≢◌, ◌⊎◌, inl, inr, ℕ, ◌+◌, ◌*◌, ◌<◌, ◌≤◌, ◌==◌, ◌&&◌, ◌||◌, Bool, true, false, cond, List, [], ◌∷◌, ◌++◌, length, take, get_or, set, Option, Some, None, refl, sym, ap, ap₂, ◌∙◌, subst, true≢false, eq-eqb, ne_eqb, add-one, arith}
use Rattle.std.specs.Prelude.{Contains, count_by}
use Rattle.std.proofs.Math.Seq.{take-suc}
use Rattle.std.proofs.lemmas.Bool.{cases_eq, cases_lt}
use Rattle.std.proofs.lemmas.Bool.Decides.{nat_tests}
use Rattle.std.proofs.lemmas.Option.{same_Some, none-some}
use Rattle.std.proofs.lemmas.List.{get_or-set_same, get_or-set_other, get_or_past, length-set, append-nil}
use Rattle.std.proofs.lemmas.List.Elements.{Contains-push_cases, Contains-append_left, Contains-append_right, Contains-append_cases}
use Rattle.std.proofs.lemmas.List.Sums.{sum_by-set, sum_by-take-le, count_by_more_no, count_by_more_yes}
use Rattle.lemmas.proofs.Members.{in_head, in_tail, in_cases, in_none}
use Rattle.edge_forest.specs.declared.edge.ForestEdge.{ForestEdge}
use Rattle.edge_forest.specs.declared.nodes.Nodes.{Nodes}
use Rattle.edge_forest.specs.declared.net.Current.{Current}
use Rattle.edge_forest.specs.declared.face_labels.Sides.{Sides}
use Rattle.edge_forest.specs.declared.growth.Growth.{Growth}
use Rattle.edge_forest.specs.Edges.{edge_at}
use Rattle.edge_forest.specs.FaceLabels.{moved_label}
use Rattle.edge_forest.specs.Forest.{never}
use Rattle.edge_forest.specs.Nodes.{node_at}
use Rattle.edge_forest.specs.Net.{row_at, key_at, row_ends, HasEnd, IsNetOf}
use Rattle.edge_forest.specs.Growth.{rows_of, ended, is_row_between, relabel_row, row_after, IsEndBetween, IsOfEdge}
use Rattle.edge_forest.specs.Settle.{edges_after, nodes_after, is_ending, IsSettling}

-- ---- lists of options

-- a read that gives something is within the list
pub read_inside : {A : Type 0} (xs : List (Option A)) (i : ℕ) (x : A) → get_or xs i None ≡ Some x → i < length xs
read_inside xs i x e = elim (cases_lt i (length xs)) [
  | inl l ↦ l
  | inr le ↦ absurd (none-some x (sym (get_or_past xs i None le) ∙ e))
]

-- a place that was set reads as what it was set to, if it was there, and another as before
pub set_cases : {A : Type 0} (xs : List A) (i j : ℕ) (x d : A) → i < length xs → ((j ≡ i) × (get_or (set xs i x) j d ≡ x)) ⊎ ((j ≢ i) × (get_or (set xs i x) j d ≡ get_or xs j d))
set_cases xs i j x d l = elim (cases_eq j i) [
  | inl e ↦ inl (e, ap (λ (n : ℕ). get_or (set xs i x) n d) e ∙ get_or-set_same xs i x d l)
  | inr ne ↦ inr (ne, get_or-set_other xs i j x d ne)
]

-- ---- a row with other labels

module _ (nodes : Nodes) (rows : List (Option Current)) (ends : List (Option ℕ)) (counts : List ℕ) (w : IsNetOf nodes rows ends counts)
    (i : ℕ) (r s : Current) (e : row_at rows i ≡ Some r) (same_first : s.first ≡ r.first) (same_last : s.last ≡ r.last) where
  -- each row has the ends of the one before
  like : (j : ℕ) (t : Current) → row_at (set rows i (Some s)) j ≡ Some t → (u : Current) × (row_at rows j ≡ Some u) × (u.first ≡ t.first) × (u.last ≡ t.last)
  like j t k = elim (set_cases rows i j (Some s) None (read_inside rows i r e)) [
    | inl u ↦
        let same : s ≡ t = same_Some _ _ (sym u.1 ∙ k) in
        (r, ap (row_at rows) u.0 ∙ e, sym same_first ∙ ap (λ (c : Current). c.first) same, sym same_last ∙ ap (λ (c : Current). c.last) same)
    | inr u ↦ (t, sym u.1 ∙ k, refl, refl)
  ]

  abbrev IsEnd : ℕ → ℕ → Type 0
  IsEnd j x = (x < length ends) × (key_at ends x ≡ Some j)

  same_ends : (g : ℕ) → row_ends nodes g (Some s) ≡ row_ends nodes g (Some r)
  same_ends g = ap₂ (λ (x y : ℕ). cond {A = ℕ} (node_at nodes x == g) 1 0 + cond {A = ℕ} (node_at nodes y == g) 1 0) same_first same_last

  pub relabelled_net : IsNetOf nodes (set rows i (Some s)) ends counts
  relabelled_net = record {
    ends_count = omega (arith, length-set rows i (Some s), w.ends_count);
    nodes_count = w.nodes_count;
    counts_count = w.counts_count;
    below = w.below;
    first = λ j t k. let u = like j t k in subst (IsEnd j) u.2 (w.first j u.0 u.1);
    last = λ j t k. let u = like j t k in subst (IsEnd j) u.3 (w.last j u.0 u.1);
    apart = λ j t k. let u = like j t k in λ f. w.apart j u.0 u.1 (u.2 ∙ f ∙ sym u.3);
    keyed = λ x j k. has x j (w.keyed x j k);
    counted = λ g l. omega (
      arith,
      w.counted g l,
      sum_by-set (row_ends nodes g) rows i (Some s) None (read_inside rows i r e),
      ap (row_ends nodes g) e,
      same_ends g,
    );
  }
    where
      has : (x j : ℕ) → HasEnd rows j x → HasEnd (set rows i (Some s)) j x
      has x j h = elim (set_cases rows i j (Some s) None (read_inside rows i r e)) [
        | inl u ↦
            let same : r ≡ h.0 = same_Some _ _ (sym e ∙ ap (row_at rows) (sym u.0) ∙ h.1) in (
              s,
              u.1,
              elim h.2 [
                | inl f ↦ inl (same_first ∙ ap (λ (c : Current). c.first) same ∙ f)
                | inr f ↦ inr (same_last ∙ ap (λ (c : Current). c.last) same ∙ f)
              ],
            )
        | inr u ↦ (h.0, u.1 ∙ h.1, h.2)
      ]

-- ---- a row after the step

-- a label that is not the loser's stays
pub moved_other : (sides : Sides) (l : ℕ) → l ≢ sides.loser → moved_label sides l ≡ l
moved_other sides l ne = ap (λ (b : Bool). cond b sides.winner l) (ne_eqb l sides.loser ne)

pub moved_loser : (sides : Sides) (l : ℕ) → l ≡ sides.loser → moved_label sides l ≡ sides.winner
moved_loser sides l e = ap (λ (b : Bool). cond b sides.winner l) (eq-eqb l sides.loser e)

-- a row without the loser's label is not between loser and winner
pub not_between : (sides : Sides) (r : Current) → r.left ≢ sides.loser → r.right ≢ sides.loser → is_row_between sides r ≡ false
not_between sides r left right =
    neither (r.left == sides.loser) (r.right == sides.winner) (r.left == sides.winner) (r.right == sides.loser) (ne_eqb r.left sides.loser left) (ne_eqb r.right sides.loser right)
  where
    neither : (a b c d : Bool) → a ≡ false → d ≡ false → ((a && b) || (c && d)) ≡ false
    neither true b c d p q = absurd cc
    neither false b true true p q = absurd cc
    neither false b true false p q = refl
    neither false b false d p q = refl

-- and is not changed
pub row_unchanged : (sides : Sides) (r : Current) → r.left ≢ sides.loser → r.right ≢ sides.loser → row_after sides (Some r) ≡ Some r
row_unchanged sides r left right =
    ap (λ (b : Bool). cond b None (Some (relabel_row sides r))) (not_between sides r left right)
    ∙ ap₂ with_labels (moved_other sides r.left left) (moved_other sides r.right right)
  where
    with_labels : ℕ → ℕ → Option Current
    with_labels f g = Some (record { id = r.id; first = r.first; last = r.last; left = f; right = g })

module _ (sides : Sides) (differ : sides.winner ≢ sides.loser) where
  -- no label is that of the loser then
  label_free : (loser winner l : ℕ) → winner ≢ loser → cond (l == loser) winner l ≢ loser
  label_free loser winner l ne = λ e. grind (arith, nat_tests)

  pub moved_free : (l : ℕ) → moved_label sides l ≢ sides.loser
  moved_free l = label_free sides.loser sides.winner l differ

  moved_twice : (l : ℕ) → moved_label sides (moved_label sides l) ≡ moved_label sides l
  moved_twice l = moved_other sides (moved_label sides l) (moved_free l)

  -- and so no row is between them
  pub relabelled_apart : (r : Current) → is_row_between sides (relabel_row sides r) ≡ false
  relabelled_apart r = not_between sides (relabel_row sides r) (moved_free r.left) (moved_free r.right)

  relabel_row_twice : (r : Current) → relabel_row sides (relabel_row sides r) ≡ relabel_row sides r
  relabel_row_twice r =
      ap₂ with_labels (moved_twice r.left) (moved_twice r.right)
    where
      with_labels : ℕ → ℕ → Current
      with_labels f g = record { id = r.id; first = r.first; last = r.last; left = f; right = g }

  pub row_after_twice : (x : Option Current) → row_after sides (row_after sides x) ≡ row_after sides x
  row_after_twice None = refl
  row_after_twice (Some r) = by (is_row_between sides r)
    where
      by : (b : Bool) → row_after sides (cond b None (Some (relabel_row sides r))) ≡ cond b None (Some (relabel_row sides r))
      by true = refl
      by false =
          ap (λ (b : Bool). cond b None (Some (relabel_row sides (relabel_row sides r)))) (relabelled_apart r)
          ∙ ap (λ (t : Current). Some t) (relabel_row_twice r)

-- a row after the step has the number and the ends of the one before
pub row_before : (sides : Sides) (x : Option Current) (r : Current) → row_after sides x ≡ Some r
    → (q : Current) × (x ≡ Some q) × (is_row_between sides q ≡ false) × (relabel_row sides q ≡ r)
row_before sides None r e = absurd (none-some _ e)
row_before sides (Some q) r e = by (is_row_between sides q) refl e
  where
    by : (b : Bool) → is_row_between sides q ≡ b → cond b None (Some (relabel_row sides q)) ≡ Some r
        → (p : Current) × (Some q ≡ Some p) × (is_row_between sides p ≡ false) × (relabel_row sides p ≡ r)
    by true t e = absurd (none-some _ e)
    by false t e = (q, refl, t, same_Some _ _ e)

-- ---- a key is visited

module _ (sides : Sides) (low : ℕ) (keys : List ℕ) (g : Growth) (rows : List (Option Current)) (edges : List ForestEdge) (touched : List ℕ)
    (w : IsSettling sides low keys g rows edges touched) (differ : sides.winner ≢ sides.loser) (k : ℕ) where
  -- what the row is set to
  pub next_row : row_after sides (row_at rows k) ≡ row_after sides (row_at (rows_of g) k)
  next_row = elim (w.rows k) [
    | inl e ↦ ap (row_after sides) e ∙ row_after_twice sides differ (row_at (rows_of g) k)
    | inr e ↦ ap (row_after sides) e
  ]

  -- each row afterwards
  next_cases : (j : ℕ) → ((j ≡ k) × (row_at (set rows k (row_after sides (row_at rows k))) j ≡ row_after sides (row_at rows k)))
      ⊎ ((j ≢ k) × (row_at (set rows k (row_after sides (row_at rows k))) j ≡ row_at rows j))
  next_cases j = elim (cases_eq j k) [
    | inl e ↦ inl (e, ap (row_at next) e ∙ here)
    | inr ne ↦ inr (ne, get_or-set_other rows k j (row_after sides (row_at rows k)) None ne)
  ]
    where
      next : List (Option Current)
      next = set rows k (row_after sides (row_at rows k))

      here : row_at next k ≡ row_after sides (row_at rows k)
      here = elim (cases_lt k (length rows)) [
        | inl l ↦ get_or-set_same rows k (row_after sides (row_at rows k)) None l
        | inr le ↦
            get_or_past next k None (omega (arith, le, length-set rows k (row_after sides (row_at rows k))))
            ∙ sym (ap (row_after sides) (get_or_past rows k None le))
      ]

  -- a row was there before the step, with the same ends
  row_was : (r : Current) → row_at rows k ≡ Some r
      → (q : Current) × (row_at (rows_of g) k ≡ Some q) × (q.first ≡ r.first) × (q.last ≡ r.last) × (is_row_between sides r ≡ true → is_row_between sides q ≡ true)
  row_was r e = elim (w.rows k) [
    | inl f ↦
        let b = row_before sides (row_at (rows_of g) k) r (sym f ∙ e) in (
          b.0,
          b.1,
          ap (λ (c : Current). c.first) b.3,
          ap (λ (c : Current). c.last) b.3,
          λ t. absurd (true≢false (sym t ∙ ap (is_row_between sides) (sym b.3) ∙ relabelled_apart sides differ b.0)),
        )
    | inr f ↦ (r, sym f ∙ e, refl, refl, λ t. t)
  ]

  pub visited_more : (i : ℕ) → Contains (keys ++ k ∷ []) i → row_at (set rows k (row_after sides (row_at rows k))) i ≡ row_after sides (row_at (rows_of g) i)
  visited_more i c = elim (next_cases i) [
    | inl u ↦ u.1 ∙ next_row ∙ ap (λ (n : ℕ). row_after sides (row_at (rows_of g) n)) (sym u.0)
    | inr u ↦ elim (Contains-push_cases keys k i c) [
      | inl d ↦ u.1 ∙ w.visited i d
      | inr e ↦ absurd (u.0 (sym e))
    ]
  ]

  pub rows_more : (i : ℕ) → (row_at (set rows k (row_after sides (row_at rows k))) i ≡ row_after sides (row_at (rows_of g) i))
      ⊎ (row_at (set rows k (row_after sides (row_at rows k))) i ≡ row_at (rows_of g) i)
  rows_more i = elim (next_cases i) [
    | inl u ↦ inl (u.1 ∙ next_row ∙ ap (λ (n : ℕ). row_after sides (row_at (rows_of g) n)) (sym u.0))
    | inr u ↦ elim (w.rows i) [
      | inl e ↦ inl (u.1 ∙ e)
      | inr e ↦ inr (u.1 ∙ e)
    ]
  ]

  count_more : length (set rows k (row_after sides (row_at rows k))) ≡ length (rows_of g)
  count_more = length-set rows k (row_after sides (row_at rows k)) ∙ w.count

  -- ---- no edge has the key any more

  module _ (none : row_at rows k ≡ None) where
    none_stays : (j : ℕ) → row_at (set rows k (row_after sides (row_at rows k))) j ≡ row_at rows j
    none_stays j = elim (next_cases j) [
      | inl u ↦ u.1 ∙ ap (row_after sides) none ∙ sym (ap (row_at rows) u.0 ∙ none)
      | inr u ↦ u.1
    ]

    pub visit_none : IsSettling sides low (keys ++ k ∷ []) g (set rows k (row_after sides (row_at rows k))) edges touched
    visit_none = record {
      count = count_more;
      edge_count = w.edge_count;
      visited = visited_more;
      rows = rows_more;
      edges = w.edges;
      of_edges = λ i r e. w.of_edges i r (sym (none_stays i) ∙ e);
      of_rows = λ i l e. let o = w.of_rows i l e in (o.0, none_stays (edge_at edges i).key ∙ o.1, o.2);
      touched = λ i r e f. w.touched i r e (sym (none_stays i) ∙ f);
      only = w.only;
    }

  -- ---- it is an edge that is not between loser and winner

  module _ (r : Current) (some : row_at rows k ≡ Some r) (apart : is_row_between sides r ≡ false) where
    next_is : row_after sides (row_at rows k) ≡ Some (relabel_row sides r)
    next_is = ap (row_after sides) some ∙ ap (λ (b : Bool). cond b None (Some (relabel_row sides r))) apart

    of_edges_other : (i : ℕ) (q : Current) → row_at (set rows k (row_after sides (row_at rows k))) i ≡ Some q → IsOfEdge edges i q
    of_edges_other i q e = elim (next_cases i) [
      | inl u ↦
          let same : relabel_row sides r ≡ q = same_Some _ _ (sym next_is ∙ sym u.1 ∙ e) in
          let known = w.of_edges i r (ap (row_at rows) u.0 ∙ some) in
          subst (IsOfEdge edges i) same (record { id = known.id; key = known.key; high = known.high })
      | inr u ↦ w.of_edges i q (sym u.1 ∙ e)
    ]

    of_rows_other : (i : ℕ) → i < length edges → (edge_at edges i).high ≡ never
        → (q : Current) × (row_at (set rows k (row_after sides (row_at rows k))) (edge_at edges i).key ≡ Some q) × (q.id ≡ i)
    of_rows_other i l e =
        let o = w.of_rows i l e in
        elim (next_cases (edge_at edges i).key) [
          | inl u ↦
              let same : r ≡ o.0 = same_Some _ _ (sym some ∙ ap (row_at rows) (sym u.0) ∙ o.1) in
              (relabel_row sides r, u.1 ∙ next_is, ap (λ (c : Current). c.id) same ∙ o.2)
          | inr u ↦ (o.0, u.1 ∙ o.1, o.2)
        ]

    touched_other : (i : ℕ) (q : Current) → row_at (rows_of g) i ≡ Some q → row_at (set rows k (row_after sides (row_at rows k))) i ≡ None
        → Contains touched (node_at g.nodes q.first) × Contains touched (node_at g.nodes q.last)
    touched_other i q e f = elim (next_cases i) [
      | inl u ↦ absurd (none-some _ (sym f ∙ u.1 ∙ next_is))
      | inr u ↦ w.touched i q e (sym u.1 ∙ f)
    ]

    pub visit_other : IsSettling sides low (keys ++ k ∷ []) g (set rows k (row_after sides (row_at rows k))) edges touched
    visit_other = record {
      count = count_more;
      edge_count = w.edge_count;
      visited = visited_more;
      rows = rows_more;
      edges = w.edges;
      of_edges = of_edges_other;
      of_rows = of_rows_other;
      touched = touched_other;
      only = w.only;
    }

  -- ---- it is one between them

  module _ (small : low < never) (r : Current) (some : row_at rows k ≡ Some r) (between : is_row_between sides r ≡ true) where
    gone : row_after sides (row_at rows k) ≡ None
    gone = ap (row_after sides) some ∙ ap (λ (b : Bool). cond b None (Some (relabel_row sides r))) between

    own : IsOfEdge edges k r
    own = w.of_edges k r some

    abbrev edges_next : List ForestEdge
    edges_next = set edges r.id (ended low (edge_at edges r.id))

    edge_cases : (i : ℕ) → ((i ≡ r.id) × (edge_at edges_next i ≡ ended low (edge_at edges r.id))) ⊎ ((i ≢ r.id) × (edge_at edges_next i ≡ edge_at edges i))
    edge_cases i = set_cases edges r.id i (ended low (edge_at edges r.id)) _ own.id

    edge_count_next : length edges_next ≡ length edges
    edge_count_next = length-set edges r.id (ended low (edge_at edges r.id))

    edges_between : (i : ℕ) → i < length edges_next
        → (edge_at edges_next i ≡ edge_at g.edges.items i) ⊎ (((edge_at g.edges.items i).high ≡ never) × (edge_at edges_next i ≡ ended low (edge_at g.edges.items i)))
    edges_between i l = elim (edge_cases i) [
      | inl u ↦ elim (w.edges r.id own.id) [
        | inl e ↦ inr (
          ap (λ (n : ℕ). (edge_at g.edges.items n).high) u.0 ∙ ap (λ (c : ForestEdge). c.high) (sym e) ∙ own.high,
          u.1 ∙ ap (ended low) e ∙ ap (λ (n : ℕ). ended low (edge_at g.edges.items n)) (sym u.0),
        )
        | inr e ↦ absurd (omega (arith, small, ap (λ (c : ForestEdge). c.high) e.1, own.high))
      ]
      | inr u ↦ elim (w.edges i (omega (arith, l, edge_count_next))) [
        | inl e ↦ inl (u.1 ∙ e)
        | inr e ↦ inr (e.0, u.1 ∙ e.1)
      ]
    ]

    of_edges_between : (i : ℕ) (q : Current) → row_at (set rows k (row_after sides (row_at rows k))) i ≡ Some q → IsOfEdge edges_next i q
    of_edges_between i q e = elim (next_cases i) [
      | inl u ↦ absurd (none-some _ (sym gone ∙ sym u.1 ∙ e))
      | inr u ↦
          let known = w.of_edges i q (sym u.1 ∙ e) in
          elim (edge_cases q.id) [
            | inl v ↦ absurd (u.0 (sym known.key ∙ ap (λ (n : ℕ). (edge_at edges n).key) v.0 ∙ own.key))
            | inr v ↦ record {
              id = omega (arith, known.id, edge_count_next);
              key = ap (λ (c : ForestEdge). c.key) v.1 ∙ known.key;
              high = ap (λ (c : ForestEdge). c.high) v.1 ∙ known.high;
            }
          ]
    ]

    of_rows_between : (i : ℕ) → i < length edges_next → (edge_at edges_next i).high ≡ never
        → (q : Current) × (row_at (set rows k (row_after sides (row_at rows k))) (edge_at edges_next i).key ≡ Some q) × (q.id ≡ i)
    of_rows_between i l e = elim (edge_cases i) [
      | inl u ↦ absurd (omega (arith, small, ap (λ (c : ForestEdge). c.high) u.1, e))
      | inr u ↦
          let o = w.of_rows i (omega (arith, l, edge_count_next)) (sym (ap (λ (c : ForestEdge). c.high) u.1) ∙ e) in
          elim (next_cases (edge_at edges i).key) [
            | inl v ↦
                let same : r ≡ o.0 = same_Some _ _ (sym some ∙ ap (row_at rows) (sym v.0) ∙ o.1) in
                absurd (u.0 (sym o.2 ∙ ap (λ (c : Current). c.id) (sym same)))
            | inr v ↦ (o.0, ap (λ (c : ForestEdge). row_at (set rows k (row_after sides (row_at rows k))) c.key) u.1 ∙ v.1 ∙ o.1, o.2)
          ]
    ]

    abbrev nodes_next : List ℕ
    nodes_next = node_at g.nodes r.first ∷ node_at g.nodes r.last ∷ []

    touched_between : (i : ℕ) (q : Current) → row_at (rows_of g) i ≡ Some q → row_at (set rows k (row_after sides (row_at rows k))) i ≡ None
        → Contains (touched ++ nodes_next) (node_at g.nodes q.first) × Contains (touched ++ nodes_next) (node_at g.nodes q.last)
    touched_between i q e f = elim (next_cases i) [
      | inl u ↦
          let was = row_was r some in
          let same : was.0 ≡ q = same_Some _ _ (sym was.1 ∙ ap (row_at (rows_of g)) (sym u.0) ∙ e) in
          let first : node_at g.nodes r.first ≡ node_at g.nodes q.first = ap (node_at g.nodes) (sym was.2 ∙ ap (λ (c : Current). c.first) same) in
          let last : node_at g.nodes r.last ≡ node_at g.nodes q.last = ap (node_at g.nodes) (sym was.3 ∙ ap (λ (c : Current). c.last) same) in (
            subst (Contains (touched ++ nodes_next)) first (Contains-append_right touched nodes_next _ (in_head (node_at g.nodes r.first) (node_at g.nodes r.last ∷ []))),
            subst (Contains (touched ++ nodes_next)) last
                (Contains-append_right touched nodes_next _ (in_tail (node_at g.nodes r.first) (node_at g.nodes r.last ∷ []) _ (in_head (node_at g.nodes r.last) []))),
          )
      | inr u ↦
          let before = w.touched i q e (sym u.1 ∙ f) in
          (Contains-append_left touched nodes_next _ before.0, Contains-append_left touched nodes_next _ before.1)
    ]

    only_between : (n : ℕ) → Contains (touched ++ nodes_next) n → IsEndBetween sides g n
    only_between n c = elim (Contains-append_cases touched nodes_next n c) [
      | inl d ↦ w.only n d
      | inr d ↦
          let was = row_was r some in (
            k,
            was.0,
            was.1,
            was.4 between,
            elim (in_cases (node_at g.nodes r.first) (node_at g.nodes r.last ∷ []) n d) [
              | inl e ↦ inl (ap (node_at g.nodes) was.2 ∙ e)
              | inr t ↦ elim (in_cases (node_at g.nodes r.last) [] n t) [
                | inl e ↦ inr (ap (node_at g.nodes) was.3 ∙ e)
                | inr none ↦ absurd (in_none n none)
              ]
            ],
          )
    ]

    pub visit_between : IsSettling sides low (keys ++ k ∷ []) g (set rows k (row_after sides (row_at rows k))) (set edges r.id (ended low (edge_at edges r.id)))
        (touched ++ node_at g.nodes r.first ∷ node_at g.nodes r.last ∷ [])
    visit_between = record {
      count = count_more;
      edge_count = edge_count_next ∙ w.edge_count;
      visited = visited_more;
      rows = rows_more;
      edges = edges_between;
      of_edges = of_edges_between;
      of_rows = of_rows_between;
      touched = touched_between;
      only = only_between;
    }

  -- ---- together

  pub visit : low < never → (x : Option Current) → row_at rows k ≡ x
      → IsSettling sides low (keys ++ k ∷ []) g (set rows k (row_after sides (row_at rows k))) (edges_after sides low x edges) (touched ++ nodes_after sides g.nodes x)
  visit small None e =
      subst (IsSettling sides low (keys ++ k ∷ []) g (set rows k (row_after sides (row_at rows k))) edges) (sym (append-nil touched)) (visit_none e)
  visit small (Some r) e = by (is_row_between sides r) refl
    where
      by : (b : Bool) → is_row_between sides r ≡ b
          → IsSettling sides low (keys ++ k ∷ []) g (set rows k (row_after sides (row_at rows k))) (cond b (set edges r.id (ended low (edge_at edges r.id))) edges)
          (touched ++ cond b (node_at g.nodes r.first ∷ node_at g.nodes r.last ∷ []) [])
      by true between = visit_between small r e between
      by false apart =
          subst (IsSettling sides low (keys ++ k ∷ []) g (set rows k (row_after sides (row_at rows k))) edges) (sym (append-nil touched)) (visit_other r e apart)

-- a key gives at most two nodes
pub nodes_few : (sides : Sides) (nodes : Nodes) (x : Option Current) → length (nodes_after sides nodes x) ≤ 2
nodes_few sides nodes None = omega arith
nodes_few sides nodes (Some r) = by (is_row_between sides r)
  where
    by : (b : Bool) → length (cond b (node_at nodes r.first ∷ node_at nodes r.last ∷ []) []) ≤ 2
    by true = omega arith
    by false = omega arith

-- two where its edge ends, and none otherwise
nodes_counted : (sides : Sides) (nodes : Nodes) (rows : List (Option Current)) (i : ℕ) → length (nodes_after sides nodes (row_at rows i)) ≤ cond (is_ending sides rows i) 2 0
nodes_counted sides nodes rows i = by (row_at rows i)
  where
    some : (b : Bool) (x y : ℕ) → length (cond b (x ∷ y ∷ []) []) ≤ cond b 2 0
    some true x y = omega arith
    some false x y = omega arith

    by : (row : Option Current) → length (nodes_after sides nodes row) ≤ cond (elim row [ None ↦ false | Some r ↦ is_row_between sides r ]) 2 0
    by None = omega arith
    by (Some r) = some (is_row_between sides r) (node_at nodes r.first) (node_at nodes r.last)

-- a key that ends an edge when it is visited did so before the step
ending_before : (sides : Sides) (x : Option Current) → sides.winner ≢ sides.loser
    → elim (row_after sides x) [ None ↦ false | Some r ↦ is_row_between sides r ] ≡ false
ending_before sides None differ = refl
ending_before sides (Some r) differ = by (is_row_between sides r)
  where
    by : (b : Bool) → elim (cond b None (Some (relabel_row sides r))) [ None ↦ false | Some r ↦ is_row_between sides r ] ≡ false
    by true = refl
    by false = relabelled_apart sides differ r

pub count_next : (sides : Sides) (low : ℕ) (keys : List ℕ) (i : ℕ) (g : Growth) (nodes : Nodes) (rows : List (Option Current)) (edges : List ForestEdge) (touched : List ℕ)
    → IsSettling sides low (take i keys) g rows edges touched → sides.winner ≢ sides.loser → i < length keys
    → length touched ≤ 2 * count_by (is_ending sides (rows_of g)) (take i keys)
    → length touched + length (nodes_after sides nodes (row_at rows (get_or keys i 0))) ≤ 2 * count_by (is_ending sides (rows_of g)) (take (i + 1) keys)
count_next sides low keys i g nodes rows edges touched w differ short few = by (is_ending sides (rows_of g) k) refl
  where
    k : ℕ
    k = get_or keys i 0

    same : is_ending sides (rows_of g) k ≡ false → is_ending sides rows k ≡ false
    same f = elim (w.rows k) [
      | inl e ↦ ap (λ (x : Option Current). elim x [ None ↦ false | Some r ↦ is_row_between sides r ]) e ∙ ending_before sides (row_at (rows_of g) k) differ
      | inr e ↦ ap (λ (x : Option Current). elim x [ None ↦ false | Some r ↦ is_row_between sides r ]) e ∙ f
    ]

    by : (b : Bool) → is_ending sides (rows_of g) k ≡ b → length touched + length (nodes_after sides nodes (row_at rows k)) ≤ 2 * count_by (is_ending sides (rows_of g)) (take (i + 1) keys)
    by true e = omega (arith, few, nodes_few sides nodes (row_at rows k), count_by_more_yes (is_ending sides (rows_of g)) keys i 0 short e)
    by false e =
        omega (
          arith,
          few,
          nodes_counted sides nodes rows k,
          ap (λ (b : Bool). cond {A = ℕ} b 2 0) (same e),
          count_by_more_no (is_ending sides (rows_of g)) keys i 0 short e,
        )

-- what is counted of the first keys is no more than of all
pub count_all : (p : ℕ → Bool) (keys : List ℕ) (i : ℕ) → count_by p (take i keys) ≤ count_by p keys
count_all p keys i = sum_by-take-le (λ (k : ℕ). cond (p k) 1 0) keys i

-- one more key of a list is visited
pub visit_next : (sides : Sides) (low : ℕ) (keys : List ℕ) (i : ℕ) (g : Growth) (nodes : Nodes) (rows rows' : List (Option Current)) (edges edges' : List ForestEdge)
    (touched touched' : List ℕ) → IsSettling sides low (take i keys) g rows edges touched → sides.winner ≢ sides.loser → low < never
    → i < length keys → nodes ≡ g.nodes
    → rows' ≡ set rows (get_or keys i 0) (row_after sides (row_at rows (get_or keys i 0)))
    → edges' ≡ edges_after sides low (row_at rows (get_or keys i 0)) edges
    → touched' ≡ touched ++ nodes_after sides nodes (row_at rows (get_or keys i 0))
    → IsSettling sides low (take (i + 1) keys) g rows' edges' touched'
visit_next sides low keys i g nodes rows rows' edges edges' touched touched' w differ small short same er ee et =
    rw (er, ee, et, same)
    (subst (λ (ks : List ℕ). IsSettling sides low ks g (set rows k (row_after sides (row_at rows k))) (edges_after sides low (row_at rows k) edges) (touched ++ nodes_after sides g.nodes (row_at rows k)))
    (sym (ap (λ (n : ℕ). take n keys) (add-one i) ∙ take-suc keys i 0 short)) (visit sides low (take i keys) g rows edges touched w differ k small (row_at rows k) refl))
  where
    k : ℕ
    k = get_or keys i 0
