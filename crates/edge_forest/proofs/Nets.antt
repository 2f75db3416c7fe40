-- An edge is taken out of those that have not ended, or put to them.
use Rattle.std.proofs.Common.{◌≡◌, ◌≢◌, ◌⊎◌, inl, inr, ℕ, zero, suc, ◌+◌, ◌-◌, ◌*◌, ◌<◌, ◌≤◌, ◌==◌, nat_eq, Bool, true, false, cond, List, [], ◌∷◌, ◌++◌, sum_by, length, get_or, set, take, Option, Some, None, refl, sym, ap, ◌∙◌, subst, arith}
use Rattle.std.specs.Prelude.{unwrap_or, Contains}
use Rattle.std.proofs.lemmas.Bool.{cases_eq, eq-eqb, eqb-true, ne_eqb}
use Rattle.std.proofs.lemmas.List.{get_or-set_same, get_or-set_other, get_or_default, length-set}
use Rattle.std.proofs.Math.Seq.{take-suc, take_all}
use Rattle.std.proofs.lemmas.List.Elements.{Contains-append_cases}
use Rattle.std.proofs.lemmas.List.Sums.{sum_by-cons, sum_by-set}
use Rattle.lemmas.proofs.Members.{in_cases, in_none}
use Rattle.edge_forest.specs.declared.nodes.Nodes.{Nodes}
use Rattle.edge_forest.specs.declared.net.Current.{Current}
use Rattle.edge_forest.specs.Nodes.{node_at}
use Rattle.edge_forest.specs.declared.net.Net.{Net}
use Rattle.edge_forest.specs.Net.{row_at, key_at, row_ends, HasEnd, IsNetOf, IsNet, tip_end, NoneBesides, IsBesides, IsMeeting}
use Rattle.edge_forest.specs.Rows.{joined_row}

-- ---- lists

pub some_same : {A : Type 0} {x y : A} → Some x ≡ Some y → x ≡ y
some_same {A} {x} {y} e = ap (λ (o : Option A). unwrap_or o x) e

pub none_some : {A : Type 0} {x : A} → None ≡ Some x → ⊥
none_some e = absurd cc

-- a place that was set reads as what it was set to, and another as before
pub set_reads : {A : Type 0} (xs : List A) (i j : ℕ) (x d : A) → i < length xs → ((j ≡ i) × (get_or (set xs i x) j d ≡ x)) ⊎ ((j ≢ i) × (get_or (set xs i x) j d ≡ get_or xs j d))
set_reads xs i j x d l = elim (cases_eq j i) [
  | inl e ↦ inl (e, ap (λ (n : ℕ). get_or (set xs i x) n d) e ∙ get_or-set_same xs i x d l)
  | inr ne ↦ inr (ne, get_or-set_other xs i j x d ne)
]

-- a read that gives something is within the list
pub read_within : {A : Type 0} (xs : List (Option A)) (i : ℕ) (x : A) → get_or xs i None ≡ Some x → i < length xs
read_within [] i x e = absurd cc
read_within (y ∷ xs) zero x e = omega arith
read_within (y ∷ xs) (suc i) x e = omega (arith, read_within xs i x e)

-- one for a place, and nothing for another
abbrev pub at_place : ℕ → ℕ → ℕ
at_place n g = cond (n == g) 1 0

at_same : (n g : ℕ) → g ≡ n → at_place n g ≡ 1
at_same n g e = ap (λ (b : Bool). cond {A = ℕ} b 1 0) (eq-eqb n g (sym e))

at_other : (n g : ℕ) → (g ≢ n) → at_place n g ≡ 0
at_other n g ne = ap (λ (b : Bool). cond {A = ℕ} b 1 0) (ne_eqb n g (λ e. ne (sym e)))

-- one less at a place, and one more
lowered : (xs : List ℕ) (n g : ℕ) → n < length xs → 1 ≤ get_or xs n 0 → get_or (set xs n (get_or xs n 0 - 1)) g 0 + at_place n g ≡ get_or xs g 0
lowered xs n g l some = elim (set_reads xs n g (get_or xs n 0 - 1) 0 l) [
  | inl e ↦ omega (arith, e.1, at_same n g e.0, some, ap (λ (m : ℕ). get_or xs m 0) e.0)
  | inr e ↦ omega (arith, e.1, at_other n g e.0)
]

raised : (xs : List ℕ) (n g : ℕ) → n < length xs → get_or (set xs n (get_or xs n 0 + 1)) g 0 ≡ get_or xs g 0 + at_place n g
raised xs n g l = elim (set_reads xs n g (get_or xs n 0 + 1) 0 l) [
  | inl e ↦ omega (arith, e.1, at_same n g e.0, ap (λ (m : ℕ). get_or xs m 0) e.0)
  | inr e ↦ omega (arith, e.1, at_other n g e.0)
]

-- ---- out

module _ (nodes : Nodes) (rows : List (Option Current)) (ends : List (Option ℕ)) (counts : List ℕ) (w : IsNetOf nodes rows ends counts)
    (i : ℕ) (r : Current) (e : row_at rows i ≡ Some r) where
  abbrev n : ℕ
  n = node_at nodes r.first

  abbrev m : ℕ
  m = node_at nodes r.last

  pub row_within : i < length rows
  row_within = read_within rows i r e

  pub nodes_within : (node_at nodes r.first < length counts) × (node_at nodes r.last < length counts)
  nodes_within = (
    omega (arith, w.below r.first (w.first i r e).0, w.counts_count),
    omega (arith, w.below r.last (w.last i r e).0, w.counts_count),
  )

  -- its ends are counted
  counted : (g : ℕ) → g < length counts → at_place n g + at_place m g ≤ get_or counts g 0
  counted g l =
      omega (
        arith,
        w.counted g (omega (arith, l, w.counts_count)),
        sum_by-set (row_ends nodes g) rows i None None row_within,
        ap (row_ends nodes g) e,
      )

  pub first_counted : 1 ≤ get_or counts (node_at nodes r.first) 0
  first_counted = omega (arith, counted n nodes_within.0, at_same n n refl)

  abbrev pub less : List ℕ
  less = set counts (node_at nodes r.first) (get_or counts (node_at nodes r.first) 0 - 1)

  pub last_counted : 1 ≤ get_or (set counts (node_at nodes r.first) (get_or counts (node_at nodes r.first) 0 - 1)) (node_at nodes r.last) 0
  last_counted = omega (arith, counted m nodes_within.1, at_same m m refl, lowered counts n m nodes_within.0 first_counted)

  -- what is left keeps its ends
  other_ends : (x j : ℕ) (s : Current) → j ≢ i → key_at ends x ≡ Some j → key_at (set (set ends r.first None) r.last None) x ≡ Some j
  other_ends x j s ne k =
      elim (set_reads (set ends r.first None) r.last x None None (omega (arith, length-set ends r.first None, (w.last i r e).0))) [
        | inl u ↦ absurd (ne (some_same (sym k ∙ ap (key_at ends) u.0 ∙ (w.last i r e).1)))
        | inr u ↦ elim (set_reads ends r.first x None None (w.first i r e).0) [
          | inl v ↦ absurd (ne (some_same (sym k ∙ ap (key_at ends) v.0 ∙ (w.first i r e).1)))
          | inr v ↦ u.1 ∙ v.1 ∙ k
        ]
      ]

  -- and an end that is left is that of another edge
  left_ends : (x j : ℕ) → key_at (set (set ends r.first None) r.last None) x ≡ Some j → (x ≢ r.first) × (x ≢ r.last) × (key_at ends x ≡ Some j)
  left_ends x j k =
      elim (set_reads (set ends r.first None) r.last x None None (omega (arith, length-set ends r.first None, (w.last i r e).0))) [
        | inl u ↦ absurd (none_some (sym u.1 ∙ k))
        | inr u ↦ elim (set_reads ends r.first x None None (w.first i r e).0) [
          | inl v ↦ absurd (none_some (sym v.1 ∙ sym u.1 ∙ k))
          | inr v ↦ (v.0, u.0, sym v.1 ∙ sym u.1 ∙ k)
        ]
      ]

  left_row : (j : ℕ) (s : Current) → row_at (set rows i None) j ≡ Some s → (j ≢ i) × (row_at rows j ≡ Some s)
  left_row j s k = elim (set_reads rows i j None None row_within) [
    | inl u ↦ absurd (none_some (sym u.1 ∙ k))
    | inr u ↦ (u.0, sym u.1 ∙ k)
  ]

  ends_length : length (set (set ends r.first None) r.last None) ≡ length ends
  ends_length = length-set (set ends r.first None) r.last None ∙ length-set ends r.first None

  pub out_net : IsNetOf nodes (set rows i None) (set (set ends r.first None) r.last None)
      (set (set counts (node_at nodes r.first) (get_or counts (node_at nodes r.first) 0 - 1)) (node_at nodes r.last)
      (get_or (set counts (node_at nodes r.first) (get_or counts (node_at nodes r.first) 0 - 1)) (node_at nodes r.last) 0 - 1))
  out_net = record {
    ends_count = omega (arith, ends_length, length-set rows i None, w.ends_count);
    nodes_count = omega (arith, ends_length, w.nodes_count);
    counts_count = omega (arith, length-set less m (get_or less m 0 - 1), length-set counts n (get_or counts n 0 - 1), w.counts_count);
    below = λ x l. w.below x (omega (arith, l, ends_length));
    first = λ j s k. let u = left_row j s k in let f = w.first j s u.1 in (omega (arith, f.0, ends_length), other_ends s.first j s u.0 f.1);
    last = λ j s k. let u = left_row j s k in let f = w.last j s u.1 in (omega (arith, f.0, ends_length), other_ends s.last j s u.0 f.1);
    apart = λ j s k. w.apart j s (left_row j s k).1;
    keyed = λ x j k. has x j (left_ends x j k);
    counted = λ g l.
        let k : g < length counts = omega (arith, l, w.counts_count) in
        omega (
          arith,
          w.counted g l,
          sum_by-set (row_ends nodes g) rows i None None row_within,
          ap (row_ends nodes g) e,
          lowered counts n g nodes_within.0 first_counted,
          lowered less m g (omega (arith, nodes_within.1, length-set counts n (get_or counts n 0 - 1))) last_counted,
        );
  }
    where
      has : (x j : ℕ) → (x ≢ r.first) × (x ≢ r.last) × (key_at ends x ≡ Some j) → HasEnd (set rows i None) j x
      has x j k =
          let h = w.keyed x j k.2 in
          elim (set_reads rows i j None None row_within) [
            | inl u ↦
                let same : r ≡ h.0 = some_same (sym e ∙ ap (row_at rows) (sym u.0) ∙ h.1) in
                absurd (elim h.2 [
                  | inl f ↦ k.0 (sym f ∙ ap (λ (s : Current). s.first) (sym same))
                  | inr f ↦ k.1 (sym f ∙ ap (λ (s : Current). s.last) (sym same))
                ])
            | inr u ↦ (h.0, u.1 ∙ h.1, h.2)
          ]

  -- what is known where a row is taken out, with the counts as they are computed
  pub last_counted_by : (a b : ℕ) (one : List ℕ) → a ≡ node_at nodes r.first → one ≡ set counts a (get_or counts a 0 - 1) → b ≡ node_at nodes r.last → 1 ≤ get_or one b 0
  last_counted_by a b one ea eo eb = rw (eo, eb, ea) last_counted

  pub out_net_by : (a b : ℕ) (one two : List ℕ) → a ≡ node_at nodes r.first → one ≡ set counts a (get_or counts a 0 - 1) → b ≡ node_at nodes r.last → two ≡ set one b (get_or one b 0 - 1)
      → IsNetOf nodes (set rows i None) (set (set ends r.first None) r.last None) two
  out_net_by a b one two ea eo eb et = rw (et, eo, eb, ea) out_net

-- ---- in

module _ (nodes : Nodes) (rows : List (Option Current)) (ends : List (Option ℕ)) (counts : List ℕ) (w : IsNetOf nodes rows ends counts)
    (i : ℕ) (r : Current) (l : i < length rows) (free : row_at rows i ≡ None)
    (lf : r.first < length ends) (ff : key_at ends r.first ≡ None) (ll : r.last < length ends) (fl : key_at ends r.last ≡ None) (apart : r.first ≢ r.last) where
  pub new_nodes_within : (node_at nodes r.first < length counts) × (node_at nodes r.last < length counts)
  new_nodes_within = (omega (arith, w.below r.first lf, w.counts_count), omega (arith, w.below r.last ll, w.counts_count))

  -- a count is at most two for each row
  counts_small : (g : ℕ) (rows : List (Option Current)) → sum_by (row_ends nodes g) rows ≤ 2 * length rows
  counts_small g [] = omega arith
  counts_small g (row ∷ rows) = omega (arith, counts_small g rows, sum_by-cons (row_ends nodes g) row rows, two row)
    where
      two : (row : Option Current) → row_ends nodes g row ≤ 2
      two None = omega arith
      two (Some s) = omega (arith, one (node_at nodes s.first == g), one (node_at nodes s.last == g))
        where
          one : (b : Bool) → cond {A = ℕ} b 1 0 ≤ 1
          one true = omega arith
          one false = omega arith

  pub count_small : (g : ℕ) → g < length counts → get_or counts g 0 ≤ 2 * length rows
  count_small g k = omega (arith, w.counted g (omega (arith, k, w.counts_count)), counts_small g rows)

  abbrev more : List ℕ
  more = set counts (node_at nodes r.first) (get_or counts (node_at nodes r.first) 0 + 1)

  at_small : (n g : ℕ) → at_place n g ≤ 1
  at_small n g = by (n == g)
    where
      by : (b : Bool) → cond {A = ℕ} b 1 0 ≤ 1
      by true = omega arith
      by false = omega arith

  pub next_small : get_or (set counts (node_at nodes r.first) (get_or counts (node_at nodes r.first) 0 + 1)) (node_at nodes r.last) 0 ≤ 2 * length rows + 1
  next_small = omega (
    arith,
    raised counts (node_at nodes r.first) (node_at nodes r.last) new_nodes_within.0,
    count_small (node_at nodes r.last) new_nodes_within.1,
    at_small (node_at nodes r.first) (node_at nodes r.last),
  )

  abbrev new_ends : List (Option ℕ)
  new_ends = set (set ends r.first (Some i)) r.last (Some i)

  new_ends_length : length (set (set ends r.first (Some i)) r.last (Some i)) ≡ length ends
  new_ends_length = length-set (set ends r.first (Some i)) r.last (Some i) ∙ length-set ends r.first (Some i)

  last_inside : r.last < length (set ends r.first (Some i))
  last_inside = omega (arith, length-set ends r.first (Some i), ll)

  -- an end of another edge is not one of the new one
  ends_kept : (x j : ℕ) → key_at ends x ≡ Some j → key_at new_ends x ≡ Some j
  ends_kept x j k = elim (set_reads (set ends r.first (Some i)) r.last x (Some i) None last_inside) [
    | inl u ↦ absurd (none_some (sym fl ∙ ap (key_at ends) (sym u.0) ∙ k))
    | inr u ↦ elim (set_reads ends r.first x (Some i) None lf) [
      | inl v ↦ absurd (none_some (sym ff ∙ ap (key_at ends) (sym v.0) ∙ k))
      | inr v ↦ u.1 ∙ v.1 ∙ k
    ]
  ]

  first_read : key_at new_ends r.first ≡ Some i
  first_read = get_or-set_other (set ends r.first (Some i)) r.last r.first (Some i) None apart ∙ get_or-set_same ends r.first (Some i) None lf

  last_read : key_at new_ends r.last ≡ Some i
  last_read = get_or-set_same (set ends r.first (Some i)) r.last (Some i) None last_inside

  pub in_net : IsNetOf nodes (set rows i (Some r)) (set (set ends r.first (Some i)) r.last (Some i))
      (set (set counts (node_at nodes r.first) (get_or counts (node_at nodes r.first) 0 + 1)) (node_at nodes r.last)
      (get_or (set counts (node_at nodes r.first) (get_or counts (node_at nodes r.first) 0 + 1)) (node_at nodes r.last) 0 + 1))
  in_net = record {
    ends_count = omega (arith, new_ends_length, length-set rows i (Some r), w.ends_count);
    nodes_count = omega (arith, new_ends_length, w.nodes_count);
    counts_count = omega (
      arith,
      length-set more (node_at nodes r.last) (get_or more (node_at nodes r.last) 0 + 1),
      length-set counts (node_at nodes r.first) (get_or counts (node_at nodes r.first) 0 + 1),
      w.counts_count,
    );
    below = λ x k. w.below x (omega (arith, k, new_ends_length));
    first = λ j s k. elim (set_reads rows i j (Some r) None l) [
      | inl u ↦ firsts j s u.0 (some_same (sym u.1 ∙ k))
      | inr u ↦ let f = w.first j s (sym u.1 ∙ k) in (omega (arith, f.0, new_ends_length), ends_kept s.first j f.1)
    ];
    last = λ j s k. elim (set_reads rows i j (Some r) None l) [
      | inl u ↦ lasts j s u.0 (some_same (sym u.1 ∙ k))
      | inr u ↦ let f = w.last j s (sym u.1 ∙ k) in (omega (arith, f.0, new_ends_length), ends_kept s.last j f.1)
    ];
    apart = λ j s k. elim (set_reads rows i j (Some r) None l) [
      | inl u ↦ subst (λ (s : Current). s.first ≢ s.last) (some_same (sym u.1 ∙ k)) apart
      | inr u ↦ w.apart j s (sym u.1 ∙ k)
    ];
    keyed = λ x j k. has x j k;
    counted = λ g k.
        omega (
          arith,
          w.counted g k,
          sum_by-set (row_ends nodes g) rows i (Some r) None l,
          ap (row_ends nodes g) free,
          raised counts (node_at nodes r.first) g new_nodes_within.0,
          raised more (node_at nodes r.last) g
              (omega (arith, new_nodes_within.1, length-set counts (node_at nodes r.first) (get_or counts (node_at nodes r.first) 0 + 1))),
        );
  }
    where
      firsts : (j : ℕ) (s : Current) → j ≡ i → r ≡ s → (s.first < length new_ends) × (key_at new_ends s.first ≡ Some j)
      firsts j s e f =
          subst (λ (s : Current). (s.first < length new_ends) × (key_at new_ends s.first ≡ Some j)) f
          (omega (arith, lf, new_ends_length), first_read ∙ ap (λ (n : ℕ). Some n) (sym e))

      lasts : (j : ℕ) (s : Current) → j ≡ i → r ≡ s → (s.last < length new_ends) × (key_at new_ends s.last ≡ Some j)
      lasts j s e f =
          subst (λ (s : Current). (s.last < length new_ends) × (key_at new_ends s.last ≡ Some j)) f
          (omega (arith, ll, new_ends_length), last_read ∙ ap (λ (n : ℕ). Some n) (sym e))

      has : (x j : ℕ) → key_at new_ends x ≡ Some j → HasEnd (set rows i (Some r)) j x
      has x j k = elim (set_reads (set ends r.first (Some i)) r.last x (Some i) None last_inside) [
        | inl u ↦ here j (some_same (sym u.1 ∙ k)) (inr (sym u.0))
        | inr u ↦ elim (set_reads ends r.first x (Some i) None lf) [
          | inl v ↦ here j (some_same (sym v.1 ∙ sym u.1 ∙ k)) (inl (sym v.0))
          | inr v ↦ there j (w.keyed x j (sym v.1 ∙ sym u.1 ∙ k))
        ]
      ]
        where
          here : (j : ℕ) → i ≡ j → (r.first ≡ x) ⊎ (r.last ≡ x) → HasEnd (set rows i (Some r)) j x
          here j e t = (r, ap (row_at (set rows i (Some r))) (sym e) ∙ get_or-set_same rows i (Some r) None l, t)

          there : (j : ℕ) → HasEnd rows j x → HasEnd (set rows i (Some r)) j x
          there j h = elim (set_reads rows i j (Some r) None l) [
            | inl u ↦ absurd (none_some (sym free ∙ ap (row_at rows) (sym u.0) ∙ h.1))
            | inr u ↦ (h.0, u.1 ∙ h.1, h.2)
          ]

  -- what is known where a row is put in, with the counts as they are computed
  pub first_small_by : (a : ℕ) → a ≡ node_at nodes r.first → get_or counts a 0 ≤ 2 * length rows
  first_small_by a ea = rw ea (count_small (node_at nodes r.first) new_nodes_within.0)

  pub next_small_by : (a b : ℕ) (one : List ℕ) → a ≡ node_at nodes r.first → one ≡ set counts a (get_or counts a 0 + 1) → b ≡ node_at nodes r.last
      → get_or one b 0 ≤ 2 * length rows + 1
  next_small_by a b one ea eo eb = rw (eo, eb, ea) next_small

  pub in_net_by : (a b : ℕ) (one two : List ℕ) → a ≡ node_at nodes r.first → one ≡ set counts a (get_or counts a 0 + 1) → b ≡ node_at nodes r.last → two ≡ set one b (get_or one b 0 + 1)
      → IsNetOf nodes (set rows i (Some r)) (set (set ends r.first (Some i)) r.last (Some i)) two
  in_net_by a b one two ea eo eb et = rw (et, eo, eb, ea) in_net

-- ---- a join

-- places set to nothing read as nothing
module _ (xs : List (Option ℕ)) (a b c d : ℕ) (la : a < length xs) (lb : b < length xs) (lc : c < length xs) (ld : d < length xs) where
  abbrev four : List (Option ℕ)
  four = set (set (set (set xs a None) b None) c None) d None

  four_length : length four ≡ length xs
  four_length =
      length-set (set (set (set xs a None) b None) c None) d None ∙ length-set (set (set xs a None) b None) c None
      ∙ length-set (set xs a None) b None ∙ length-set xs a None

  -- what reads as nothing still does
  stays_none : (ys : List (Option ℕ)) (i x : ℕ) → i < length ys → get_or ys x None ≡ None → get_or (set ys i None) x None ≡ None
  stays_none ys i x l e = elim (set_reads ys i x None None l) [ inl u ↦ u.1 | inr u ↦ u.1 ∙ e ]

  gone_four : (x : ℕ) → (x ≡ a) ⊎ ((x ≡ b) ⊎ ((x ≡ c) ⊎ (x ≡ d))) → get_or (set (set (set (set xs a None) b None) c None) d None) x None ≡ None
  gone_four x t = elim t [
    | inl e ↦ last (third (second (ap (λ (n : ℕ). get_or (set xs a None) n None) e ∙ get_or-set_same xs a None None la)))
    | inr t ↦ elim t [
      | inl e ↦ last (third (ap (λ (n : ℕ). get_or (set (set xs a None) b None) n None) e ∙ get_or-set_same (set xs a None) b None None l1))
      | inr t ↦ elim t [
        | inl e ↦ last (ap (λ (n : ℕ). get_or (set (set (set xs a None) b None) c None) n None) e ∙ get_or-set_same (set (set xs a None) b None) c None None l2)
        | inr e ↦ ap (λ (n : ℕ). get_or four n None) e ∙ get_or-set_same (set (set (set xs a None) b None) c None) d None None l3
      ]
    ]
  ]
    where
      l1 : b < length (set xs a None)
      l1 = omega (arith, lb, length-set xs a None)

      l2 : c < length (set (set xs a None) b None)
      l2 = omega (arith, lc, length-set (set xs a None) b None, length-set xs a None)

      l3 : d < length (set (set (set xs a None) b None) c None)
      l3 = omega (arith, ld, length-set (set (set xs a None) b None) c None, length-set (set xs a None) b None, length-set xs a None)

      second : get_or (set xs a None) x None ≡ None → get_or (set (set xs a None) b None) x None ≡ None
      second e = stays_none (set xs a None) b x l1 e

      third : get_or (set (set xs a None) b None) x None ≡ None → get_or (set (set (set xs a None) b None) c None) x None ≡ None
      third e = stays_none (set (set xs a None) b None) c x l2 e

      last : get_or (set (set (set xs a None) b None) c None) x None ≡ None → get_or four x None ≡ None
      last e = stays_none (set (set (set xs a None) b None) c None) d x l3 e

  pub free_four : (ys : List (Option ℕ)) → ys ≡ set (set (set (set xs a None) b None) c None) d None → (x : ℕ)
      → (x ≡ a) ⊎ ((x ≡ b) ⊎ ((x ≡ c) ⊎ (x ≡ d))) → (x < length ys) × (get_or ys x None ≡ None)
  free_four ys e x t = rw e (within t, gone_four x t)
    where
      within : (x ≡ a) ⊎ ((x ≡ b) ⊎ ((x ≡ c) ⊎ (x ≡ d))) → x < length four
      within t = elim t [
        | inl e ↦ omega (arith, e, la, four_length)
        | inr t ↦ elim t [
          | inl e ↦ omega (arith, e, lb, four_length)
          | inr t ↦ elim t [ inl e ↦ omega (arith, e, lc, four_length) | inr e ↦ omega (arith, e, ld, four_length) ]
        ]
      ]

-- the ends of a joined row are ends of the two
pub joined_ends : (ea eb : Bool) (id : ℕ) (r s j : Current) → j ≡ joined_row ea eb id r s
    → ((j.first ≡ r.first) ⊎ ((j.first ≡ r.last) ⊎ ((j.first ≡ s.first) ⊎ (j.first ≡ s.last))))
    × ((j.last ≡ r.first) ⊎ ((j.last ≡ r.last) ⊎ ((j.last ≡ s.first) ⊎ (j.last ≡ s.last))))
joined_ends ea eb id r s j e = rw e (by ea eb)
  where
    by : (ea eb : Bool)
        → let j = joined_row ea eb id r s in
        ((j.first ≡ r.first) ⊎ ((j.first ≡ r.last) ⊎ ((j.first ≡ s.first) ⊎ (j.first ≡ s.last))))
        × ((j.last ≡ r.first) ⊎ ((j.last ≡ r.last) ⊎ ((j.last ≡ s.first) ⊎ (j.last ≡ s.last))))
    by true true = (inl refl, inr (inr (inl refl)))
    by true false = (inl refl, inr (inr (inr refl)))
    by false true = (inr (inr (inl refl)), inr (inl refl))
    by false false = (inr (inr (inr refl)), inr (inl refl))

-- two edges with different keys share no end
module _ (nodes : Nodes) (net : Net) (w : IsNet nodes net) (i j : ℕ) (r s : Current) (ne : i ≢ j)
    (one : row_at net.rows.items i ≡ Some r) (other : row_at net.rows.items j ≡ Some s) where
  keys_apart : (x y : ℕ) → key_at net.ends.items x ≡ Some i → key_at net.ends.items y ≡ Some j → x ≢ y
  keys_apart x y e f same = ne (some_same (sym e ∙ ap (key_at net.ends.items) same ∙ f))

  pub joined_apart : (ea eb : Bool) (id : ℕ) (n : Current) → n ≡ joined_row ea eb id r s → n.first ≢ n.last
  joined_apart ea eb id n e = rw e (by ea eb)
    where
      fr : key_at net.ends.items r.first ≡ Some i
      fr = (w.first i r one).1

      lr : key_at net.ends.items r.last ≡ Some i
      lr = (w.last i r one).1

      fs : key_at net.ends.items s.first ≡ Some j
      fs = (w.first j s other).1

      ls : key_at net.ends.items s.last ≡ Some j
      ls = (w.last j s other).1

      by : (ea eb : Bool) → (joined_row ea eb id r s).first ≢ (joined_row ea eb id r s).last
      by true true = keys_apart r.first s.first fr fs
      by true false = keys_apart r.first s.last fr ls
      by false true = λ e. keys_apart r.last s.first lr fs (sym e)
      by false false = λ e. keys_apart r.last s.last lr ls (sym e)

  -- the ends of both are free once both are out
  pub freed : (ends out : List (Option ℕ)) → ends ≡ set (set net.ends.items r.first None) r.last None → out ≡ set (set ends s.first None) s.last None
      → (x : ℕ) → (x ≡ r.first) ⊎ ((x ≡ r.last) ⊎ ((x ≡ s.first) ⊎ (x ≡ s.last))) → (x < length out) × (key_at out x ≡ None)
  freed ends out e f x t =
      free_four net.ends.items r.first r.last s.first s.last (w.first i r one).0 (w.last i r one).0 (w.first j s other).0 (w.last j s other).0 out
      (f ∙ ap (λ (xs : List (Option ℕ)). set (set xs s.first None) s.last None) e) x t

-- ---- a meeting

-- one more place
pub besides_more : (ends : List (Option ℕ)) (places : List ℕ) (besides : Option ℕ) (i d : ℕ) → i < length places → NoneBesides ends (take i places) besides
    → ((k : ℕ) → key_at ends (get_or places i d) ≡ Some k → besides ≡ Some k) → NoneBesides ends (take (i + 1) places) besides
besides_more ends places besides i d l none here y k among read =
    elim (Contains-append_cases (take i places) (get_or places i d ∷ []) y (subst (λ (ps : List ℕ). Contains ps y) split among)) [
      | inl o ↦ none y k o read
      | inr o ↦ elim (in_cases (get_or places i d) [] y o) [
        | inl e ↦ here k (ap (key_at ends) e ∙ read)
        | inr o ↦ absurd (in_none y o)
      ]
    ]
  where
    next : i + 1 ≡ suc i
    next = omega arith

    split : take (i + 1) places ≡ take i places ++ get_or places i d ∷ []
    split = ap (λ (k : ℕ). take k places) next ∙ take-suc places i d l

-- all places
pub besides_all : (ends : List (Option ℕ)) (places : List ℕ) (besides : Option ℕ) (i : ℕ) → length places ≤ i → NoneBesides ends (take i places) besides
    → NoneBesides ends places besides
besides_all ends places besides i l none = subst (λ (ps : List ℕ). NoneBesides ends ps besides) (take_all i places l) none

-- an end tells the key of a row
pub row_of_end : (nodes : Nodes) (net : Net) → IsNet nodes net → (ends : List (Option ℕ)) → ends ≡ net.ends.items → (x i : ℕ) → key_at ends x ≡ Some i
    → i < length net.rows.items
row_of_end nodes net w ends same x i e =
    let h = w.keyed x i (ap (λ (ks : List (Option ℕ)). key_at ks x) (sym same) ∙ e) in
    read_within net.rows.items i h.0 h.1

pub row_read : (rows : List (Option Current)) (i : ℕ) (v : Option Current) (r : Current) → i < length rows → v ≡ get_or rows i v → v ≡ Some r → row_at rows i ≡ Some r
row_read rows i v r l read e = get_or_default rows i None v l ∙ sym read ∙ e

-- what was found is a meeting, in the order of the keys
pub meeting_found : (nodes : Nodes) (net : Net) (places : List ℕ) → IsNet nodes net → (x i y j : ℕ) (r s : Current) → Contains places x → Contains places y
    → key_at net.ends.items x ≡ Some i → key_at net.ends.items y ≡ Some j → row_at net.rows.items i ≡ Some r → row_at net.rows.items j ≡ Some s
    → (e f : Bool) → ((r.last ≡ x → e ≡ true) × (e ≡ true → r.last ≡ x)) → ((s.last ≡ y → f ≡ true) × (f ≡ true → s.last ≡ y)) → i < j
    → IsMeeting net places (record { key = i; one = r; one_ends = e; other_key = j; other = s; other_ends = f })
meeting_found nodes net places w x i y j r s cx cy kx ky er es e f we wf less = record {
  less = less;
  one = er;
  other = es;
  one_there = subst (Contains places) (there x i r kx er e we) cx;
  other_there = subst (Contains places) (there y j s ky es f wf) cy;
}
  where
    there : (x i : ℕ) (r : Current) → key_at net.ends.items x ≡ Some i → row_at net.rows.items i ≡ Some r → (e : Bool) → ((r.last ≡ x → e ≡ true) × (e ≡ true → r.last ≡ x))
        → x ≡ tip_end e r
    there x i r k er true t = sym (t.1 refl)
    there x i r k er false t =
        let h = w.keyed x i k in
        let same : h.0 ≡ r = some_same (sym h.1 ∙ er) in
        elim h.2 [
          | inl u ↦ sym u ∙ ap (λ (c : Current). c.first) same
          | inr u ↦ let b = t.0 (sym (ap (λ (c : Current). c.last) same) ∙ u) in absurd cc
        ]

-- of two edges that were found, the one with the lesser key comes first
pub meeting_of : (nodes : Nodes) (net : Net) (places : List ℕ) → IsNet nodes net → (ends ends' : List (Option ℕ)) → ends ≡ net.ends.items → ends' ≡ net.ends.items
    → (x i y j : ℕ) (b c : Option ℕ) → IsBesides ends places b x i → IsBesides ends' places c y j
    → (r s : Current) (v u : Option Current) → v ≡ get_or net.rows.items i v → v ≡ Some r → u ≡ get_or net.rows.items j u → u ≡ Some s → i < j
    → IsMeeting net places (record { key = i; one = r; one_ends = nat_eq r.last x; other_key = j; other = s; other_ends = nat_eq s.last y })
meeting_of nodes net places w ends ends' same same' x i y j b c f g r s v u rv ev ru eu less =
    let kx : key_at net.ends.items x ≡ Some i = ap (λ (ks : List (Option ℕ)). key_at ks x) (sym same) ∙ f.key in
    let ky : key_at net.ends.items y ≡ Some j = ap (λ (ks : List (Option ℕ)). key_at ks y) (sym same') ∙ g.key in
    meeting_found nodes net places w x i y j r s f.there g.there kx ky
    (row_read net.rows.items i v r (row_of_end nodes net w ends same x i f.key) rv ev)
    (row_read net.rows.items j u s (row_of_end nodes net w ends' same' y j g.key) ru eu)
    (nat_eq r.last x) (nat_eq s.last y) (eq-eqb r.last x, eqb-true r.last x) (eq-eqb s.last y, eqb-true s.last y) less

pub keys_less : (i j : ℕ) → j ≤ i → Some i ≢ Some j → j < i
keys_less i j l ne = elim (cases_eq i j) [ inl e ↦ absurd (ne (ap (λ (k : ℕ). Some k) e)) | inr d ↦ omega (arith, l, d) ]
