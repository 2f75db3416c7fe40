-- A join at a node: of the edges that have not ended, two become one, or one is closed there.
use Rattle.std.proofs.Common.{◌≡◌, ◌≢◌, ◌⊎◌, inl, inr, ℕ, ◌+◌, ◌<◌, ◌≤◌, Bool, true, false, not, cond, List, [], ◌∷◌, ◌++◌, filter, sum_by, length, get_or, set, Option, Some, None, refl, sym, ap, ap₂, ◌∙◌, subst, arith}
use Rattle.std.proofs.lemmas.Bool.{cases_eq, false_from_ne_true, or_left, or_right}
use Rattle.std.proofs.lemmas.List.{get_or-set_same, get_or-set_other, length-set}
use Rattle.std.proofs.lemmas.List.Sums.{sum_by-cons}
use Rattle.tgap_model.specs.declared.geometry.Point.{Point}
use Rattle.tgap_model.specs.declared.base.BaseArc.{BaseArc}
use Rattle.tgap_model.specs.Base.{same_point}
use Rattle.tgap_model.specs.Merged.{MergedMap}
use Rattle.tgap_model.specs.Chains.{degree, joins_before, Chain, chain_start, chain_end, turned_round, touches, toward, join_at}
use Rattle.tgap_model.proofs.Points.{same_point-from}
use Rattle.map_laws.proofs.ChainMembers.{Among}
use Rattle.map_laws.proofs.Lists.{sum_member, sum_some}
use Rattle.map_laws.proofs.JoinPaths.{turned_sum}
use Rattle.map_laws.proofs.JoinEnds.{chain_ends, touching_ends, other_ends}
use Rattle.map_laws.proofs.JoinSteps.{arc_sum, AreJoined, ends_degree, join_step}
use Rattle.edge_forest.specs.declared.net.Current.{Current}
use Rattle.edge_forest.specs.Net.{row_at}
use Rattle.edge_forest.specs.Family.{family}
use Rattle.edge_forest.specs.Rows.{tip, turned_if, attached}
use Rattle.edge_forest.proofs.Alike.{turned_append, turned_twice, AreAlike, alike_joined}
use Rattle.edge_forest.proofs.Family.{IsOf, row_sum, family_of, of_family, family_set}

-- ---- filters

module _ {A : Type 0} (p : A → Bool) where
  kept_first : (x : A) (xs : List A) → p x ≡ true → filter p (x ∷ xs) ≡ x ∷ filter p xs
  kept_first x xs e = ap (λ (b : Bool). cond b (x ∷ filter p xs) (filter p xs)) e

  dropped_first : (x : A) (xs : List A) → p x ≡ false → filter p (x ∷ xs) ≡ filter p xs
  dropped_first x xs e = ap (λ (b : Bool). cond b (x ∷ filter p xs) (filter p xs)) e

  none_kept : (xs : List A) → ((x : A) → Among x xs → p x ≡ false) → filter p xs ≡ []
  none_kept [] none = refl
  none_kept (x ∷ xs) none = dropped_first x xs (none x (inl refl)) ∙ none_kept xs (λ y m. none y (inr m))

  all_kept : (xs : List A) → ((x : A) → Among x xs → p x ≡ true) → filter p xs ≡ xs
  all_kept [] all = refl
  all_kept (x ∷ xs) all = kept_first x xs (all x (inl refl)) ∙ ap (λ (ys : List A). x ∷ ys) (all_kept xs (λ y m. all y (inr m)))

-- ---- the end of a chain at a node

tip_touches : (arcs : List BaseArc) (p : Point) (e : Bool) (c : Chain) → tip arcs e c ≡ p → touches arcs p c ≡ true
tip_touches arcs p true c s = or_right (same_point (chain_start arcs c) p) _ (same_point-from _ _ s)
tip_touches arcs p false c s = or_left _ (same_point (chain_end arcs c) p) (same_point-from _ _ s)

-- with one end there the chain toward the node is it or it turned round
toward_tip : (arcs : List BaseArc) (p : Point) (e : Bool) (c : Chain) → tip arcs e c ≡ p → chain_ends arcs p c ≡ 1
    → toward arcs p c ≡ turned_if (not e) c
toward_tip arcs p true c s one = ap (λ (b : Bool). cond b c (turned_round c)) (same_point-from _ _ s)
toward_tip arcs p false c s one =
    ap (λ (b : Bool). cond b c (turned_round c)) (other (same_point (chain_start arcs c) p) (same_point (chain_end arcs c) p) (same_point-from _ _ s) one)
  where
    other : (u v : Bool) → u ≡ true → cond {A = ℕ} u 1 0 + cond {A = ℕ} v 1 0 ≡ 1 → v ≡ false
    other true true h e = absurd (omega arith)
    other true false h e = refl
    other false v h e = absurd cc

-- so the join is the attached chain, or that turned round
join_is : (arcs : List BaseArc) (p : Point) (ea eb : Bool) (a b : Chain) → tip arcs ea a ≡ p → tip arcs eb b ≡ p
    → chain_ends arcs p a ≡ 1 → chain_ends arcs p b ≡ 1
    → let n = toward arcs p a ++ turned_round (toward arcs p b) in (attached ea eb a b ≡ n) ⊎ (turned_round (attached ea eb a b) ≡ n)
join_is arcs p ea eb a b s t one two =
    subst (λ (n : Chain). (attached ea eb a b ≡ n) ⊎ (turned_round (attached ea eb a b) ≡ n))
    (sym (ap₂ (λ (x y : Chain). x ++ turned_round y) (toward_tip arcs p ea a s one) (toward_tip arcs p eb b t two))) (by ea eb)
  where
    by : (ea eb : Bool) → let n = turned_if (not ea) a ++ turned_round (turned_if (not eb) b) in (attached ea eb a b ≡ n) ⊎ (turned_round (attached ea eb a b) ≡ n)
    by true true = inl refl
    by true false = inl (ap (λ (x : Chain). a ++ x) (sym (turned_twice b)))
    by false true = inr (turned_append b a)
    by false false = inr (turned_append (turned_round b) a)

-- ---- the join

-- the chains after a join, from those that touch the node
abbrev joined_with : List BaseArc → List Chain → Point → List Chain → List Chain
joined_with arcs chains p touching = elim touching [
  | [] ↦ chains
  | c ∷ [] ↦ chains
  | c ∷ d ∷ more ↦ (toward arcs p c ++ turned_round (toward arcs p d)) ∷ (more ++ filter (λ e. not (touches arcs p e)) chains)
]

module _ (h : MergedMap) (k : ℕ) (J : Point → Type 0) (chains : List Chain) (rows : List (Option Current))
    (a : AreJoined h k J (family chains rows)) (p : Point) (two : degree h k p ≡ 2) (fresh : J p → ⊥)
    (last : (q j : Point) → degree h k q ≡ 2 → (J q → ⊥) → (q ≡ p → ⊥) → J j ⊎ (j ≡ p) → joins_before h k q j ≡ false) where
  abbrev pub arcs : List BaseArc
  arcs = h.base.arcs

  abbrev pub Through : Point → Type 0
  Through q = J q ⊎ (q ≡ p)

  -- the rows without one of them
  abbrev without_row : ℕ → List (Option Current)
  without_row i = set rows i None

  gone_sum : (f : Chain → ℕ) (rows : List (Option Current)) (i : ℕ) (r : Current) → i < length rows → row_at rows i ≡ Some r
      → f (get_or chains r.id []) + sum_by f (family chains (set rows i None)) ≡ sum_by f (family chains rows)
  gone_sum f rows i r l e =
      omega (arith, family_set chains f rows i None l, ap (row_sum chains f) e)

  -- a row that is left was there
  gone_row : (rows : List (Option Current)) (i l : ℕ) (r : Current) → row_at (set rows i None) l ≡ Some r → i < length rows → (l ≢ i) × (row_at rows l ≡ Some r)
  gone_row rows i l r e inside = elim (cases_eq l i) [
    | inl s ↦ absurd (none_some (sym (get_or-set_same rows i None None inside) ∙ ap (row_at (set rows i None)) (sym s) ∙ e))
    | inr ne ↦ (ne, sym (get_or-set_other rows i l None None ne) ∙ e)
  ]
    where
      none_some : {r : Current} → None ≡ Some r → ⊥
      none_some e = absurd cc

  gone_among : (rows : List (Option Current)) (i : ℕ) (c : Chain) → i < length rows → Among c (family chains (set rows i None)) → Among c (family chains rows)
  gone_among rows i c inside m =
      let o = family_of chains (set rows i None) c m in
      subst (λ (x : Chain). Among x (family chains rows)) o.4 (of_family chains rows o.0 o.1 (gone_row rows i o.0 o.1 o.3 inside).1)

  -- how many edges end at the node
  two_end : sum_by (chain_ends arcs p) (family chains rows) ≡ 2
  two_end = ends_degree h k J (family chains rows) a p fresh ∙ two

  -- a chain that touches the node no longer counts where none is left to count
  none_touches : (cs : List Chain) → sum_by (chain_ends arcs p) cs ≡ 0 → (c : Chain) → Among c cs → touches arcs p c ≡ false
  none_touches cs none c m =
      false_from_ne_true (touches arcs p c) (λ t. absurd (omega (arith, none, sum_member (chain_ends arcs p) cs c m, touching_ends arcs p c t)))

  -- ---- one edge alone is there

  module _ (alone : (i j : ℕ) (r s : Current) → row_at rows i ≡ Some r → row_at rows j ≡ Some s → touches arcs p (get_or chains r.id []) ≡ true
      → touches arcs p (get_or chains s.id []) ≡ true → i ≡ j) where
    touching : (c : Chain) × Among c (family chains rows) × (1 ≤ chain_ends arcs p c)
    touching = sum_some (chain_ends arcs p) (family chains rows) (omega (arith, two_end))

    touching_is : touches arcs p touching.0 ≡ true
    touching_is = by (touches arcs p touching.0) refl
      where
        by : (b : Bool) → touches arcs p touching.0 ≡ b → b ≡ true
        by true e = refl
        by false e = absurd (omega (arith, touching.2, other_ends arcs p touching.0 e))

    abbrev of : IsOf chains rows touching.0
    of = family_of chains rows touching.0 touching.1

    abbrev first : Chain
    first = get_or chains of.1.id []

    first_touches : touches arcs p first ≡ true
    first_touches = ap (touches arcs p) of.4 ∙ touching_is

    abbrev others : List Chain
    others = family chains (without_row of.0)

    others_apart : (c : Chain) → Among c others → touches arcs p c ≡ false
    others_apart c m =
        let o = family_of chains (without_row of.0) c m in
        let back = gone_row rows of.0 o.0 o.1 o.3 of.2 in
        false_from_ne_true (touches arcs p c) (λ t. back.0 (alone o.0 of.0 o.1 of.1 back.1 of.3 (ap (touches arcs p) o.4 ∙ t) first_touches))

    listed_alike : AreAlike (first ∷ others) (family chains rows)
    listed_alike = record {
      sums = λ f. omega (arith, sum_by-cons (arc_sum f) first others, gone_sum (arc_sum f) rows of.0 of.1 of.2 of.3);
      members = λ c m. inl (elim m [
        | inl s ↦ subst (λ (x : Chain). Among x (family chains rows)) s (of_family chains rows of.0 of.1 of.3)
        | inr n ↦ gone_among rows of.0 c of.2 n
      ]);
    }

    alike_listed : AreAlike (family chains rows) (first ∷ others)
    alike_listed = record {
      sums = λ f. sym (listed_alike.sums f);
      members = λ c m. inl (by c (family_of chains rows c m));
    }
      where
        by : (c : Chain) → IsOf chains rows c → Among c (first ∷ others)
        by c o = elim (cases_eq o.0 of.0) [
          | inl s ↦ inl (ap (λ (r : Option Current). row_chain r) (sym of.3 ∙ ap (row_at rows) (sym s) ∙ o.3) ∙ o.4)
          | inr ne ↦ inr (subst (λ (x : Chain). Among x others) o.4
              (of_family chains (without_row of.0) o.0 o.1 (get_or-set_other rows of.0 o.0 None None ne ∙ o.3)))
        ]
          where
            row_chain : Option Current → Chain
            row_chain None = []
            row_chain (Some r) = get_or chains r.id []

    pub closed_there : AreJoined h k Through (family chains rows)
    closed_there =
        alike_joined h k Through (family chains rows) (first ∷ others) alike_listed
        (subst (AreJoined h k Through) same
        (join_step h k J (first ∷ others) (alike_joined h k J (first ∷ others) (family chains rows) listed_alike a) p two fresh last))
      where
        only : filter (touches arcs p) (first ∷ others) ≡ first ∷ []
        only = kept_first (touches arcs p) first others first_touches ∙ ap (λ (xs : List Chain). first ∷ xs) (none_kept (touches arcs p) others others_apart)

        same : join_at arcs (first ∷ others) p ≡ first ∷ others
        same = ap (joined_with arcs (first ∷ others) p) only

  -- ---- two edges are there

  module _ (i j : ℕ) (r s : Current) (ei : row_at rows i ≡ Some r) (ej : row_at rows j ≡ Some s) (li : i < length rows) (lj : j < length rows) (ne : i ≢ j)
      (ea eb : Bool) (ta : tip h.base.arcs ea (get_or chains r.id []) ≡ p) (tb : tip h.base.arcs eb (get_or chains s.id []) ≡ p) where
    abbrev one : Chain
    one = get_or chains r.id []

    abbrev other : Chain
    other = get_or chains s.id []

    -- the rows without both
    abbrev pub left_rows : List (Option Current)
    left_rows = set (set rows i None) j None

    abbrev rest : List Chain
    rest = family chains left_rows

    ej_left : row_at (set rows i None) j ≡ Some s
    ej_left = get_or-set_other rows i j None None (λ e. ne (sym e)) ∙ ej

    inner : j < length (set rows i None)
    inner = omega (arith, length-set rows i None, lj)

    both_sums : (f : Chain → ℕ) → f one + (f other + sum_by f rest) ≡ sum_by f (family chains rows)
    both_sums f = omega (arith, gone_sum f rows i r li ei, gone_sum f (set rows i None) j s inner ej_left)

    counts : (chain_ends arcs p one ≡ 1) × (chain_ends arcs p other ≡ 1) × (sum_by (chain_ends arcs p) rest ≡ 0)
    counts =
        let x = both_sums (chain_ends arcs p) in
        let y = touching_ends arcs p one (tip_touches arcs p ea one ta) in
        let z = touching_ends arcs p other (tip_touches arcs p eb other tb) in
        (omega (arith, x, y, z, two_end), omega (arith, x, y, z, two_end), omega (arith, x, y, z, two_end))

    both_alike : AreAlike (one ∷ other ∷ rest) (family chains rows)
    both_alike = record {
      sums = λ f. omega (arith, sum_by-cons (arc_sum f) one (other ∷ rest), sum_by-cons (arc_sum f) other rest, both_sums (arc_sum f));
      members = λ c m. inl (elim m [
        | inl e ↦ subst (λ (x : Chain). Among x (family chains rows)) e (of_family chains rows i r ei)
        | inr n ↦ elim n [
          | inl e ↦ subst (λ (x : Chain). Among x (family chains rows)) e (of_family chains rows j s ej)
          | inr o ↦ gone_among rows i c li (gone_among (set rows i None) j c inner o)
        ]
      ]);
    }

    abbrev new : Chain
    new = toward arcs p one ++ turned_round (toward arcs p other)

    new_joined : AreJoined h k Through (new ∷ rest)
    new_joined =
        subst (AreJoined h k Through) same
        (join_step h k J (one ∷ other ∷ rest) (alike_joined h k J (one ∷ other ∷ rest) (family chains rows) both_alike a) p two fresh last)
      where
        apart : (c : Chain) → Among c rest → touches arcs p c ≡ false
        apart = none_touches rest counts.2

        here : touches arcs p one ≡ true
        here = tip_touches arcs p ea one ta

        there : touches arcs p other ≡ true
        there = tip_touches arcs p eb other tb

        only : filter (touches arcs p) (one ∷ other ∷ rest) ≡ one ∷ other ∷ []
        only =
            kept_first (touches arcs p) one (other ∷ rest) here
            ∙ ap (λ (xs : List Chain). one ∷ xs) (kept_first (touches arcs p) other rest there)
            ∙ ap (λ (xs : List Chain). one ∷ other ∷ xs) (none_kept (touches arcs p) rest apart)

        away : Chain → Bool
        away e = not (touches arcs p e)

        far : filter (λ e. not (touches arcs p e)) (one ∷ other ∷ rest) ≡ rest
        far =
            dropped_first (λ e. not (touches arcs p e)) one (other ∷ rest) (ap not here)
            ∙ dropped_first (λ e. not (touches arcs p e)) other rest (ap not there)
            ∙ all_kept (λ e. not (touches arcs p e)) rest (λ c m. ap not (apart c m))

        same : join_at arcs (one ∷ other ∷ rest) p ≡ new ∷ rest
        same = ap (joined_with arcs (one ∷ other ∷ rest) p) only ∙ ap (λ (xs : List Chain). new ∷ xs) far

    -- with the attached chain in place of both the node is a junction too
    pub attached_joined : AreJoined h k Through (attached ea eb (get_or chains r.id []) (get_or chains s.id []) ∷ family chains (set (set rows i None) j None))
    attached_joined = alike_joined h k Through (attached ea eb one other ∷ rest) (new ∷ rest) alike new_joined
      where
        is : (attached ea eb one other ≡ new) ⊎ (turned_round (attached ea eb one other) ≡ new)
        is = join_is arcs p ea eb one other ta tb counts.0 counts.1

        same_sum : (f : ℕ → ℕ) → arc_sum f (attached ea eb one other) ≡ arc_sum f new
        same_sum f = elim is [
          | inl e ↦ ap (arc_sum f) e
          | inr e ↦ sym (turned_sum f (attached ea eb one other)) ∙ ap (arc_sum f) e
        ]

        alike : AreAlike (attached ea eb one other ∷ rest) (new ∷ rest)
        alike = record {
          sums = λ f. omega (arith, sum_by-cons (arc_sum f) (attached ea eb one other) rest, sum_by-cons (arc_sum f) new rest, same_sum f);
          members = λ c m. elim m [
            | inl e ↦ elim is [
              | inl u ↦ inl (inl (sym u ∙ e))
              | inr u ↦ inr (inl (sym u ∙ ap turned_round e))
            ]
            | inr n ↦ inl (inr n)
          ];
        }
