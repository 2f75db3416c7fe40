-- One node of degree two after the other is joined: what a list of paths keeps then.
use Rattle.std.proofs.Common.{◌≡◌, ◌⊎◌, inl, inr, ℕ, ◌+◌, Bool, true, false, not, cond, List, [], ◌∷◌, ◌++◌, filter, sum_by, refl, sym, ap, ◌∙◌, subst, arith}
use Rattle.std.proofs.lemmas.Bool.{or_cases, or_left, or_right, not-true, both_ways, true≢false}
use Rattle.std.proofs.lemmas.List.Sums.{sum_by-cons, sum_by-append}
use Rattle.std.proofs.lemmas.List.Filters.{sum_by-filter_both}
use Rattle.tgap_model.specs.declared.geometry.Point.{Point}
use Rattle.tgap_model.specs.declared.base.BaseArc.{BaseArc}
use Rattle.tgap_model.specs.Base.{same_point}
use Rattle.tgap_model.specs.Merged.{MergedMap}
use Rattle.tgap_model.specs.Chains.{arc_number, border_numbers, ends_at, degree, joins_before, Link, Chain, chain_start, chain_end, turned_round, touches, toward, join_at}
use Rattle.map_laws.proofs.ChainMembers.{Among, filter_among}
use Rattle.map_laws.proofs.Lists.{kept_among, among_kept, sum_nothing, sum_agree}
use Rattle.tgap_model.proofs.Points.{same_point-true, same_point-from}
use Rattle.map_laws.proofs.JoinPaths.{turned_sum, append_start, append_end, turned_start, turned_end, turned_links, IsPath, path_named, path_append, path_turned}
use Rattle.map_laws.proofs.JoinEnds.{chain_ends, touching_ends, other_ends, both_ends, path_ends, border_ends}

-- what counts for the arcs of a chain
abbrev pub arc_sum : (ℕ → ℕ) → Chain → ℕ
arc_sum f c = sum_by (λ d. f d.arc) c

-- Paths through the junctions J, in which each border arc stands once. At a junction no path has one end alone, and a path that
-- closes at a node of degree two goes only through nodes that do not join later.
pub record AreJoined (h : MergedMap) (k : ℕ) (J : Point → Type 0) (cs : List Chain) : Type 0 where
  pub covers : (f : ℕ → ℕ) → sum_by (arc_sum f) cs ≡ sum_by f (border_numbers h k)
  pub paths : (c : Chain) → Among c cs → IsPath h.base.arcs J c
  pub shut : (c : Chain) → Among c cs → (p : Point) → J p → (chain_start h.base.arcs c ≡ p) ⊎ (chain_end h.base.arcs c ≡ p)
      → (chain_start h.base.arcs c ≡ p) × (chain_end h.base.arcs c ≡ p)
  pub anchored : (c : Chain) → Among c cs → chain_start h.base.arcs c ≡ chain_end h.base.arcs c → degree h k (chain_start h.base.arcs c) ≡ 2
      → IsPath h.base.arcs (λ j. joins_before h k (chain_start h.base.arcs c) j ≡ false) c

-- at a point that is no junction as many paths end as the degree says
pub ends_degree : (h : MergedMap) (k : ℕ) (J : Point → Type 0) (cs : List Chain) → AreJoined h k J cs → (p : Point) → (J p → ⊥)
    → sum_by (chain_ends h.base.arcs p) cs ≡ degree h k p
ends_degree h k J cs a p fresh =
    sum_agree (chain_ends h.base.arcs p) (arc_sum (λ i. ends_at p (arc_number h.base.arcs i))) cs
    (λ c m. sym (path_ends h.base.arcs J p fresh c (a.paths c m)))
    ∙ a.covers (λ i. ends_at p (arc_number h.base.arcs i))
    ∙ border_ends h k p

-- ---- a path with one end at a point, in the direction of the point

-- t is c in the direction of p, where it ends; it starts elsewhere
record IsToward (arcs : List BaseArc) (J : Point → Type 0) (p : Point) (c t : Chain) : Type 0 where
  path : IsPath arcs J t
  ends : chain_end arcs t ≡ p
  apart : chain_start arcs t ≡ p → ⊥
  there : (chain_start arcs c ≡ p) ⊎ (chain_end arcs c ≡ p)
  start : (chain_start arcs c ≡ chain_start arcs t) ⊎ (chain_end arcs c ≡ chain_start arcs t)
  same : (f : ℕ → ℕ) → arc_sum f t ≡ arc_sum f c

-- one end alone
pub one_end : (s t : Bool) → cond {A = ℕ} s 1 0 + cond {A = ℕ} t 1 0 ≡ 1 → s ≡ true → t ≡ true → ⊥
one_end true true h e f = absurd (omega arith)
one_end true false h e f = absurd cc
one_end false t h e f = absurd cc

toward_is : (arcs : List BaseArc) (J : Point → Type 0) (p : Point) (c : Chain) → IsPath arcs J c → touches arcs p c ≡ true
    → chain_ends arcs p c ≡ 1 → IsToward arcs J p c (toward arcs p c)
toward_is arcs J p c path t one = by (same_point (chain_end arcs c) p) refl
  where
    by : (b : Bool) → same_point (chain_end arcs c) p ≡ b → IsToward arcs J p c (cond b c (turned_round c))
    by true e = record {
      path = path;
      ends = same_point-true _ _ e;
      apart = λ s. one_end (same_point (chain_start arcs c) p) (same_point (chain_end arcs c) p) one (same_point-from _ _ s) e;
      there = inr (same_point-true _ _ e);
      start = inl refl;
      same = λ f. refl;
    }
    by false e =
        let here : chain_start arcs c ≡ p = elim (or_cases (same_point (chain_start arcs c) p) (same_point (chain_end arcs c) p) t) [
          | inl s ↦ same_point-true _ _ s
          | inr s ↦ absurd (true≢false (sym s ∙ e))
        ] in
        record {
          path = path_turned arcs J c path;
          ends = turned_end arcs c ∙ here;
          apart = λ s. true≢false (sym (same_point-from _ _ (sym (turned_start arcs c) ∙ s)) ∙ e);
          there = inl here;
          start = inr (sym (turned_start arcs c));
          same = λ f. turned_sum f c;
        }

-- ---- the step

-- the list after a join, from the chains that touch the node
abbrev pub joined_with : List BaseArc → List Chain → Point → List Chain → List Chain
joined_with arcs chains p touching =
    elim touching [
      | [] ↦ chains
      | c ∷ [] ↦ chains
      | c ∷ d ∷ more ↦ (toward arcs p c ++ turned_round (toward arcs p d)) ∷ (more ++ filter (λ e. not (touches arcs p e)) chains)
    ]

module _ (h : MergedMap) (k : ℕ) (J : Point → Type 0) (cs : List Chain) (a : AreJoined h k J cs)
    (p : Point) (two : degree h k p ≡ 2) (fresh : J p → ⊥)
    (last : (q j : Point) → degree h k q ≡ 2 → (J q → ⊥) → (q ≡ p → ⊥) → J j ⊎ (j ≡ p) → joins_before h k q j ≡ false) where
  -- with the node among the junctions
  abbrev Through : Point → Type 0
  Through q = J q ⊎ (q ≡ p)

  -- a sum over all is one over those that touch the node, and one over the others
  split : (f : Chain → ℕ) → sum_by f (filter (touches h.base.arcs p) cs) + sum_by f (filter (λ e. not (touches h.base.arcs p e)) cs) ≡ sum_by f cs
  split f = sum_by-filter_both (touches h.base.arcs p) (λ e. not (touches h.base.arcs p e)) (λ e. refl) f cs

  -- two ends are at the node
  touching_two : sum_by (chain_ends h.base.arcs p) (filter (touches h.base.arcs p) cs) ≡ 2
  touching_two =
      let rest : sum_by (chain_ends h.base.arcs p) (filter (λ e. not (touches h.base.arcs p e)) cs) ≡ 0
      = sum_nothing (chain_ends h.base.arcs p) (filter (λ e. not (touches h.base.arcs p e)) cs)
      (λ e m. other_ends h.base.arcs p e (not-true _ (filter_among (λ e. not (touches h.base.arcs p e)) cs e m))) in
      omega (arith, split (chain_ends h.base.arcs p), rest, ends_degree h k J cs a p fresh, two)

  -- an end at the node shows that the chain touches it
  touches_from : (e : Chain) → (chain_start h.base.arcs e ≡ p) ⊎ (chain_end h.base.arcs e ≡ p) → touches h.base.arcs p e ≡ true
  touches_from e (inl s) = or_left _ (same_point (chain_end h.base.arcs e) p) (same_point-from _ _ s)
  touches_from e (inr s) = or_right (same_point (chain_start h.base.arcs e) p) _ (same_point-from _ _ s)

  -- one chain alone touches the node: it starts and ends there
  one_closed : (c : Chain) → filter (touches h.base.arcs p) cs ≡ c ∷ [] → AreJoined h k Through cs
  one_closed c is = record {
    covers = a.covers;
    paths = λ e m. path_named h.base.arcs J Through (λ q j. inl j) e (a.paths e m);
    shut = λ e m q j t. elim j [ inl old ↦ a.shut e m q old t | inr s ↦ here e m q s t ];
    anchored = a.anchored;
  }
    where
      here : (e : Chain) → Among e cs → (q : Point) → q ≡ p → (chain_start h.base.arcs e ≡ q) ⊎ (chain_end h.base.arcs e ≡ q)
          → (chain_start h.base.arcs e ≡ q) × (chain_end h.base.arcs e ≡ q)
      here e m q s t =
          let at : (chain_start h.base.arcs e ≡ p) ⊎ (chain_end h.base.arcs e ≡ p) = elim t [ inl u ↦ inl (u ∙ s) | inr u ↦ inr (u ∙ s) ] in
          let found : Among e (c ∷ []) = subst (Among e) is (among_kept (touches h.base.arcs p) cs e m (touches_from e at)) in
          let same : c ≡ e = elim found [ inl u ↦ u | inr u ↦ absurd u ] in
          let count : chain_ends h.base.arcs p e ≡ 2 =
          ap (chain_ends h.base.arcs p) (sym same) ∙ sym (sum_one c) ∙ ap (sum_by (chain_ends h.base.arcs p)) (sym is) ∙ touching_two in
          let both = both_ends h.base.arcs p e count in
          (both.0 ∙ sym s, both.1 ∙ sym s)
        where
          sum_one : (c : Chain) → sum_by (chain_ends h.base.arcs p) (c ∷ []) ≡ chain_ends h.base.arcs p c
          sum_one c = omega (arith, sum_by-cons (chain_ends h.base.arcs p) c [])

  -- two chains touch the node, with one end each: they become one
  module _ (c d : Chain) (is : filter (touches h.base.arcs p) cs ≡ c ∷ d ∷ []) where
    both_among : (e : Chain) → Among e (c ∷ d ∷ []) → Among e (filter (touches h.base.arcs p) cs)
    both_among e m = subst (Among e) (sym is) m

    counts : chain_ends h.base.arcs p c + chain_ends h.base.arcs p d ≡ 2
    counts =
        omega (
          arith,
          ap (sum_by (chain_ends h.base.arcs p)) is,
          touching_two,
          sum_by-cons (chain_ends h.base.arcs p) c (d ∷ []),
          sum_by-cons (chain_ends h.base.arcs p) d [],
        )

    passes : (e : Chain) → Among e (c ∷ d ∷ []) → touches h.base.arcs p e ≡ true
    passes e m = filter_among (touches h.base.arcs p) cs e (both_among e m)

    member : (e : Chain) → Among e (c ∷ d ∷ []) → Among e cs
    member e m = kept_among (touches h.base.arcs p) cs e (both_among e m)

    first : IsToward h.base.arcs J p c (toward h.base.arcs p c)
    first = toward_is h.base.arcs J p c (a.paths c (member c (inl refl))) (passes c (inl refl))
        (omega (arith, counts, touching_ends h.base.arcs p c (passes c (inl refl)), touching_ends h.base.arcs p d (passes d (inr (inl refl)))))

    second : IsToward h.base.arcs J p d (toward h.base.arcs p d)
    second = toward_is h.base.arcs J p d (a.paths d (member d (inr (inl refl)))) (passes d (inr (inl refl)))
        (omega (arith, counts, touching_ends h.base.arcs p c (passes c (inl refl)), touching_ends h.base.arcs p d (passes d (inr (inl refl)))))

    -- the other end of either is at no junction
    free : (e t : Chain) → Among e cs → IsToward h.base.arcs J p e t → (q : Point) → chain_start h.base.arcs t ≡ q → Through q → ⊥
    free e t m w q s (inr u) = w.apart (s ∙ u)
    free e t m w q s (inl j) =
        let at : (chain_start h.base.arcs e ≡ q) ⊎ (chain_end h.base.arcs e ≡ q) = elim w.start [ inl u ↦ inl (u ∙ s) | inr u ↦ inr (u ∙ s) ] in
        let both = a.shut e m q j at in
        fresh (subst J (elim w.there [ inl u ↦ sym both.0 ∙ u | inr u ↦ sym both.1 ∙ u ]) j)

    -- the new chain
    abbrev new : Chain
    new = toward h.base.arcs p c ++ turned_round (toward h.base.arcs p d)

    new_start : chain_start h.base.arcs new ≡ chain_start h.base.arcs (toward h.base.arcs p c)
    new_start = append_start h.base.arcs (toward h.base.arcs p c) (turned_round (toward h.base.arcs p d)) first.path.links

    new_end : chain_end h.base.arcs new ≡ chain_start h.base.arcs (toward h.base.arcs p d)
    new_end =
        append_end h.base.arcs (toward h.base.arcs p c) (turned_round (toward h.base.arcs p d)) (turned_links (toward h.base.arcs p d) second.path.links)
        ∙ turned_end h.base.arcs (toward h.base.arcs p d)

    new_path : IsPath h.base.arcs Through new
    new_path =
        path_append h.base.arcs Through (toward h.base.arcs p c) (turned_round (toward h.base.arcs p d))
        (path_named h.base.arcs J Through (λ q j. inl j) (toward h.base.arcs p c) first.path)
        (path_turned h.base.arcs Through (toward h.base.arcs p d) (path_named h.base.arcs J Through (λ q j. inl j) (toward h.base.arcs p d) second.path))
        (first.ends ∙ sym second.ends ∙ sym (turned_start h.base.arcs (toward h.base.arcs p d)))
        (inr first.ends)

    new_free : (q : Point) → Through q → (chain_start h.base.arcs new ≡ q) ⊎ (chain_end h.base.arcs new ≡ q) → ⊥
    new_free q j (inl s) = free c (toward h.base.arcs p c) (member c (inl refl)) first q (sym new_start ∙ s) j
    new_free q j (inr s) = free d (toward h.base.arcs p d) (member d (inr (inl refl))) second q (sym new_end ∙ s) j

    new_sum : (f : ℕ → ℕ) → arc_sum f new ≡ arc_sum f c + arc_sum f d
    new_sum f =
        omega (
          arith,
          sum_by-append (λ (l : Link). f l.arc) (toward h.base.arcs p c) (turned_round (toward h.base.arcs p d)),
          turned_sum f (toward h.base.arcs p d),
          first.same f,
          second.same f,
        )

    two_joined : AreJoined h k Through (new ∷ filter (λ e. not (touches h.base.arcs p e)) cs)
    two_joined = record {
      covers = λ f. all f;
      paths = λ e m. elim m [
        | inl s ↦ subst (IsPath h.base.arcs Through) s new_path
        | inr n ↦ path_named h.base.arcs J Through (λ q j. inl j) e (a.paths e (old e n))
      ];
      shut = λ e m q j t. elim m [
        | inl s ↦ absurd (new_free q j (subst (λ (c : Chain). (chain_start h.base.arcs c ≡ q) ⊎ (chain_end h.base.arcs c ≡ q)) (sym s) t))
        | inr n ↦ elim j [
          | inl before ↦ a.shut e (old e n) q before t
          | inr s ↦ absurd (away e n (elim t [ inl u ↦ inl (u ∙ s) | inr u ↦ inr (u ∙ s) ]))
        ]
      ];
      anchored = λ e m closed deg. elim m [
        | inl s ↦ subst (λ (c : Chain). IsPath h.base.arcs (λ j. joins_before h k (chain_start h.base.arcs c) j ≡ false) c) s
            (anchor (ap (degree h k) (ap (chain_start h.base.arcs) s) ∙ deg))
        | inr n ↦ a.anchored e (old e n) closed deg
      ];
    }
      where
        old : (e : Chain) → Among e (filter (λ e. not (touches h.base.arcs p e)) cs) → Among e cs
        old e n = kept_among (λ e. not (touches h.base.arcs p e)) cs e n

        away : (e : Chain) → Among e (filter (λ e. not (touches h.base.arcs p e)) cs)
            → (chain_start h.base.arcs e ≡ p) ⊎ (chain_end h.base.arcs e ≡ p) → ⊥
        away e n t =
            both_ways (touches h.base.arcs p e) (not-true _ (filter_among (λ e. not (touches h.base.arcs p e)) cs e n)) (touches_from e t)

        anchor : degree h k (chain_start h.base.arcs new) ≡ 2
            → IsPath h.base.arcs (λ j. joins_before h k (chain_start h.base.arcs new) j ≡ false) new
        anchor deg =
            path_named h.base.arcs Through (λ j. joins_before h k (chain_start h.base.arcs new) j ≡ false)
            (λ j through. last (chain_start h.base.arcs new) j deg
            (λ b. new_free (chain_start h.base.arcs new) (inl b) (inl refl))
            (λ s. new_free (chain_start h.base.arcs new) (inr s) (inl refl)) through)
            new new_path

        all : (f : ℕ → ℕ) → sum_by (arc_sum f) (new ∷ filter (λ e. not (touches h.base.arcs p e)) cs) ≡ sum_by f (border_numbers h k)
        all f =
            omega (
              arith,
              sum_by-cons (arc_sum f) new (filter (λ e. not (touches h.base.arcs p e)) cs),
              new_sum f,
              split (arc_sum f),
              ap (sum_by (arc_sum f)) is,
              sum_by-cons (arc_sum f) c (d ∷ []),
              sum_by-cons (arc_sum f) d [],
              a.covers f,
            )

  -- after the join the node is a junction too
  pub join_step : AreJoined h k (λ q. J q ⊎ (q ≡ p)) (join_at h.base.arcs cs p)
  join_step = by (filter (touches h.base.arcs p) cs) refl
    where
      by : (touching : List Chain) → filter (touches h.base.arcs p) cs ≡ touching
          → AreJoined h k (λ q. J q ⊎ (q ≡ p)) (joined_with h.base.arcs cs p touching)
      by [] is = absurd (omega (arith, ap (sum_by (chain_ends h.base.arcs p)) is, touching_two))
      by (c ∷ []) is = one_closed c is
      by (c ∷ d ∷ []) is = two_joined c d is
      by (c ∷ d ∷ e ∷ more) is =
          let at : (x : Chain) → Among x (c ∷ d ∷ e ∷ more) → touches h.base.arcs p x ≡ true
          = λ x m. filter_among (touches h.base.arcs p) cs x (subst (Among x) (sym is) m) in
          absurd (omega (
            arith,
            ap (sum_by (chain_ends h.base.arcs p)) is,
            touching_two,
            sum_by-cons (chain_ends h.base.arcs p) c (d ∷ e ∷ more),
            sum_by-cons (chain_ends h.base.arcs p) d (e ∷ more),
            sum_by-cons (chain_ends h.base.arcs p) e more,
            touching_ends h.base.arcs p c (at c (inl refl)),
            touching_ends h.base.arcs p d (at d (inr (inl refl))),
            touching_ends h.base.arcs p e (at e (inr (inr (inl refl)))),
          ))
