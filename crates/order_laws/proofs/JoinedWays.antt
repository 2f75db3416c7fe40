-- Where chains are joined at nodes of degree two, the ways out of each other node stay, with their arc ends; at those nodes none is left.
use Rattle.std.proofs.Common.{◌≡◌, ◌≢◌, ◌⊎◌, inl, inr, ℕ, ◌+◌, Bool, true, false, not, cond, nat_lt, List, [], ◌∷◌, ◌++◌, map, filter, drop, sum_by, refl, sym, ap, ◌∙◌, subst, arith}
use Rattle.std.specs.Prelude.{fold}
use Rattle.std.proofs.lemmas.Bool.{or_cases, or_parts, not-true, true≢false}
use Rattle.std.proofs.lemmas.List.Sums.{sum_by-cons}
use Rattle.std.proofs.lemmas.List.Filters.{sum_by-filter_both}
use Rattle.lemmas.specs.Sorting.{sort_by}
use Rattle.tgap_model.specs.declared.geometry.Point.{Point}
use Rattle.tgap_model.specs.declared.slice.Removal.{Removal}
use Rattle.tgap_model.specs.Base.{same_point}
use Rattle.tgap_model.specs.Merged.{MergedMap}
use Rattle.tgap_model.specs.Chains.{Chain, first_point, last_point, degree, chain_start, chain_end, key, turned_round, touches, toward, join_at, directed, is_directed}
use Rattle.tgap_model.proofs.Points.{same_point-true, same_point-from}
use Rattle.map_laws.proofs.ChainMembers.{Among, filter_among}
use Rattle.map_laws.proofs.Lists.{kept_among, among_kept, map_among, among_map, sort_among, among_sort, sum_nothing}
use Rattle.map_laws.proofs.JoinPaths.{turned_start, turned_end}
use Rattle.map_laws.proofs.JoinEnds.{chain_ends, touching_ends, other_ends}
use Rattle.map_laws.proofs.JoinSteps.{AreJoined, joined_with, one_end, ends_degree, join_step}
use Rattle.map_laws.proofs.JoinAll.{AreNext, rest_next, comes_later}
use Rattle.order_laws.specs.NodeOrder.{Way, start_end, finish_end}
use Rattle.order_laws.proofs.RowWays.{HasWay, way_joined, joined_way, none_joined}
use Rattle.order_laws.proofs.ChainWays.{points_along, ChainWay, IsWay, KeepsEnds, first_along, last_along, keeps_turned, way_turned, turned_way, keeps_append, append_is}

module _ (h : MergedMap) (k : ℕ) (rs : List Removal) where
  -- ---- the same ways

  -- both lists of chains have the same ways out of the node, or the second has none
  abbrev pub SameWays : List Chain → List Chain → Point → Type 0
  SameWays cs ds v =
      ((w : Way) → (IsWay h.base.arcs rs cs v w → IsWay h.base.arcs rs ds v w) × (IsWay h.base.arcs rs ds v w → IsWay h.base.arcs rs cs v w))
      ⊎ ((w : Way) → IsWay h.base.arcs rs ds v w → ⊥)

  pub ways_self : (cs : List Chain) (v : Point) → SameWays cs cs v
  ways_self cs v = inl (λ w. ((λ i. i), (λ i. i)))

  pub ways_then : (cs ds es : List Chain) (v : Point) → SameWays cs ds v → SameWays ds es v → SameWays cs es v
  ways_then cs ds es v (inl a) (inl b) = inl (λ w. ((λ i. (b w).0 ((a w).0 i)), (λ i. (a w).1 ((b w).1 i))))
  ways_then cs ds es v (inr a) (inl b) = inr (λ w i. a w ((b w).1 i))
  ways_then cs ds es v a (inr b) = inr b

  -- ---- a chain with one end at a point

  -- t is c or c turned round; it ends at the point, and does not start there
  record IsLed (p : Point) (c t : Chain) : Type 0 where
    keeps : KeepsEnds h.base.arcs rs t
    ends : chain_end h.base.arcs t ≡ p
    apart : chain_start h.base.arcs t ≢ p
    there : (v : Point) (w : Way) → ChainWay h.base.arcs rs c v w → ChainWay h.base.arcs rs t v w
    back : (v : Point) (w : Way) → ChainWay h.base.arcs rs t v w → ChainWay h.base.arcs rs c v w

  led : (p : Point) (c : Chain) → KeepsEnds h.base.arcs rs c → touches h.base.arcs p c ≡ true → chain_ends h.base.arcs p c ≡ 1
      → IsLed p c (toward h.base.arcs p c)
  led p c keeps t one = by (same_point (chain_end h.base.arcs c) p) refl
    where
      by : (b : Bool) → same_point (chain_end h.base.arcs c) p ≡ b → IsLed p c (cond b c (turned_round c))
      by true e = record {
        keeps = keeps;
        ends = same_point-true _ _ e;
        apart = λ s. one_end (same_point (chain_start h.base.arcs c) p) (same_point (chain_end h.base.arcs c) p) one (same_point-from _ _ s) e;
        there = λ v w i. i;
        back = λ v w i. i;
      }
      by false e =
          let here : chain_start h.base.arcs c ≡ p
          = elim (or_cases (same_point (chain_start h.base.arcs c) p) (same_point (chain_end h.base.arcs c) p) t) [
            | inl s ↦ same_point-true _ _ s
            | inr s ↦ absurd (true≢false (sym s ∙ e))
          ] in
          record {
            keeps = keeps_turned h.base.arcs rs c keeps;
            ends = turned_end h.base.arcs c ∙ here;
            apart = λ s. true≢false (sym (same_point-from _ _ (sym (turned_start h.base.arcs c) ∙ s)) ∙ e);
            there = way_turned h.base.arcs rs c keeps;
            back = turned_way h.base.arcs rs c keeps;
          }

  -- ---- one join

  module _ (J : Point → Type 0) (cs : List Chain) (a : AreJoined h k J cs) (p : Point) (two : degree h k p ≡ 2) (fresh : J p → ⊥)
      (keeps : (c : Chain) → Among c cs → KeepsEnds h.base.arcs rs c) where
    abbrev others : List Chain
    others = filter (λ e. not (touches h.base.arcs p e)) cs

    -- two ends are at the node
    touching_two : sum_by (chain_ends h.base.arcs p) (filter (touches h.base.arcs p) cs) ≡ 2
    touching_two =
        let split : sum_by (chain_ends h.base.arcs p) (filter (touches h.base.arcs p) cs) + sum_by (chain_ends h.base.arcs p) others
        ≡ sum_by (chain_ends h.base.arcs p) cs
        = sum_by-filter_both (touches h.base.arcs p) (λ e. not (touches h.base.arcs p e)) (λ e. refl) (chain_ends h.base.arcs p) cs in
        let rest : sum_by (chain_ends h.base.arcs p) others ≡ 0
        = sum_nothing (chain_ends h.base.arcs p) others
        (λ e m. other_ends h.base.arcs p e (not-true _ (filter_among (λ e. not (touches h.base.arcs p e)) cs e m))) in
        omega (arith, split, rest, ends_degree h k J cs a p fresh, two)

    old : (e : Chain) → Among e others → Among e cs
    old e n = kept_among (λ e. not (touches h.base.arcs p e)) cs e n

    -- the others have no end at the node
    away : (c : Chain) → Among c others → (w : Way) → ChainWay h.base.arcs rs c p w → ⊥
    away c m w =
        let test = or_parts (same_point (chain_start h.base.arcs c) p) (same_point (chain_end h.base.arcs c) p)
        (not-true _ (filter_among (λ e. not (touches h.base.arcs p e)) cs c m)) in
        by test.0 test.1
      where
        q : KeepsEnds h.base.arcs rs c
        q = keeps c (old c m)

        by : same_point (chain_start h.base.arcs c) p ≡ false → same_point (chain_end h.base.arcs c) p ≡ false → ChainWay h.base.arcs rs c p w → ⊥
        by f g (inl (s, e)) = true≢false (sym (same_point-from _ _ (sym (first_along h.base.arcs rs c q) ∙ s)) ∙ f)
        by f g (inr (s, e)) = true≢false (sym (same_point-from _ _ (sym (last_along h.base.arcs rs c q) ∙ s)) ∙ g)

    -- two chains touch the node, with one end each
    module _ (c d : Chain) (is : filter (touches h.base.arcs p) cs ≡ c ∷ d ∷ []) where
      counts : chain_ends h.base.arcs p c + chain_ends h.base.arcs p d ≡ 2
      counts =
          omega (
            arith,
            ap (sum_by (chain_ends h.base.arcs p)) is,
            touching_two,
            sum_by-cons (chain_ends h.base.arcs p) c (d ∷ []),
            sum_by-cons (chain_ends h.base.arcs p) d [],
          )

      passes : (e : Chain) → Among e (c ∷ d ∷ []) → touches h.base.arcs p e ≡ true
      passes e m = filter_among (touches h.base.arcs p) cs e (subst (Among e) (sym is) m)

      member : (e : Chain) → Among e (c ∷ d ∷ []) → Among e cs
      member e m = kept_among (touches h.base.arcs p) cs e (subst (Among e) (sym is) m)

      first : IsLed p c (toward h.base.arcs p c)
      first = led p c (keeps c (member c (inl refl))) (passes c (inl refl))
          (omega (arith, counts, touching_ends h.base.arcs p c (passes c (inl refl)), touching_ends h.base.arcs p d (passes d (inr (inl refl)))))

      second : IsLed p d (toward h.base.arcs p d)
      second = led p d (keeps d (member d (inr (inl refl)))) (passes d (inr (inl refl)))
          (omega (arith, counts, touching_ends h.base.arcs p c (passes c (inl refl)), touching_ends h.base.arcs p d (passes d (inr (inl refl)))))

      -- the first one up to the node, and the second one from it on
      abbrev x : Chain
      x = toward h.base.arcs p c

      abbrev y : Chain
      y = turned_round (toward h.base.arcs p d)

      y_keeps : KeepsEnds h.base.arcs rs y
      y_keeps = keeps_turned h.base.arcs rs (toward h.base.arcs p d) second.keeps

      y_start : chain_start h.base.arcs y ≡ p
      y_start = turned_start h.base.arcs (toward h.base.arcs p d) ∙ second.ends

      y_apart : chain_end h.base.arcs y ≢ p
      y_apart s = second.apart (sym (turned_end h.base.arcs (toward h.base.arcs p d)) ∙ s)

      new_keeps : KeepsEnds h.base.arcs rs (x ++ y)
      new_keeps = keeps_append h.base.arcs rs x y first.keeps y_keeps (first.ends ∙ sym y_start)

      x_last : last_point (points_along h.base.arcs rs x) ≡ p
      x_last = last_along h.base.arcs rs x first.keeps ∙ first.ends

      y_first : first_point (points_along h.base.arcs rs y) ≡ p
      y_first = first_along h.base.arcs rs y y_keeps ∙ y_start

      x_first : first_point (points_along h.base.arcs rs x) ≢ p
      x_first s = first.apart (sym (first_along h.base.arcs rs x first.keeps) ∙ s)

      y_last : last_point (points_along h.base.arcs rs y) ≢ p
      y_last s = y_apart (sym (last_along h.base.arcs rs y y_keeps) ∙ s)

      -- the row that they become
      abbrev HasJoined : Point → Way → Type 0
      HasJoined v w = HasWay v (start_end x) (finish_end y) (points_along h.base.arcs rs x ++ drop 1 (points_along h.base.arcs rs y)) w

      joined : (v : Point) → v ≢ p → (w : Way) → ChainWay h.base.arcs rs x v w ⊎ ChainWay h.base.arcs rs y v w → ChainWay h.base.arcs rs (x ++ y) v w
      joined v other w i =
          subst (λ T. T) (append_is h.base.arcs rs x y first.keeps y_keeps v w)
          (way_joined (points_along h.base.arcs rs x) (points_along h.base.arcs rs y) (start_end x) (finish_end x) (start_end y) (finish_end y) p
          x_last y_first x_first y_last v other w i)

      parted : (v : Point) (w : Way) → ChainWay h.base.arcs rs (x ++ y) v w → HasJoined v w
      parted v w i = subst (λ T. T) (sym (append_is h.base.arcs rs x y first.keeps y_keeps v w)) i

      -- the ways of both
      of_first : (v : Point) → v ≢ p → (w : Way) → ChainWay h.base.arcs rs c v w → ChainWay h.base.arcs rs (x ++ y) v w
      of_first v other w i = joined v other w (inl (first.there v w i))

      of_second : (v : Point) → v ≢ p → (w : Way) → ChainWay h.base.arcs rs d v w → ChainWay h.base.arcs rs (x ++ y) v w
      of_second v other w i =
          joined v other w (inr (way_turned h.base.arcs rs (toward h.base.arcs p d) second.keeps v w (second.there v w i)))

      of_both : (v : Point) (w : Way) → ChainWay h.base.arcs rs (x ++ y) v w → ChainWay h.base.arcs rs c v w ⊎ ChainWay h.base.arcs rs d v w
      of_both v w i =
          elim (joined_way (points_along h.base.arcs rs x) (points_along h.base.arcs rs y) (start_end x) (finish_end x) (start_end y) (finish_end y) p
          x_last y_first x_first y_last v w (parted v w i)) [
            | inl j ↦ inl (first.back v w j)
            | inr j ↦ inr (second.back v w (turned_way h.base.arcs rs (toward h.base.arcs p d) second.keeps v w j))
          ]

      none_there : (w : Way) → ChainWay h.base.arcs rs (x ++ y) p w → ⊥
      none_there w i =
          none_joined (points_along h.base.arcs rs x) (points_along h.base.arcs rs y) (start_end x) (finish_end x) (start_end y) (finish_end y) p
          x_last y_first x_first y_last w (parted p w i)

      two_join : (v : Point) → SameWays cs ((x ++ y) ∷ others) v
      two_join v = by (same_point v p) refl
        where
          none : (w : Way) → IsWay h.base.arcs rs ((x ++ y) ∷ others) p w → ⊥
          none w (e, inl same, i) = none_there w (subst (λ e. ChainWay h.base.arcs rs e p w) (sym same) i)
          none w (e, inr n, i) = away e n w i

          there : v ≢ p → (w : Way) → IsWay h.base.arcs rs cs v w → IsWay h.base.arcs rs ((x ++ y) ∷ others) v w
          there other w (e, n, i) = at (touches h.base.arcs p e) refl
            where
              found : Among e (c ∷ d ∷ []) → IsWay h.base.arcs rs ((x ++ y) ∷ others) v w
              found (inl same) = (x ++ y, inl refl, of_first v other w (subst (λ e. ChainWay h.base.arcs rs e v w) (sym same) i))
              found (inr (inl same)) = (x ++ y, inl refl, of_second v other w (subst (λ e. ChainWay h.base.arcs rs e v w) (sym same) i))
              found (inr (inr none)) = absurd none

              at : (b : Bool) → touches h.base.arcs p e ≡ b → IsWay h.base.arcs rs ((x ++ y) ∷ others) v w
              at true t = found (subst (Among e) is (among_kept (touches h.base.arcs p) cs e n t))
              at false t = (e, inr (among_kept (λ e. not (touches h.base.arcs p e)) cs e n (ap not t)), i)

          back : (w : Way) → IsWay h.base.arcs rs ((x ++ y) ∷ others) v w → IsWay h.base.arcs rs cs v w
          back w (e, inl same, i) =
              elim (of_both v w (subst (λ e. ChainWay h.base.arcs rs e v w) (sym same) i)) [
                | inl j ↦ (c, member c (inl refl), j)
                | inr j ↦ (d, member d (inr (inl refl)), j)
              ]
          back w (e, inr n, i) = (e, old e n, i)

          by : (b : Bool) → same_point v p ≡ b → SameWays cs ((x ++ y) ∷ others) v
          by true e = inr (subst (λ q. (w : Way) → IsWay h.base.arcs rs ((x ++ y) ∷ others) q w → ⊥) (sym (same_point-true v p e)) none)
          by false e = inl (λ w. (there (λ s. true≢false (sym (same_point-from v p s) ∙ e)) w, back w))

    -- the chains after the join
    abbrev Joins : List Chain → Type 0
    Joins ds = ((v : Point) → SameWays cs ds v) × ((c : Chain) → Among c ds → KeepsEnds h.base.arcs rs c)

    pub join_ways : Joins (join_at h.base.arcs cs p)
    join_ways = by (filter (touches h.base.arcs p) cs) refl
      where
        by : (found : List Chain) → filter (touches h.base.arcs p) cs ≡ found → Joins (joined_with h.base.arcs cs p found)
        by [] is = (ways_self cs, keeps)
        by (c ∷ []) is = (ways_self cs, keeps)
        by (c ∷ d ∷ []) is = (
          two_join c d is,
          λ e m. elim m [ inl s ↦ subst (KeepsEnds h.base.arcs rs) s (new_keeps c d is) | inr n ↦ keeps e (old e n) ],
        )
        by (c ∷ d ∷ e ∷ more) is =
            let at : (x : Chain) → Among x (c ∷ d ∷ e ∷ more) → touches h.base.arcs p x ≡ true
            = λ x m. filter_among (touches h.base.arcs p) cs x (subst (Among x) (sym is) m) in
            absurd (omega (
              arith,
              ap (sum_by (chain_ends h.base.arcs p)) is,
              touching_two,
              sum_by-cons (chain_ends h.base.arcs p) c (d ∷ e ∷ more),
              sum_by-cons (chain_ends h.base.arcs p) d (e ∷ more),
              sum_by-cons (chain_ends h.base.arcs p) e more,
              touching_ends h.base.arcs p c (at c (inl refl)),
              touching_ends h.base.arcs p d (at d (inr (inl refl))),
              touching_ends h.base.arcs p e (at e (inr (inr (inl refl)))),
            ))

  -- ---- all joins

  joins_ways : (ps : List Point) (J : Point → Type 0) (cs : List Chain) → AreJoined h k J cs → AreNext h k J ps
      → ((c : Chain) → Among c cs → KeepsEnds h.base.arcs rs c)
      → ((v : Point) → SameWays cs (fold (join_at h.base.arcs) cs ps) v)
      × ((c : Chain) → Among c (fold (join_at h.base.arcs) cs ps) → KeepsEnds h.base.arcs rs c)
  joins_ways [] J cs a n keeps = (ways_self cs, keeps)
  joins_ways (p ∷ ps) J cs a n keeps =
      let one = join_ways J cs a p (n.two p (inl refl)) (n.apart p (inl refl)) keeps in
      let rest = joins_ways ps (λ q. J q ⊎ (q ≡ p)) (join_at h.base.arcs cs p)
      (join_step h k J cs a p (n.two p (inl refl)) (n.apart p (inl refl)) (comes_later h k J p ps n))
      (rest_next h k J p ps n) one.1 in
      ((λ v. ways_then cs (join_at h.base.arcs cs p) (fold (join_at h.base.arcs) (join_at h.base.arcs cs p) ps) v (one.0 v) (rest.0 v)), rest.1)

  -- ---- chains in the direction of their least arc, in the order of their keys

  way_directed : (c : Chain) → KeepsEnds h.base.arcs rs c → (v : Point) (w : Way)
      → (ChainWay h.base.arcs rs c v w → ChainWay h.base.arcs rs (directed c) v w) × (ChainWay h.base.arcs rs (directed c) v w → ChainWay h.base.arcs rs c v w)
  way_directed c keeps v w = by (is_directed c)
    where
      by : (b : Bool) → (ChainWay h.base.arcs rs c v w → ChainWay h.base.arcs rs (cond b c (turned_round c)) v w)
          × (ChainWay h.base.arcs rs (cond b c (turned_round c)) v w → ChainWay h.base.arcs rs c v w)
      by true = ((λ i. i), (λ i. i))
      by false = (way_turned h.base.arcs rs c keeps v w, turned_way h.base.arcs rs c keeps v w)

  ways_directed : (cs : List Chain) → ((c : Chain) → Among c cs → KeepsEnds h.base.arcs rs c) → (v : Point)
      → SameWays cs (sort_by (λ c d. nat_lt (key c) (key d)) (map directed cs)) v
  ways_directed cs keeps v = inl (λ w. (
    (λ i.
        let c = i.0 in (
          directed c,
          among_sort (λ c d. nat_lt (key c) (key d)) (map directed cs) (directed c) (among_map directed cs c i.1),
          (way_directed c (keeps c i.1) v w).0 i.2,
        )),
    (λ i.
        let c = map_among directed cs i.0 (sort_among (λ c d. nat_lt (key c) (key d)) (map directed cs) i.0 i.1) in (
          c.0,
          c.1,
          (way_directed c.0 (keeps c.0 c.1) v w).1 (subst (λ e. ChainWay h.base.arcs rs e v w) (sym c.2) i.2),
        )),
  ))

  -- chains that are joined at all these points, in the order of their keys
  pub joined_ways : (ps : List Point) (J : Point → Type 0) (cs : List Chain) → AreJoined h k J cs → AreNext h k J ps
      → ((c : Chain) → Among c cs → KeepsEnds h.base.arcs rs c) → (v : Point)
      → SameWays cs (sort_by (λ c d. nat_lt (key c) (key d)) (map directed (fold (join_at h.base.arcs) cs ps))) v
  joined_ways ps J cs a n keeps v =
      let all = joins_ways ps J cs a n keeps in
      let joined = fold (join_at h.base.arcs) cs ps in
      ways_then cs joined (sort_by (λ c d. nat_lt (key c) (key d)) (map directed joined)) v (all.0 v) (ways_directed joined all.1 v)
