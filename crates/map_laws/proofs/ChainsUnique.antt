-- Two lists of chains that both pass are one: chains that share an arc are one, and so both lists have the same members.
use Rattle.std.proofs.Common.{◌≡◌, inl, inr, ℕ, ◌≤◌, true, not, ◌==◌, List, ◌∷◌, refl, sym, ap, ◌∙◌, subst, arith}
use Rattle.std.specs.Prelude.{count_by, flat_map}
use Rattle.std.proofs.lemmas.Bool.{eqb-true, true≢false}
use Rattle.tgap_model.specs.Merged.{MergedMap}
use Rattle.tgap_model.specs.Chains.{degree, Link, Chain, link_start, link_end, key, are_chains}
use Rattle.map_laws.specs.ChainLaws.{ChainsAreUnique}
use Rattle.map_laws.proofs.ChainMembers.{Among, joined_among, among_joined, counted_among, sorted_same}
use Rattle.map_laws.proofs.ChainWalks.{last_of, last_among, next_among, prev_among, row_spread, row_same}
use Rattle.map_laws.proofs.ChainEnds.{joins_order, turn, turn_twice, turn_apart, arc_links, IsWayOn, way_on_only, way_on_turned, way_on_back}
use Rattle.map_laws.proofs.ChainLinks.{key_least, key_among, IsWholeChain, chains_sorted, chains_count, chains_within, chains_counted, chains_whole}

module _ (h : MergedMap) (k : ℕ) where
  -- ---- the ways on stay in a chain

  -- the way on of a link of a chain is in the chain
  stays_forth : (d : Link) (chain : Chain) → IsWholeChain h k d chain → (y z : Link) → IsWayOn h k y z → Among y (d ∷ chain) → Among z (d ∷ chain)
  stays_forth d chain w y z u m =
      elim (next_among (IsWayOn h k) d chain y w.row m) [
        | inl e ↦ elim w.ends [
          | inl v ↦ inl (way_on_only (subst (λ l. IsWayOn h k l d) e v) u)
          | inr loose ↦ absurd (loose.1 (ap (λ l. degree h k (link_end h.base.arcs l)) e ∙ u.two))
        ]
        | inr n ↦ subst (λ l. Among l (d ∷ chain)) (way_on_only n.2 u) n.1
      ]

  -- and the link of which it is the way on
  stays_back : (d : Link) (chain : Chain) → IsWholeChain h k d chain → (y z : Link) → IsWayOn h k y z → Among z (d ∷ chain) → Among y (d ∷ chain)
  stays_back d chain w y z u m =
      elim (prev_among (IsWayOn h k) d chain z w.row m) [
        | inl e ↦ elim w.ends [
          | inl v ↦ subst (λ l. Among l (d ∷ chain)) (way_on_back (subst (λ l. IsWayOn h k (last_of d chain) l) e v) u) (last_among d chain)
          | inr loose ↦ absurd (loose.0 (ap (λ l. degree h k (link_start h.base.arcs l)) e ∙ ap (degree h k) (sym u.meets) ∙ u.two))
        ]
        | inr n ↦ subst (λ l. Among l (d ∷ chain)) (way_on_back n.2 u) n.1
      ]

  -- ---- two chains

  module _ (d : Link) (chain : Chain) (w : IsWholeChain h k d chain) (e : Link) (other : Chain) (v : IsWholeChain h k e other) where
    -- where they share a link, the second has all links of the first
    shared : (x : Link) → Among x (d ∷ chain) → Among x (e ∷ other) → (z : Link) → Among z (d ∷ chain) → Among z (e ∷ other)
    shared x m n z o = row_spread (IsWayOn h k) (λ l. Among l (e ∷ other)) (stays_forth e other v) (stays_back e other v) d chain x z w.row m n o

    -- where they share one turned round, it has all of them turned round
    turned : (x : Link) → Among x (d ∷ chain) → Among (turn x) (e ∷ other) → (z : Link) → Among z (d ∷ chain) → Among (turn z) (e ∷ other)
    turned x m n z o =
        row_spread (IsWayOn h k) (λ l. Among (turn l) (e ∷ other)) (λ y z u i. stays_back e other v (turn z) (turn y) (way_on_turned u) i)
        (λ y z u i. stays_forth e other v (turn z) (turn y) (way_on_turned u) i) d chain x z w.row m n o

    -- where they have the same links, their first links are one
    first_same : ((z : Link) → Among z (d ∷ chain) → Among z (e ∷ other)) → ((z : Link) → Among z (e ∷ other) → Among z (d ∷ chain)) → d ≡ e
    first_same there back =
        elim (prev_among (IsWayOn h k) e other d v.row (there d (inl refl))) [
          | inl s ↦ sym s
          | inr x ↦ elim (prev_among (IsWayOn h k) d chain e w.row (back e (inl refl))) [
            | inl s ↦ s
            | inr y ↦ elim w.ends [
              | inr loose ↦ absurd (loose.0 (ap (degree h k) (sym x.2.meets) ∙ x.2.two))
              | inl closed ↦ elim v.ends [
                | inr loose ↦ absurd (loose.0 (ap (degree h k) (sym y.2.meets) ∙ y.2.two))
                | inl shut ↦
                    let starts : link_start h.base.arcs d ≡ link_start h.base.arcs e
                    = joins_order h k _ _ (w.anchor closed e (back e (inl refl))) (v.anchor shut d (there d (inl refl))) in
                    let before : IsWayOn h k x.0 e = record {
                      from = x.2.from;
                      to = v.border e (inl refl);
                      meets = x.2.meets ∙ starts;
                      two = x.2.two;
                      apart = λ q. turn_apart x.0 (q ∙ sym (v.once x.0 e x.1 (inl refl) (ap (λ (l : Link). l.arc) q)));
                    } in
                    way_on_only x.2 before
              ]
            ]
          ]
        ]

    -- no link of the first stands turned round in the second, where each has the direction of its least arc
    opposed : ((z : Link) → Among z (d ∷ chain) → Among (turn z) (e ∷ other)) → ((z : Link) → Among z (e ∷ other) → Among (turn z) (d ∷ chain)) → ⊥
    opposed there back =
        let a = key_among d chain in
        let b = key_among e other in
        let low = key_least e other (turn a.0) (there a.0 a.1) in
        let high = key_least d chain (turn b.0) (back b.0 b.1) in
        let keys : a.0.arc ≡ key (e ∷ other) = omega (arith, a.2, b.2) in
        true≢false (sym (ap not (w.directed a.0 a.1 a.2)) ∙ v.directed (turn a.0) (there a.0 a.1) keys)

  -- chains that share an arc are one
  arc_same : (d : Link) (chain : Chain) → IsWholeChain h k d chain → (e : Link) (other : Chain) → IsWholeChain h k e other
      → (x y : Link) → Among x (d ∷ chain) → Among y (e ∷ other) → x.arc ≡ y.arc → d ∷ chain ≡ e ∷ other
  arc_same d chain w e other v x y m n a =
      elim (arc_links x y a) [
        | inl s ↦
            let there = shared d chain w e other v x m (subst (λ l. Among l (e ∷ other)) (sym s) n) in
            let back = shared e other v d chain w y n (subst (λ l. Among l (d ∷ chain)) s m) in
            row_same (IsWayOn h k) (λ p q r. way_on_only) d e chain other (first_same d chain w e other v there back) w.row v.row w.distinct v.distinct there back
        | inr s ↦ absurd (opposed d chain w e other v
            (turned d chain w e other v x m (subst (λ l. Among l (e ∷ other)) (sym s) n))
            (turned e other v d chain w y n (subst (λ l. Among l (d ∷ chain)) (sym (ap turn (sym s) ∙ turn_twice x)) m)))
      ]

  -- ---- two lists of chains

  -- an arc that is counted stands in a whole chain of the list
  counted_chain : (cs : List Chain) → are_chains h k cs ≡ true → (i : ℕ) → 1 ≤ count_by (λ d. d.arc == i) (flat_map (λ c. c) cs)
      → (d : Link) × (chain : Chain) × Among (d ∷ chain) cs × IsWholeChain h k d chain × (y : Link) × Among y (d ∷ chain) × (y.arc ≡ i)
  counted_chain cs s i l =
      let found = counted_among (λ (d : Link). d.arc == i) (flat_map (λ c. c) cs) l in
      let place = among_joined cs found.0 found.1 in
      by found.0 place.0 place.1 place.2 (eqb-true _ _ found.2) (chains_whole h k cs s place.0 place.1)
    where
      by : (y : Link) (c : Chain) → Among c cs → Among y c → y.arc ≡ i → (d : Link) × (chain : Chain) × (c ≡ d ∷ chain) × IsWholeChain h k d chain
          → (d : Link) × (chain : Chain) × Among (d ∷ chain) cs × IsWholeChain h k d chain × (y : Link) × Among y (d ∷ chain) × (y.arc ≡ i)
      by y c m n a w = (w.0, w.1, subst (λ c. Among c cs) w.2 m, w.3, y, subst (λ c. Among y c) w.2 n, a)

  -- a chain of one list that passes is a chain of another one
  chain_there : (cs ds : List Chain) → are_chains h k cs ≡ true → are_chains h k ds ≡ true → (c : Chain) → Among c cs → Among c ds
  chain_there cs ds s t c m = by c m (chains_whole h k cs s c m)
    where
      -- an arc of the one is counted in the other
      arc_there : (d : Link) → Among d (flat_map (λ c. c) cs) → 1 ≤ count_by (λ e. e.arc == d.arc) (flat_map (λ c. c) ds)
      arc_there d all =
          let within = chains_within h k cs s d all in
          omega (arith, chains_count h k cs s d.arc within, chains_count h k ds t d.arc within, chains_counted h k cs s d all)

      -- so a chain stands there
      whole_there : (d : Link) (chain : Chain) → Among (d ∷ chain) cs → IsWholeChain h k d chain → Among (d ∷ chain) ds
      whole_there d chain m w =
          let found = counted_chain ds t d.arc (arc_there d (joined_among cs (d ∷ chain) d m (inl refl))) in
          subst (λ l. Among l ds) (sym (arc_same d chain w found.0 found.1 found.3 d found.4 (inl refl) found.5 (sym found.6))) found.2

      by : (c : Chain) → Among c cs → (d : Link) × (chain : Chain) × (c ≡ d ∷ chain) × IsWholeChain h k d chain → Among c ds
      by c m w = subst (λ l. Among l ds) (sym w.2) (whole_there w.0 w.1 (subst (λ l. Among l cs) w.2 m) w.3)

-- at most one list is the chains of a map after k steps
pub chains_unique : ChainsAreUnique
chains_unique h k cs ds s t =
    sorted_same key cs ds (chains_sorted h k cs s) (chains_sorted h k ds t) (chain_there h k cs ds s t) (chain_there h k ds cs t s)
