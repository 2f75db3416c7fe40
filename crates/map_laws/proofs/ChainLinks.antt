-- What the tests of a list of chains tell of the links of its chains.
use Rattle.std.proofs.Common.{◌≡◌, ◌⊎◌, inl, inr, ℕ, zero, suc, ◌+◌, ◌<◌, ◌≤◌, min, Bool, true, false, not, ◌||◌, ◌==◌, nat_lt, List, [], ◌∷◌, map, length, refl, sym, ap, ◌∙◌, arith, if◌then◌else◌}
use Rattle.std.specs.Prelude.{count_by, flat_map}
use Rattle.std.specs.List.{list_all, list_any, range_with_len}
use Rattle.std.proofs.lemmas.Bool.{and_parts, or_cases, not-true, ltb-true, eqb-true, eqb-false, eq-eqb, cases_eq, cases_lt, both_ways, not_from_true}
use Rattle.lemmas.specs.Sorting.{is_sorted_by}
use Rattle.tgap_model.specs.declared.base.BaseArc.{BaseArc}
use Rattle.tgap_model.specs.Base.{same_point}
use Rattle.tgap_model.specs.Merged.{MergedMap, is_border}
use Rattle.tgap_model.specs.Chains.{arc_number, border_numbers, degree, joins_before, Link, Chain, link_start, link_end, chain_end, least, key, is_joined, is_closed, is_maximal, is_anchored, is_directed, has_links, covers_border, is_chain, are_chains}
use Rattle.map_laws.proofs.ChainMembers.{Among, AreDistinct, all_among, any_among, filter_among, joined_among, count_passes, count_grows, among_counts, one_passes, part_counts}
use Rattle.map_laws.proofs.ChainWalks.{IsRow, last_of, last_among}
use Rattle.tgap_model.proofs.Points.{same_point-true, same_point-from}
use Rattle.map_laws.proofs.ChainEnds.{turn_apart, IsBorderLink, IsWayOn}

-- ---- the key of a chain

-- the least number is no more than the first one
least_first : (n : ℕ) (chain : Chain) → least n (map (λ e. e.arc) chain) ≤ n
least_first n [] = omega arith
least_first n (e ∷ chain) = omega (arith, least_first (min n e.arc) chain)

-- and no more than any other
least_other : (n : ℕ) (chain : Chain) (e : Link) → Among e chain → least n (map (λ e. e.arc) chain) ≤ e.arc
least_other n [] e m = absurd m
least_other n (f ∷ chain) e (inl s) =
    let a : f.arc ≡ e.arc = ap (λ (d : Link). d.arc) s in
    omega (arith, least_first (min n f.arc) chain)
least_other n (f ∷ chain) e (inr m) = least_other (min n f.arc) chain e m

-- it is one of them
least_is : (n : ℕ) (chain : Chain) → (least n (map (λ e. e.arc) chain) ≡ n) ⊎ ((e : Link) × Among e chain × (e.arc ≡ least n (map (λ e. e.arc) chain)))
least_is n [] = inl refl
least_is n (f ∷ chain) =
    elim (least_is (min n f.arc) chain) [
      | inl s ↦ elim (cases_lt f.arc n) [
        | inl below ↦ inr (f, inl refl, omega arith)
        | inr above ↦ inl (omega arith)
      ]
      | inr m ↦ inr (m.0, inr m.1, m.2)
    ]

-- the key is no more than the number of any arc of the chain
pub key_least : (d : Link) (chain : Chain) (e : Link) → Among e (d ∷ chain) → key (d ∷ chain) ≤ e.arc
key_least d chain e (inl s) =
    let a : d.arc ≡ e.arc = ap (λ (l : Link). l.arc) s in
    omega (arith, least_first d.arc chain)
key_least d chain e (inr m) = least_other d.arc chain e m

-- and is that of one
pub key_among : (d : Link) (chain : Chain) → (e : Link) × Among e (d ∷ chain) × (e.arc ≡ key (d ∷ chain))
key_among d chain =
    elim (least_is d.arc chain) [
      | inl s ↦ (d, inl refl, sym s)
      | inr m ↦ (m.0, inr m.1, m.2)
    ]

-- ---- one chain

-- a chain ends where its last link does
chain_end_last : (arcs : List BaseArc) (d : Link) (chain : Chain) → chain_end arcs (d ∷ chain) ≡ link_end arcs (last_of d chain)
chain_end_last arcs d [] = refl
chain_end_last arcs d (e ∷ chain) = chain_end_last arcs e chain

-- links of which no two have one arc are distinct
distinct_links : (chain : Chain) → ((e : Link) → Among e chain → count_by (λ f. f.arc == e.arc) chain ≤ 1) → AreDistinct chain
distinct_links [] single = tt
distinct_links (d ∷ chain) single = (
  (λ m. absurd (omega (
    arith,
    single d (inl refl),
    count_passes (λ (f : Link). f.arc == d.arc) d chain (eq-eqb d.arc d.arc refl),
    among_counts (λ (f : Link). f.arc == d.arc) chain d m (eq-eqb d.arc d.arc refl),
  ))),
  distinct_links chain (λ e m. omega (arith, single e (inr m), count_grows (λ (f : Link). f.arc == e.arc) d chain)),
)

module _ (h : MergedMap) (k : ℕ) where
  -- two links that meet at a node of degree two, of different arcs
  way_on : (d e : Link) → IsBorderLink h k d → IsBorderLink h k e → link_end h.base.arcs d ≡ link_start h.base.arcs e
      → degree h k (link_end h.base.arcs d) ≡ 2 → (d.arc ≡ e.arc → d ≡ e) → IsWayOn h k d e
  way_on d e bd be meets two once = record {
    from = bd;
    to = be;
    meets = meets;
    two = two;
    apart = λ q. turn_apart d (q ∙ sym (once (ap (λ (l : Link). l.arc) q)));
  }

  -- joined links are a row
  joined_row : (chain : Chain) → is_joined h k chain ≡ true → ((e : Link) → Among e chain → IsBorderLink h k e)
      → ((e f : Link) → Among e chain → Among f chain → e.arc ≡ f.arc → e ≡ f) → IsRow (IsWayOn h k) chain
  joined_row [] j border once = tt
  joined_row (d ∷ []) j border once = tt
  joined_row (d ∷ e ∷ chain) j border once =
      let both = and_parts _ _ j in
      let here = and_parts (same_point (link_end h.base.arcs d) (link_start h.base.arcs e)) _ both.0 in (
        way_on d e (border d (inl refl)) (border e (inr (inl refl))) (same_point-true _ _ here.0) (eqb-true _ _ here.1) (once d e (inl refl) (inr (inl refl))),
        joined_row (e ∷ chain) both.1 (λ f m. border f (inr m)) (λ f g m n. once f g (inr m) (inr n)),
      )

  -- The chain d ∷ chain is a row of links of border arcs, each arc once. It closes at a node of degree two, its anchor, or has
  -- no end at one, and it has the direction of its least arc.
  pub record IsWholeChain (d : Link) (chain : Chain) : Type 0 where
    pub row : IsRow (IsWayOn h k) (d ∷ chain)
    pub ends : IsWayOn h k (last_of d chain) d
        ⊎ ((degree h k (link_start h.base.arcs d) ≡ 2 → ⊥) × (degree h k (link_end h.base.arcs (last_of d chain)) ≡ 2 → ⊥))
    pub border : (e : Link) → Among e (d ∷ chain) → IsBorderLink h k e
    pub once : (e f : Link) → Among e (d ∷ chain) → Among f (d ∷ chain) → e.arc ≡ f.arc → e ≡ f
    pub distinct : AreDistinct (d ∷ chain)
    pub anchor : IsWayOn h k (last_of d chain) d → (e : Link) → Among e (d ∷ chain)
        → joins_before h k (link_start h.base.arcs d) (link_start h.base.arcs e) ≡ false
    pub directed : (e : Link) → Among e (d ∷ chain) → e.arc ≡ key (d ∷ chain) → e.turned ≡ false

  module _ (d : Link) (chain : Chain) (border : (e : Link) → Among e (d ∷ chain) → IsBorderLink h k e)
      (once : (e f : Link) → Among e (d ∷ chain) → Among f (d ∷ chain) → e.arc ≡ f.arc → e ≡ f) where
    -- what the test of the ends says
    ends_from : is_maximal h k (d ∷ chain) ≡ true
        → IsWayOn h k (last_of d chain) d
        ⊎ ((degree h k (link_start h.base.arcs d) ≡ 2 → ⊥) × (degree h k (link_end h.base.arcs (last_of d chain)) ≡ 2 → ⊥))
    ends_from t = elim (or_cases (is_closed h.base.arcs (d ∷ chain)) _ t) [
      | inl closed ↦
          let meets : link_start h.base.arcs d ≡ link_end h.base.arcs (last_of d chain) = same_point-true _ _ closed ∙ chain_end_last h.base.arcs d chain in
          elim (cases_eq (degree h k (link_start h.base.arcs d)) 2) [
            | inl two ↦ inl (way_on (last_of d chain) d (border _ (last_among d chain)) (border d (inl refl)) (sym meets)
                (ap (degree h k) (sym meets) ∙ two) (once _ d (last_among d chain) (inl refl)))
            | inr other ↦ inr (other, λ e. other (ap (degree h k) meets ∙ e))
          ]
      | inr apart ↦
          let parts = and_parts _ _ apart in
          inr (
            eqb-false _ _ (not-true _ parts.0),
            λ e. eqb-false (degree h k (chain_end h.base.arcs (d ∷ chain))) 2 (not-true _ parts.1) (ap (degree h k) (chain_end_last h.base.arcs d chain) ∙ e),
          )
    ]

    -- what the test of the anchor says
    anchor_from : is_anchored h k (d ∷ chain) ≡ true → IsWayOn h k (last_of d chain) d → (e : Link) → Among e (d ∷ chain)
        → joins_before h k (link_start h.base.arcs d) (link_start h.base.arcs e) ≡ false
    anchor_from t u e m =
        let meets : link_start h.base.arcs d ≡ chain_end h.base.arcs (d ∷ chain) = sym u.meets ∙ sym (chain_end_last h.base.arcs d chain) in
        let closed : is_closed h.base.arcs (d ∷ chain) ≡ true = same_point-from _ _ meets in
        let two : (degree h k (link_start h.base.arcs d) == 2) ≡ true = eq-eqb _ _ (ap (degree h k) (sym u.meets) ∙ u.two) in
        elim (or_cases (not (is_closed h.base.arcs (d ∷ chain)) || not (degree h k (link_start h.base.arcs d) == 2)) _ t) [
          | inl other ↦ elim (or_cases (not (is_closed h.base.arcs (d ∷ chain))) _ other) [
            | inl f ↦ absurd (both_ways _ (not_from_true _ closed) f)
            | inr f ↦ absurd (both_ways _ (not_from_true _ two) f)
          ]
          | inr all ↦ not-true _ (all_among (λ f. not (joins_before h k (link_start h.base.arcs d) (link_start h.base.arcs f))) (d ∷ chain) e all m)
        ]

    -- what the test of the direction says
    directed_from : is_directed (d ∷ chain) ≡ true → (e : Link) → Among e (d ∷ chain) → e.arc ≡ key (d ∷ chain) → e.turned ≡ false
    directed_from t e m s =
        elim (or_cases (not (e.arc == key (d ∷ chain))) _ (all_among (λ f. not (f.arc == key (d ∷ chain)) || not f.turned) (d ∷ chain) e t m)) [
          | inl other ↦ absurd (both_ways _ (not_from_true _ (eq-eqb e.arc (key (d ∷ chain)) s)) other)
          | inr f ↦ not-true _ f
        ]

  -- a chain that passes, of border arcs of which each stands once in it
  whole_chain : (d : Link) (chain : Chain) → is_chain h k (d ∷ chain) ≡ true → ((e : Link) → Among e (d ∷ chain) → IsBorderLink h k e)
      → ((e : Link) → Among e (d ∷ chain) → count_by (λ f. f.arc == e.arc) (d ∷ chain) ≤ 1) → IsWholeChain d chain
  whole_chain d chain t border single =
      let a = and_parts _ (is_directed (d ∷ chain)) t in
      let b = and_parts _ (is_anchored h k (d ∷ chain)) a.0 in
      let c = and_parts _ (is_maximal h k (d ∷ chain)) b.0 in
      let j = and_parts (has_links (d ∷ chain)) (is_joined h k (d ∷ chain)) c.0 in
      let once : (e f : Link) → Among e (d ∷ chain) → Among f (d ∷ chain) → e.arc ≡ f.arc → e ≡ f
      = λ e f m n s. one_passes (λ (g : Link). g.arc == e.arc) (d ∷ chain) e f (single e m) m n (eq-eqb e.arc e.arc refl) (eq-eqb f.arc e.arc (sym s)) in
      record {
        row = joined_row (d ∷ chain) j.1 border once;
        ends = ends_from d chain border once c.1;
        border = border;
        once = once;
        distinct = distinct_links (d ∷ chain) single;
        anchor = anchor_from d chain border once b.1;
        directed = directed_from d chain border once a.1;
      }

-- ---- the list of chains

-- the numbers of a range
range_among : (a n i : ℕ) → a ≤ i → i < a + n → Among i (range_with_len a n)
range_among a zero i l u = absurd (omega arith)
range_among a (suc n) i l u = elim (cases_eq a i) [ inl e ↦ inl e | inr apart ↦ inr (range_among (a + 1) n i (omega arith) (omega arith)) ]

-- a number that is one or none by a test: where it is not none the test passes
count_test : (b : Bool) (n : ℕ) → n ≡ (if b then 1 else 0) → 1 ≤ n → b ≡ true
count_test true n e l = refl
count_test false n e l = absurd (omega arith)

-- and it is one at most
count_most : (b : Bool) (n : ℕ) → n ≡ (if b then 1 else 0) → n ≤ 1
count_most true n e = omega arith
count_most false n e = omega arith

module _ (h : MergedMap) (k : ℕ) (cs : List Chain) (t : are_chains h k cs ≡ true) where
  -- the three tests
  tests : (list_all (is_chain h k) cs ≡ true) × (covers_border h k cs ≡ true) × (is_sorted_by (λ c d. nat_lt (key c) (key d)) cs ≡ true)
  unfolding are_chains
  tests =
      let a = and_parts _ (is_sorted_by (λ c d. nat_lt (key c) (key d)) cs) t in
      let b = and_parts (list_all (is_chain h k) cs) (covers_border h k cs) a.0 in
      (b.0, b.1, a.1)

  -- the chains stand in the order of their keys
  pub chains_sorted : is_sorted_by (λ c d. nat_lt (key c) (key d)) cs ≡ true
  chains_sorted = tests.2

  -- how often an arc stands in them
  pub chains_count : (i : ℕ) → i < length h.base.arcs
      → count_by (λ d. d.arc == i) (flat_map (λ c. c) cs) ≡ (if list_any (λ j. j == i) (border_numbers h k) then 1 else 0)
  chains_count i l =
      eqb-true _ _ (all_among
      (λ i. count_by (λ d. d.arc == i) (flat_map (λ c. c) cs) == (if list_any (λ j. j == i) (border_numbers h k) then 1 else 0))
      (range_with_len 0 (length h.base.arcs)) i (and_parts _ _ tests.1).0 (range_among 0 (length h.base.arcs) i (omega arith) (omega arith)))

  -- each of their links has an arc
  pub chains_within : (d : Link) → Among d (flat_map (λ c. c) cs) → d.arc < length h.base.arcs
  chains_within d m = ltb-true _ _ (all_among (λ d. nat_lt d.arc (length h.base.arcs)) (flat_map (λ c. c) cs) d (and_parts _ _ tests.1).1 m)

  -- which is counted
  pub chains_counted : (d : Link) → Among d (flat_map (λ c. c) cs) → 1 ≤ count_by (λ e. e.arc == d.arc) (flat_map (λ c. c) cs)
  chains_counted d m = among_counts (λ (e : Link). e.arc == d.arc) (flat_map (λ c. c) cs) d m (eq-eqb d.arc d.arc refl)

  -- and borders a face
  pub chains_border : (d : Link) → Among d (flat_map (λ c. c) cs) → IsBorderLink h k d
  chains_border d m =
      let found = any_among (λ j. j == d.arc) (border_numbers h k) (count_test _ _ (chains_count d.arc (chains_within d m)) (chains_counted d m)) in
      let passes = filter_among (λ i. is_border h k (arc_number h.base.arcs i)) (range_with_len 0 (length h.base.arcs)) found.0 found.1 in
      record {
        within = chains_within d m;
        border = ap (λ i. is_border h k (arc_number h.base.arcs i)) (sym (eqb-true _ _ found.2)) ∙ passes;
      }

  -- each chain has a first link, and is whole
  pub chains_whole : (c : Chain) → Among c cs → (d : Link) × (chain : Chain) × (c ≡ d ∷ chain) × IsWholeChain h k d chain
  chains_whole [] m = absurd (both_ways false refl (all_among (is_chain h k) cs [] tests.0 m))
  chains_whole (d ∷ chain) m = (
    d,
    chain,
    refl,
    whole_chain h k d chain (all_among (is_chain h k) cs (d ∷ chain) tests.0 m)
        (λ e n. chains_border e (joined_among cs (d ∷ chain) e m n))
        (λ e n.
        let all = joined_among cs (d ∷ chain) e m n in
        let few = count_most _ _ (chains_count e.arc (chains_within e all)) in
        omega (arith, few, part_counts (λ (f : Link). f.arc == e.arc) cs (d ∷ chain) m)),
  )
