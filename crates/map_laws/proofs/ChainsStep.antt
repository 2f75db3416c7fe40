-- One step of the history: the chains between its loser and its winner go, and the others are joined at the new joints.
use Rattle.std.proofs.Common.{◌≡◌, inl, inr, ℕ, ◌+◌, ◌-◌, ◌<◌, ◌≤◌, ◌==◌, ◌&&◌, not, Bool, true, false, cond, [], filter, length, All, sum_by, refl, sym, ap, ◌∙◌, subst, arith}
use Rattle.std.specs.List.{range_with_len}
use Rattle.std.proofs.lemmas.Bool.{and_parts, and_from, not-true, not_from_false, eq-eqb, eqb-true, eqb-false, ne_eqb, cases_eq}
use Rattle.std.proofs.lemmas.List.Filters.{sum_by-filter_both}
use Rattle.lemmas.proofs.Counts.{sum_by-filter}
use Rattle.tgap_model.specs.declared.geometry.Point.{Point}
use Rattle.tgap_model.specs.Segment.{point_before}
use Rattle.tgap_model.specs.History.{AreNumbered}
use Rattle.tgap_model.specs.Merged.{MergedMap, step_number, is_border}
use Rattle.tgap_model.specs.Chains.{arc_number, border_numbers, ends_at, degree, joins_before, Link, Chain, chain_start, chain_end, chains_at}
use Rattle.tgap_model.specs.Removals.{edge_of}
use Rattle.tgap_model.specs.Records.{is_edge_between}
use Rattle.tgap_model.specs.Slice.{IsEdgeOf}
use Rattle.map_laws.specs.ChainLaws.{has_base_faces, IsEven, HasEvenSides, chains_left, new_joints, ChainsStep}
use Rattle.map_laws.proofs.ChainMembers.{Among, filter_among, joined_among}
use Rattle.map_laws.proofs.ChainLinks.{chains_within, chains_border}
use Rattle.map_laws.proofs.Lists.{all_members, members_all, kept_among, among_kept, pairs_kept, pairs_of, sum_nothing, sum_agree, sum_member}
use Rattle.map_laws.proofs.JoinPaths.{IsPath, path_named, path_both}
use Rattle.map_laws.proofs.JoinEnds.{path_junctions, border_ends}
use Rattle.map_laws.proofs.JoinSteps.{arc_sum, AreJoined}
use Rattle.map_laws.proofs.JoinOrder.{arc_nodes, degree_node, nodes_ascend}
use Rattle.map_laws.proofs.JoinAll.{AreNext, join_all}
use Rattle.map_laws.proofs.ChainsExist.{joined_are_chains, chains_sums, chains_maximal, chains_exist, chains_are}
use Rattle.map_laws.proofs.StepDegrees.{border_before, degree_less, order_stays, order_new, order_both}
use Rattle.map_laws.proofs.Vanishing.{ended_edges_vanish}

-- what a test before the step and one after it say of an arc that is a border before it
border_left : (b c : Bool) → b ≡ true → (b && not c) ≡ false → c ≡ true
border_left true true e f = refl
border_left true false e f = absurd cc
border_left false c e f = absurd cc

border_gone : (b c : Bool) → (b && not c) ≡ true → c ≡ false
border_gone true true e = absurd cc
border_gone true false e = refl
border_gone false c e = absurd cc

module _ (h : MergedMap) (k : ℕ) (numbered : AreNumbered (length h.base.classes) h.steps) (small : k < length h.steps)
    (faces : All (λ a. has_base_faces h a ≡ true) h.base.arcs) (even : HasEvenSides h k) where
  -- the chain is between loser and winner of the step
  abbrev pub goes : Chain → Bool
  goes c = is_edge_between (step_number h (k + 1)).loser (step_number h (k + 1)).winner (edge_of h k [] c)

  -- ---- the arcs of a chain are borders after the step where the chain is left

  pub link_vanishes : (c : Chain) → Among c (chains_at h k) → (d : Link) → Among d c
      → (is_border h k (arc_number h.base.arcs d.arc) && not (is_border h (k + 1) (arc_number h.base.arcs d.arc))) ≡ goes c
  link_vanishes c m d n =
      subst (λ (j : ℕ). (is_border h j (arc_number h.base.arcs d.arc) && not (is_border h (k + 1) (arc_number h.base.arcs d.arc))) ≡ goes c) (sym back)
      (members_all (λ (d : Link). (is_border h (k + 1 - 1) (arc_number h.base.arcs d.arc) && not (is_border h (k + 1) (arc_number h.base.arcs d.arc))) ≡ goes c) c d
      (ended_edges_vanish h (k + 1) [] c (edge_of h k [] c) numbered (omega arith) (omega arith) based
      (subst (λ (j : ℕ). IsEdgeOf h j [] c (edge_of h k [] c)) back is_edge)) n)
    where
      back : k ≡ k + 1 - 1
      back = omega arith

      based : All (λ (d : Link). has_base_faces h (arc_number h.base.arcs d.arc) ≡ true) c
      based = all_members (λ (d : Link). has_base_faces h (arc_number h.base.arcs d.arc) ≡ true) c (λ e o.
          faces e.arc (record { left = 0; right = 0; points = [] })
          (chains_within h k (chains_at h k) (chains_exist h k) e (joined_among (chains_at h k) c e m o)))

      is_edge : IsEdgeOf h k [] c (edge_of h k [] c)
      is_edge =
          let sides = members_all (IsEven h k) (chains_at h k) c even m in
          record { key = refl; points = refl; left = sides.left; right = sides.right }

  link_before : (c : Chain) → Among c (chains_at h k) → (d : Link) → Among d c → is_border h k (arc_number h.base.arcs d.arc) ≡ true
  link_before c m d n = (chains_border h k (chains_at h k) (chains_exist h k) d (joined_among (chains_at h k) c d m n)).border

  -- a chain that is left was one
  was : (c : Chain) → Among c (chains_left h k) → Among c (chains_at h k)
  was c m = kept_among (λ c. not (goes c)) (chains_at h k) c m

  link_left : (c : Chain) → Among c (chains_left h k) → (d : Link) → Among d c → is_border h (k + 1) (arc_number h.base.arcs d.arc) ≡ true
  link_left c m d n =
      border_left (is_border h k (arc_number h.base.arcs d.arc)) (is_border h (k + 1) (arc_number h.base.arcs d.arc)) (link_before c (was c m) d n)
      (link_vanishes c (was c m) d n ∙ not-true _ (filter_among (λ c. not (goes c)) (chains_at h k) c m))

  link_gone : (c : Chain) → Among c (chains_at h k) → goes c ≡ true → (d : Link) → Among d c
      → is_border h (k + 1) (arc_number h.base.arcs d.arc) ≡ false
  link_gone c m e d n =
      border_gone (is_border h k (arc_number h.base.arcs d.arc)) (is_border h (k + 1) (arc_number h.base.arcs d.arc)) (link_vanishes c m d n ∙ e)

  -- ---- so each border arc after the step counts once in the chains that are left

  -- what counts for an arc, where it is a border after the step
  abbrev after : (ℕ → ℕ) → ℕ → ℕ
  after f i = cond (is_border h (k + 1) (arc_number h.base.arcs i)) (f i) 0

  left_sum : (f : ℕ → ℕ) (c : Chain) → Among c (chains_left h k) → arc_sum f c ≡ arc_sum (after f) c
  left_sum f c m =
      sum_agree (λ (d : Link). f d.arc) (λ (d : Link). after f d.arc) c
      (λ d n. sym (ap (λ (b : Bool). cond b (f d.arc) 0) (link_left c m d n)))

  gone_sum : (f : ℕ → ℕ) (c : Chain) → Among c (filter (λ c. not (not (goes c))) (chains_at h k)) → arc_sum (after f) c ≡ 0
  gone_sum f c m =
      let gone : goes c ≡ true = twice (goes c) (filter_among (λ c. not (not (goes c))) (chains_at h k) c m) in
      sum_nothing (λ (d : Link). after f d.arc) c
      (λ d n. ap (λ (b : Bool). cond b (f d.arc) 0) (link_gone c (kept_among (λ c. not (not (goes c))) (chains_at h k) c m) gone d n))
    where
      twice : (b : Bool) → not (not b) ≡ true → b ≡ true
      twice true e = refl
      twice false e = e

  numbers_after : (f : ℕ → ℕ) → sum_by (after f) (border_numbers h k) ≡ sum_by f (border_numbers h (k + 1))
  numbers_after f =
      sum_by-filter (after f) (λ i. is_border h k (arc_number h.base.arcs i)) (range_with_len 0 (length h.base.arcs))
      ∙ sum_agree (λ i. cond (is_border h k (arc_number h.base.arcs i)) (after f i) 0) (after f) (range_with_len 0 (length h.base.arcs))
      (λ i m. one (is_border h k (arc_number h.base.arcs i)) (is_border h (k + 1) (arc_number h.base.arcs i)) (f i)
      (border_before h k small (arc_number h.base.arcs i)))
      ∙ sym (sum_by-filter f (λ i. is_border h (k + 1) (arc_number h.base.arcs i)) (range_with_len 0 (length h.base.arcs)))
    where
      one : (b c : Bool) (n : ℕ) → (c ≡ true → b ≡ true) → cond b (cond c n 0) 0 ≡ cond c n 0
      one true c n on = refl
      one false true n on = let e = on refl in absurd cc
      one false false n on = refl

  left_covers : (f : ℕ → ℕ) → sum_by (arc_sum f) (chains_left h k) ≡ sum_by f (border_numbers h (k + 1))
  left_covers f =
      let rest : sum_by (arc_sum (after f)) (filter (λ c. not (not (goes c))) (chains_at h k)) ≡ 0
      = sum_nothing (arc_sum (after f)) (filter (λ c. not (not (goes c))) (chains_at h k)) (gone_sum f) in
      let split = sum_by-filter_both (λ c. not (goes c)) (λ c. not (not (goes c))) (λ c. refl) (arc_sum (after f)) (chains_at h k) in
      let same : sum_by (arc_sum f) (chains_left h k) ≡ sum_by (arc_sum (after f)) (chains_left h k)
      = sum_agree (arc_sum f) (arc_sum (after f)) (chains_left h k) (left_sum f) in
      omega (arith, rest, split, same, chains_sums h k (after f), numbers_after f)

  -- ---- junctions

  -- the degree is two before the step and after it
  abbrev pub Both : Point → Type 0
  Both q = (degree h k q ≡ 2) × (degree h (k + 1) q ≡ 2)

  -- the junctions of a chain that is left are such nodes
  stays : (c : Chain) → Among c (chains_left h k) → (q : Point) → degree h k q ≡ 2
      → 2 ≤ sum_by (λ e. ends_at q (arc_number h.base.arcs e.arc)) c → Both q
  stays c m q two more =
      let part = sum_member (arc_sum (λ i. ends_at q (arc_number h.base.arcs i))) (chains_left h k) c m in
      (two, omega (arith, part, left_covers (λ i. ends_at q (arc_number h.base.arcs i)), border_ends h (k + 1) q, degree_less h k small q))

  left_path : (c : Chain) → Among c (chains_left h k) → IsPath h.base.arcs Both c
  left_path c m = path_junctions h.base.arcs (λ q. degree h k q ≡ 2) Both c (chains_maximal h k c (was c m)).path (stays c m)

  left_anchored : (c : Chain) → Among c (chains_left h k) → chain_start h.base.arcs c ≡ chain_end h.base.arcs c
      → degree h (k + 1) (chain_start h.base.arcs c) ≡ 2 → IsPath h.base.arcs (λ j. joins_before h (k + 1) (chain_start h.base.arcs c) j ≡ false) c
  left_anchored c m closed two = elim (cases_eq (degree h k (chain_start h.base.arcs c)) 2) [
    | inl before ↦
        path_both h.base.arcs Both (λ j. joins_before h k (chain_start h.base.arcs c) j ≡ false)
        (λ j. joins_before h (k + 1) (chain_start h.base.arcs c) j ≡ false)
        (λ j b e. order_stays h k small (chain_start h.base.arcs c) j before b.0 ∙ e) c
        (left_path c m) ((chains_maximal h k c (was c m)).anchored closed before)
    | inr other ↦
        path_named h.base.arcs Both (λ j. joins_before h (k + 1) (chain_start h.base.arcs c) j ≡ false)
        (λ j b. order_new h k small (chain_start h.base.arcs c) j two other b.0) c (left_path c m)
  ]

  -- the chains that are left are joined at the nodes of degree two before the step
  pub left_joined : AreJoined h (k + 1) Both (chains_left h k)
  left_joined = record {
    covers = left_covers;
    paths = left_path;
    shut = λ c m p both. (chains_maximal h k c (was c m)).shut p both.0;
    anchored = left_anchored;
  }

  -- ---- new joints

  pub new_is : (p : Point) → Among p (new_joints h k) → (degree h (k + 1) p ≡ 2) × (degree h k p ≡ 2 → ⊥)
  new_is p m =
      let parts = and_parts (degree h (k + 1) p == 2) (not (degree h k p == 2))
      (filter_among (λ p. (degree h (k + 1) p == 2) && not (degree h k p == 2)) (arc_nodes h) p m) in
      (eqb-true (degree h (k + 1) p) 2 parts.0, eqb-false (degree h k p) 2 (not-true _ parts.1))

  pub new_next : AreNext h (k + 1) Both (new_joints h k)
  new_next = record {
    two = λ p m. (new_is p m).0;
    all = λ q two. elim (cases_eq (degree h k q) 2) [
      | inl before ↦ inl (before, two)
      | inr other ↦ inr (among_kept (λ p. (degree h (k + 1) p == 2) && not (degree h k p == 2)) (arc_nodes h) q
          (degree_node h (k + 1) q (omega (arith, two)))
          (and_from (degree h (k + 1) q == 2) _ (eq-eqb (degree h (k + 1) q) 2 two) (not_from_false _ (ne_eqb (degree h k q) 2 other))))
    ];
    before = λ q both. both.1;
    later = λ p j m both. let new = new_is p m in order_new h k small p j new.0 new.1 both.0;
    apart = λ p m both. (new_is p m).1 both.0;
    ascend =
        pairs_of (λ p q. point_before p q ≡ true) (λ p q. joins_before h (k + 1) p q ≡ true) (new_joints h k)
        (λ p q m n e. let x = new_is p m in let y = new_is q n in order_both h k small p q x.0 x.1 y.0 y.1 e)
        (pairs_kept (λ p q. point_before p q ≡ true) (λ p. (degree h (k + 1) p == 2) && not (degree h k p == 2)) (arc_nodes h) (nodes_ascend h));
  }

-- the chains that are left, joined at the new joints, are the chains after the step
pub chains_step : ChainsStep
chains_step h k numbered small faces even =
    let joined = join_all h (k + 1) (new_joints h k) (Both h k numbered small faces even) (chains_left h k)
    (left_joined h k numbered small faces even) (new_next h k numbered small faces even) in
    sym (chains_are h (k + 1) _ (joined_are_chains h (k + 1) _ joined))
