-- On a planar partition the inner points of the chains after each step stand once.
use Rattle.std.proofs.Common.{◌≡◌, ◌≢◌, ◌⊎◌, inl, inr, ⊎_elim, ℕ, zero, suc, ◌+◌, ◌<◌, ◌≤◌, Bool, true, false, cond, List, [], ◌∷◌, flat_map, length, All, AllPairs, sum_by, refl, sym, ap, subst, arith}
use Rattle.std.specs.Prelude.{count_by, IsTrue}
use Rattle.std.specs.List.{range_with_len}
use Rattle.std.specs.Cmp.{both_ways}
use Rattle.std.proofs.lemmas.Bool.{and_parts}
use Rattle.std.proofs.lemmas.List.Sums.{sum_by-cons}
use Rattle.tgap_model.specs.declared.geometry.Point.{Point}
use Rattle.tgap_model.specs.declared.base.BaseArc.{BaseArc}
use Rattle.tgap_model.specs.declared.slice.Edge.{Edge}
use Rattle.tgap_model.specs.Base.{is_base, is_arc, same_point}
use Rattle.tgap_model.specs.Partition.{AreApart, base_segments, all_but_last}
use Rattle.tgap_model.specs.Merged.{MergedMap, merged, is_border}
use Rattle.tgap_model.specs.Chains.{Chain, first_point, last_point, arc_number, border_numbers, chain_points, ends_at, degree, is_joined, is_chain, chains_at, are_chains}
use Rattle.tgap_model.specs.Removals.{edge_of, edges_of}
use Rattle.tgap_model.proofs.BaseFacts.{arc_facts, base_facts}
use Rattle.tgap_model.proofs.Points.{same_point-true, same_point-from}
use Rattle.map_laws.proofs.ChainMembers.{Among, all_among, count_grows}
use Rattle.map_laws.proofs.Lists.{all_members, map_among, kept_among, among_range, sum_passing, sum_less}
use Rattle.map_laws.proofs.JoinEnds.{border_ends}
use Rattle.map_laws.proofs.JoinSteps.{arc_sum}
use Rattle.map_laws.proofs.ChainsExist.{chains_exist, chains_sums}
use Rattle.removal_laws.specs.StandLaws.{live_points, inner_points, InnerPointsStandOnce}
use Rattle.removal_laws.specs.BaseLaws.{ChainsStandOnce, PartitionHasRemovals}
use Rattle.removal_laws.proofs.Less.{times_of_append, without_none, stands_from}
use Rattle.removal_laws.proofs.ArcEdges.{vertex_once}
use Rattle.removal_laws.proofs.ChainCounts.{in_arc, chain_times, IsJoint, joint_times, joint_degree, inner_cases}
use Rattle.removal_laws.proofs.ChainEnds.{AreLong, chain_links, chain_arcs, chain_has_points}
use Rattle.removal_laws.proofs.ListedVertices.{sweep_is_slice, vertices_are_listed_once, removed_are_inner}

-- ---- a point in a row

-- a row without its last point
last_counts : (b : Point) (ps : List Point) → 1 ≤ length ps → Among b (all_but_last ps) ⊎ (count_by (same_point b) ps ≤ cond (same_point b (last_point ps)) 1 0)
last_counts b [] l = absurd (omega arith)
last_counts b (x ∷ []) l = inr (omega (arith, sum_by-cons (λ p. cond {A = ℕ} (same_point b p) 1 0) x []))
last_counts b (x ∷ y ∷ ps) l = by (same_point b x) refl (last_counts b (y ∷ ps) (omega arith))
  where
    by : (v : Bool) → same_point b x ≡ v → Among b (all_but_last (y ∷ ps)) ⊎ (count_by (same_point b) (y ∷ ps) ≤ cond (same_point b (last_point (y ∷ ps))) 1 0)
        → ((x ≡ b) ⊎ Among b (all_but_last (y ∷ ps))) ⊎ (count_by (same_point b) (x ∷ y ∷ ps) ≤ cond (same_point b (last_point (y ∷ ps))) 1 0)
    by true e rest = inl (inl (sym (same_point-true b x e)))
    by false e (inl m) = inl (inr m)
    by false e (inr n) = inr (
        let none : cond {A = ℕ} (same_point b x) 1 0 ≡ 0 = ap (λ (v : Bool). cond {A = ℕ} v 1 0) e in
        omega (arith, n, sum_by-cons (λ p. cond {A = ℕ} (same_point b p) 1 0) x (y ∷ ps)))

test_turned : (u v : Point) → same_point u v ≡ same_point v u
test_turned u v = both_ways (same_point u v) (same_point v u)
    (λ e. same_point-from v u (sym (same_point-true u v e))) (λ e. same_point-from u v (sym (same_point-true v u e)))

-- a point stands in an arc at its ends, or within it
ends_or_inner : (b : Point) (a : BaseArc) → 2 ≤ length a.points → Among b (inner_points a.points) ⊎ (count_by (same_point b) a.points ≤ ends_at b a)
ends_or_inner b a two = by a.points refl two
  where
    by : (ps : List Point) → a.points ≡ ps → 2 ≤ length ps
        → Among b (inner_points ps) ⊎ (count_by (same_point b) ps ≤ cond (same_point (first_point ps) b) 1 0 + cond (same_point (last_point ps) b) 1 0)
    by [] e l = absurd (omega arith)
    by (x ∷ []) e l = absurd (omega arith)
    by (x ∷ y ∷ ps) e l = elim (last_counts b (y ∷ ps) (omega arith)) [
      | inl m ↦ inl m
      | inr n ↦ inr (
          let first : cond {A = ℕ} (same_point b x) 1 0 ≡ cond (same_point x b) 1 0 = ap (λ (v : Bool). cond {A = ℕ} v 1 0) (test_turned b x) in
          let last : cond {A = ℕ} (same_point b (last_point (y ∷ ps))) 1 0 ≡ cond (same_point (last_point (y ∷ ps)) b) 1 0 = ap (λ (v : Bool). cond {A = ℕ} v 1 0) (test_turned b (last_point (y ∷ ps))) in
          omega (arith, n, first, last, sum_by-cons (λ p. cond {A = ℕ} (same_point b p) 1 0) x (y ∷ ps)))
    ]

last_stands : (b x : Point) (ps : List Point) → cond (same_point b (last_point (x ∷ ps))) 1 0 ≤ count_by (same_point b) (x ∷ ps)
last_stands b x [] = omega (arith, sum_by-cons (λ p. cond {A = ℕ} (same_point b p) 1 0) x [])
last_stands b x (y ∷ ps) = omega (arith, last_stands b y ps, count_grows (same_point b) x (y ∷ ps))

ends_stand : (b : Point) (a : BaseArc) → 2 ≤ length a.points → ends_at b a ≤ count_by (same_point b) a.points
ends_stand b a two = by a.points two
  where
    by : (ps : List Point) → 2 ≤ length ps → cond (same_point (first_point ps) b) 1 0 + cond (same_point (last_point ps) b) 1 0 ≤ count_by (same_point b) ps
    by [] l = absurd (omega arith)
    by (x ∷ []) l = absurd (omega arith)
    by (x ∷ y ∷ ps) l =
        let first : cond {A = ℕ} (same_point b x) 1 0 ≡ cond (same_point x b) 1 0 = ap (λ (v : Bool). cond {A = ℕ} v 1 0) (test_turned b x) in
        let last : cond {A = ℕ} (same_point b (last_point (y ∷ ps))) 1 0 ≡ cond (same_point (last_point (y ∷ ps)) b) 1 0 = ap (λ (v : Bool). cond {A = ℕ} v 1 0) (test_turned b (last_point (y ∷ ps))) in
        omega (arith, first, last, last_stands b y ps, sum_by-cons (λ p. cond {A = ℕ} (same_point b p) 1 0) x (y ∷ ps))

-- ---- sums

points_times : (b : Point) (arcs : List BaseArc) → count_by (same_point b) (flat_map (λ (a : BaseArc). a.points) arcs) ≡ sum_by (λ a. count_by (same_point b) a.points) arcs
points_times b [] = refl
points_times b (a ∷ arcs) = omega (
  arith,
  times_of_append b a.points (flat_map (λ (c : BaseArc). c.points) arcs),
  points_times b arcs,
  sum_by-cons (λ (c : BaseArc). count_by (same_point b) c.points) a arcs,
)

live_times : (h : MergedMap) (k : ℕ) (b : Point) (chains : List Chain)
    → count_by (same_point b) (live_points (edges_of h k [] chains)) ≡ sum_by (λ c. count_by (same_point b) (chain_points h.base.arcs c)) chains
live_times h k b [] = refl
live_times h k b (c ∷ chains) =
    let same : count_by (same_point b) (edge_of h k [] c).points ≡ count_by (same_point b) (chain_points h.base.arcs c) = ap (count_by (same_point b)) (without_none (chain_points h.base.arcs c)) in
    omega (
      arith,
      same,
      times_of_append b (edge_of h k [] c).points (live_points (edges_of h k [] chains)),
      live_times h k b chains,
      sum_by-cons (λ (d : Chain). count_by (same_point b) (chain_points h.base.arcs d)) c chains,
    )

-- a sum that is less at one member
sum_strictly : {A : Type 0} (f g : A → ℕ) (xs : List A) (x : A) → Among x xs → ((y : A) → Among y xs → f y ≤ g y) → f x + 1 ≤ g x → sum_by f xs + 1 ≤ sum_by g xs
sum_strictly f g [] x m h l = absurd m
sum_strictly f g (y ∷ ys) x (inl e) h l =
    let ff : f y ≡ f x = ap f e in
    let gg : g y ≡ g x = ap g e in
    omega (arith, sum_by-cons f y ys, sum_by-cons g y ys, sum_less f g ys (λ z n. h z (inr n)))
sum_strictly f g (y ∷ ys) x (inr m) h l =
    omega (arith, sum_by-cons f y ys, sum_by-cons g y ys, h y (inl refl), sum_strictly f g ys x m (λ z n. h z (inr n)) l)

number_among : (arcs : List BaseArc) (i : ℕ) → i < length arcs → Among (arc_number arcs i) arcs
number_among [] i l = absurd (omega arith)
number_among (a ∷ arcs) zero l = inl refl
number_among (a ∷ arcs) (suc i) l = inr (number_among arcs i (omega arith))

-- ---- a map whose segments are apart

module _ (h : MergedMap) (base : IsTrue (is_base h.base)) (apart : AllPairs AreApart (base_segments h.base)) (k : ℕ) where
  long_arc : (i : ℕ) → i < length h.base.arcs → 2 ≤ length (arc_number h.base.arcs i).points
  long_arc i l = (arc_facts (length h.base.classes) (arc_number h.base.arcs i)
      (all_among (is_arc (length h.base.classes)) h.base.arcs (arc_number h.base.arcs i) (base_facts h.base base).arcs (number_among h.base.arcs i l))).two_points

  long : (c : Chain) → Among c (chains_at h k) → AreLong h.base.arcs c
  long c m d n = long_arc d.arc (chain_arcs h k c m d n)

  joined : (c : Chain) → Among c (chains_at h k) → is_joined h k c ≡ true
  unfolding are_chains
  joined c m =
      let all = (and_parts _ _ (and_parts _ _ (chains_exist h k)).0).0 in
      (and_parts _ _ (and_parts _ _ (and_parts _ _ (and_parts _ _ (all_among (is_chain h k) (chains_at h k) c all m)).0).0).0).1

  number_within : (i : ℕ) → Among i (border_numbers h k) → i < length h.base.arcs
  number_within i m =
      let r = among_range 0 (length h.base.arcs) i (kept_among (λ i. is_border h k (arc_number h.base.arcs i)) (range_with_len 0 (length h.base.arcs)) i m) in
      omega (arith, r.1)

  module _ (b : Point) where
    in_border : ℕ
    in_border = sum_by (in_arc h.base.arcs b) (border_numbers h k)

    border_within : sum_by (in_arc h.base.arcs b) (border_numbers h k) ≤ count_by (same_point b) (flat_map (λ (a : BaseArc). a.points) h.base.arcs)
    border_within = omega (
      arith,
      points_times b h.base.arcs,
      sum_passing (λ (a : BaseArc). count_by (same_point b) a.points) (is_border h k) h.base.arcs (record { left = 0; right = 0; points = [] }),
      sum_less (λ (a : BaseArc). cond (is_border h k a) (count_by (same_point b) a.points) 0) (λ a. count_by (same_point b) a.points) h.base.arcs (λ a m. less (is_border h k a) (count_by (same_point b) a.points)),
    )
      where
        less : (v : Bool) (n : ℕ) → cond v n 0 ≤ n
        less true n = omega arith
        less false n = omega arith

    chains_within : sum_by (λ c. count_by (same_point b) (chain_points h.base.arcs c)) (chains_at h k) ≤ sum_by (in_arc h.base.arcs b) (border_numbers h k)
    chains_within = omega (
      arith,
      chains_sums h k (in_arc h.base.arcs b),
      sum_less (λ c. count_by (same_point b) (chain_points h.base.arcs c)) (arc_sum (in_arc h.base.arcs b)) (chains_at h k) (λ c m. chain_times h.base.arcs b c),
    )

    -- an inner vertex of an arc
    of_vertex : (i : ℕ) → i < length h.base.arcs → Among b (inner_points (arc_number h.base.arcs i).points)
        → sum_by (λ c. count_by (same_point b) (chain_points h.base.arcs c)) (chains_at h k) ≤ 1
    of_vertex i l m = omega (arith, chains_within, border_within, vertex_once h.base base apart (arc_number h.base.arcs i) (number_among h.base.arcs i l) b m)

    -- a node of degree two is no inner vertex
    no_vertex : degree h k b ≡ 2 → (i : ℕ) → i < length h.base.arcs → Among b (inner_points (arc_number h.base.arcs i).points) → ⊥
    no_vertex two i l m = absurd (omega (
      arith,
      two,
      border_ends h k b,
      border_within,
      vertex_once h.base base apart (arc_number h.base.arcs i) (number_among h.base.arcs i l) b m,
      sum_less (λ j. ends_at b (arc_number h.base.arcs j)) (in_arc h.base.arcs b) (border_numbers h k) (λ j n. ends_stand b (arc_number h.base.arcs j) (long_arc j (number_within j n))),
    ))

    -- a joint
    of_joint : (c : Chain) → Among c (chains_at h k) → IsJoint h.base.arcs b c → sum_by (λ c. count_by (same_point b) (chain_points h.base.arcs c)) (chains_at h k) ≤ 1
    of_joint c m j =
        let two = joint_degree h k b c (joined c m) j in
        omega (
          arith,
          two,
          border_ends h k b,
          chains_sums h k (in_arc h.base.arcs b),
          sum_strictly (λ c. count_by (same_point b) (chain_points h.base.arcs c)) (arc_sum (in_arc h.base.arcs b)) (chains_at h k) c m (λ d n. chain_times h.base.arcs b d) (joint_times h.base.arcs b c (long c m) j),
          sum_less (in_arc h.base.arcs b) (λ i. ends_at b (arc_number h.base.arcs i)) (border_numbers h k) (λ i n.
              ⊎_elim (λ inner. absurd (no_vertex two i (number_within i n) inner)) (λ l. l) (ends_or_inner b (arc_number h.base.arcs i) (long_arc i (number_within i n)))),
        )

    once : (c : Chain) → Among c (chains_at h k) → Among b (inner_points (chain_points h.base.arcs c))
        → sum_by (λ c. count_by (same_point b) (chain_points h.base.arcs c)) (chains_at h k) ≤ 1
    once c m n = elim (inner_cases h k b c (joined c m) (long c m) n) [
      | inl r ↦ of_vertex r.0.arc (chain_arcs h k c m r.0 r.1) r.2
      | inr j ↦ of_joint c m j
    ]

  stand_once : InnerPointsStandOnce (edges_of h k [] (chains_at h k))
  stand_once = stands_from (edges_of h k [] (chains_at h k)) (λ e m b n.
      let c = map_among (edge_of h k []) (chains_at h k) e m in
      omega (
        arith,
        live_times h k b (chains_at h k),
        once b c.0 c.1 (subst (λ ps. Among b (inner_points ps)) (without_none (chain_points h.base.arcs c.0)) (subst (λ (f : Edge). Among b (inner_points f.points)) (sym c.2) n)),
      ))

  some_points : All (λ c. chain_points h.base.arcs c ≢ []) (chains_at h k)
  some_points = all_members (λ c. chain_points h.base.arcs c ≢ []) (chains_at h k) (λ c m. chain_has_points h.base.arcs c (chain_links h k c m) (long c m))

pub chains_stand_once : ChainsStandOnce
chains_stand_once h base apart k = stand_once h base apart k

pub partition_has_removals : PartitionHasRemovals
partition_has_removals m base partition k =
    let h = merged m in
    let apart = partition.arcs.apart in
    record {
      once = vertices_are_listed_once h k (λ j one last. stand_once h base apart j);
      inner = removed_are_inner h k (stand_once h base apart k) (some_points h base apart k);
      left = λ one last. sweep_is_slice h k one last (stand_once h base apart k);
    }
