-- What the steps take out of the chains: it is left out of their edges, listed once, and inner.
use Rattle.std.proofs.Common.{◌≡◌, ◌≢◌, ◌⊎◌, inl, inr, ℕ, zero, suc, ◌+◌, ◌-◌, ◌<◌, ◌≤◌, Bool, true, false, nat_lt, List, [], ◌∷◌, ◌++◌, map, length, All, AllPairs, refl, sym, ap, ap₂, ◌∙◌, subst, true≢false, arith}
use Rattle.std.specs.Prelude.{count_by}
use Rattle.std.proofs.lemmas.Bool.{lt-ltb, ltb-true, cond-true, cond-false}
use Rattle.std.proofs.lemmas.List.{map-append}
use Rattle.std.proofs.lemmas.List.Elements.{All-map, All-weaker}
use Rattle.std.proofs.lemmas.List.Kept.{AllPairs-cons}
use Rattle.lemmas.proofs.Members.{AllPairs-nil, AllPairs-head, AllPairs-tail, AllPairs-append}
use Rattle.tgap_model.specs.declared.geometry.Point.{Point}
use Rattle.tgap_model.specs.declared.slice.Edge.{Edge}
use Rattle.tgap_model.specs.declared.slice.Removal.{Removal}
use Rattle.tgap_model.specs.Base.{same_point}
use Rattle.tgap_model.specs.Partition.{all_but_last}
use Rattle.tgap_model.specs.Merged.{MergedMap, step_number}
use Rattle.tgap_model.specs.Chains.{Chain, chain_points, chains_at, first_point, last_point}
use Rattle.tgap_model.specs.Removals.{is_removed, without, edge_of, edges_of, removed_at, removals_to}
use Rattle.tgap_model.proofs.Points.{same_point-from}
use Rattle.map_laws.proofs.ChainMembers.{Among, among_counts, count_passes, count_grows}
use Rattle.map_laws.proofs.Lists.{all_members, members_all, any_from, map_among, among_map}
use Rattle.removal_laws.specs.Trace.{Taken, removal_of, edges_before_sweep, edges_after_sweep, step_area, trace_at, trace_to}
use Rattle.removal_laws.specs.TraceLaws.{IsTakenByRule}
use Rattle.removal_laws.specs.StandLaws.{live_points, inner_points, InnerPointsStandOnce, edges_less, SweepIsSlice, VerticesAreListedOnce, IsInnerOfChains, RemovedAreInner}
use Rattle.removal_laws.proofs.ChainEnds.{contained}
use Rattle.removal_laws.proofs.Less.{times_of_append, inner_is_early, without_none, less_both, less_stands, stands_at}
use Rattle.removal_laws.proofs.Tracing.{at_step, trace_is_removals}
use Rattle.removal_laws.proofs.SweptLess.{IsInnerOf, IsLess, early_among, inner_among, inner_of_less, not_listed, follow_less}

pairs_of_values : {A B : Type 0} (R : B → B → Type 0) (f : A → B) (xs : List A) → AllPairs (λ x y. R (f x) (f y)) xs → AllPairs R (map f xs)
pairs_of_values R f [] h = AllPairs-nil R
pairs_of_values {A} R f (x ∷ xs) h = AllPairs-cons R (f x) (map f xs)
    (All-map (R (f x)) f xs (AllPairs-head (λ (y z : A). R (f y) (f z)) x xs h))
    (pairs_of_values R f xs (AllPairs-tail (λ (y z : A). R (f y) (f z)) x xs h))

-- ---- one step

-- the edges of chains less listed vertices
edges_of_less : (h : MergedMap) (k : ℕ) (rs : List Removal) (chains : List Chain) → edges_of h k rs chains ≡ edges_less rs (edges_of h k [] chains)
edges_of_less h k rs [] = refl
edges_of_less h k rs (c ∷ chains) = ap₂ (λ (ps : List Point) (more : List Edge). record (edge_of h k rs c) { points = without rs ps } ∷ more)
    (sym (without_none (chain_points h.base.arcs c))) (edges_of_less h k rs chains)

module _ (h : MergedMap) (j : ℕ) (once : InnerPointsStandOnce (edges_of h j [] (chains_at h j))) where
  before_is : edges_before_sweep h j ≡ edges_less (removals_to h (j - 1)) (edges_of h j [] (chains_at h j))
  before_is = edges_of_less h j (removals_to h (j - 1)) (chains_at h j)

  taken : IsLess (edges_before_sweep h j) (trace_at h j) (edges_after_sweep h j)
  taken = follow_less (edges_before_sweep h j) (trace_at h j) (edges_after_sweep h j) (at_step h j).leads
      (All-weaker (IsTakenByRule h.base.rules.ratio (step_area h j) (step_number h j).made) (λ t. t.edge.points ≡ t.front ++ t.a ∷ t.b ∷ t.c ∷ t.rest)
      (λ t k. k.points) (trace_at h j) (at_step h j).rule)
      (subst InnerPointsStandOnce (sym before_is) (less_stands (removals_to h (j - 1)) (edges_of h j [] (chains_at h j)) once))

  after_is : edges_after_sweep h j ≡ edges_of h j (removals_to h (j - 1) ++ map removal_of (trace_at h j)) (chains_at h j)
  after_is =
      taken.less ∙ ap (edges_less (map removal_of (trace_at h j))) before_is
      ∙ less_both (removals_to h (j - 1)) (map removal_of (trace_at h j)) (edges_of h j [] (chains_at h j))
      ∙ sym (edges_of_less h j (removals_to h (j - 1) ++ map removal_of (trace_at h j)) (chains_at h j))

  -- none of them was listed before
  fresh : All (λ t. is_removed (removals_to h (j - 1)) t.b ≡ false) (trace_at h j)
  fresh = All-weaker (λ (t : Taken). IsInnerOf (edges_before_sweep h j) t.b) (λ t. is_removed (removals_to h (j - 1)) t.b ≡ false)
      (λ t m. not_listed (removals_to h (j - 1)) (edges_of h j [] (chains_at h j)) t.b (subst (λ es. IsInnerOf es t.b) before_is m))
      (trace_at h j) taken.inner

-- what a step adds to the list
pub removals_next : (h : MergedMap) (k : ℕ) → k < length h.steps → removals_to h (suc k) ≡ removals_to h k ++ map removal_of (trace_at h (suc k))
removals_next h k l =
    sym (trace_is_removals h (suc k))
    ∙ ap (map removal_of) (cond-true (nat_lt k (length h.steps)) (trace_to h k ++ trace_at h (suc k)) (trace_to h k) (lt-ltb k (length h.steps) l))
    ∙ map-append removal_of (trace_to h k) (trace_at h (suc k))
    ∙ ap (λ (rs : List Removal). rs ++ map removal_of (trace_at h (suc k))) (trace_is_removals h k)

removals_last : (h : MergedMap) (k : ℕ) → nat_lt k (length h.steps) ≡ false → removals_to h (suc k) ≡ removals_to h k
unfolding removals_to
removals_last h k e = cond-false (nat_lt k (length h.steps)) (removals_to h k ++ removed_at h (suc k) (removals_to h k)) (removals_to h k) e

pub sweep_is_slice : SweepIsSlice
sweep_is_slice h zero one last once = absurd (omega arith)
sweep_is_slice h (suc k) one last once =
    after_is h (suc k) once
    ∙ ap (λ (rs : List Removal). edges_of h (suc k) rs (chains_at h (suc k)))
    (ap (λ (i : ℕ). removals_to h i ++ map removal_of (trace_at h (suc k))) (omega arith) ∙ sym (removals_next h k (omega arith)))

-- ---- no vertex is listed twice

pub vertices_are_listed_once : VerticesAreListedOnce
unfolding removals_to
vertices_are_listed_once h zero once = AllPairs-nil (λ (r s : Removal). r.point ≢ s.point)
vertices_are_listed_once h (suc k) once = by (nat_lt k (length h.steps)) refl (vertices_are_listed_once h k (λ j one last. once j one (omega arith)))
  where
    Differ : Removal → Removal → Type 0
    Differ r s = r.point ≢ s.point

    later : InnerPointsStandOnce (edges_of h (suc k) [] (chains_at h (suc k)))
    later = once (suc k) (omega arith) (omega arith)

    across : All (λ r. All (Differ r) (map removal_of (trace_at h (suc k)))) (removals_to h k)
    across = all_members (λ r. All (Differ r) (map removal_of (trace_at h (suc k)))) (removals_to h k) (λ r m.
        All-map (Differ r) removal_of (trace_at h (suc k))
        (All-weaker (λ (t : Taken). is_removed (removals_to h (suc k - 1)) t.b ≡ false) (λ t. Differ r (removal_of t))
        (λ t f e.
        let here : suc k - 1 ≡ k = omega arith in
        true≢false (sym (any_from (λ s. same_point s.point t.b) (removals_to h k) r m (same_point-from r.point t.b e)) ∙ sym (ap (λ i. is_removed (removals_to h i) t.b) here) ∙ f))
        (trace_at h (suc k)) (fresh h (suc k) later)))

    by : (v : Bool) → nat_lt k (length h.steps) ≡ v → AllPairs Differ (removals_to h k) → AllPairs Differ (removals_to h (suc k))
    by true e f = subst (AllPairs Differ) (sym (removals_next h k (ltb-true k (length h.steps) e)))
        (AllPairs-append Differ (removals_to h k) (map removal_of (trace_at h (suc k))) f
        (pairs_of_values Differ removal_of (trace_at h (suc k)) (taken h (suc k) later).differ) across)
    by false e f = subst (AllPairs Differ) (sym (removals_last h k e)) f

-- ---- inner points are no ends

-- the points of one are points of all
one_count : (b : Point) (edges : List Edge) (e : Edge) → Among e edges → count_by (same_point b) e.points ≤ count_by (same_point b) (live_points edges)
one_count b [] e m = absurd m
one_count b (g ∷ edges) e (inl m) =
    let same : count_by (same_point b) g.points ≡ count_by (same_point b) e.points = ap (λ (x : Edge). count_by (same_point b) x.points) m in
    omega (arith, times_of_append b g.points (live_points edges))
one_count b (g ∷ edges) e (inr m) = omega (arith, times_of_append b g.points (live_points edges), one_count b edges e m)

last_among : (x : Point) (points : List Point) (b : Point) → last_point (x ∷ points) ≡ b → Among b (x ∷ points)
last_among x [] b e = inl e
last_among x (y ∷ points) b e = inr (last_among y points b e)

-- two members are one, or what stands in both stands so often in all
both_count : (b : Point) (edges : List Edge) (e f : Edge) → Among e edges → Among f edges
    → (e ≡ f) ⊎ (count_by (same_point b) e.points + count_by (same_point b) f.points ≤ count_by (same_point b) (live_points edges))
both_count b [] e f m n = absurd m
both_count b (g ∷ edges) e f (inl m) (inl n) = inl (sym m ∙ n)
both_count b (g ∷ edges) e f (inl m) (inr n) = inr (
    let same : count_by (same_point b) g.points ≡ count_by (same_point b) e.points = ap (λ (x : Edge). count_by (same_point b) x.points) m in
    omega (arith, times_of_append b g.points (live_points edges), one_count b edges f n))
both_count b (g ∷ edges) e f (inr m) (inl n) = inr (
    let same : count_by (same_point b) g.points ≡ count_by (same_point b) f.points = ap (λ (x : Edge). count_by (same_point b) x.points) n in
    omega (arith, times_of_append b g.points (live_points edges), one_count b edges e m))
both_count b (g ∷ edges) e f (inr m) (inr n) = elim (both_count b edges e f m n) [
  | inl s ↦ inl s
  | inr s ↦ inr (omega (arith, s, times_of_append b g.points (live_points edges)))
]

-- an inner point that is the first or the last stands twice
first_twice : (points : List Point) (b : Point) → Among b (inner_points points) → first_point points ≡ b → 2 ≤ count_by (same_point b) points
first_twice [] b m e = absurd m
first_twice (x ∷ points) b m e = omega (
  arith,
  count_passes (same_point b) x points (same_point-from b x (sym e)),
  among_counts (same_point b) points b (early_among points b m) (same_point-from b b refl),
)

last_twice : (points : List Point) (b : Point) → Among b (all_but_last points) → last_point points ≡ b → 2 ≤ count_by (same_point b) points
last_twice [] b m e = absurd m
last_twice (x ∷ []) b m e = absurd m
last_twice (x ∷ y ∷ points) b (inl s) e = omega (
  arith,
  count_passes (same_point b) x (y ∷ points) (same_point-from b x (sym s)),
  among_counts (same_point b) (y ∷ points) b (last_among y points b e) (same_point-from b b refl),
)
last_twice (x ∷ y ∷ points) b (inr m) e = omega (arith, count_grows (same_point b) x (y ∷ points), last_twice (y ∷ points) b m e)

first_among : (points : List Point) (b : Point) → points ≢ [] → first_point points ≡ b → Among b points
first_among [] b n e = absurd (n refl)
first_among (x ∷ points) b n e = inl e

module _ (edges : List Edge) (once : InnerPointsStandOnce edges) (b : Point) (m : IsInnerOf edges b) (e : Edge) (n : Among e edges) where
  once_only : count_by (same_point b) (live_points edges) ≤ 1
  once_only = stands_at edges once m.0 m.1 b m.2

  here : 1 ≤ count_by (same_point b) m.0.points
  here = among_counts (same_point b) m.0.points b (inner_among m.0.points b m.2) (same_point-from b b refl)

  twice_at_most : 2 ≤ count_by (same_point b) m.0.points → ⊥
  twice_at_most two = omega (arith, two, once_only, one_count b edges m.0 m.1)

  pub not_first : e.points ≢ [] → first_point e.points ≢ b
  not_first some f = elim (both_count b edges e m.0 n m.1) [
    | inl s ↦ twice_at_most (first_twice m.0.points b m.2 (ap (λ (x : Edge). first_point x.points) (sym s) ∙ f))
    | inr s ↦ omega (arith, s, here, once_only, among_counts (same_point b) e.points b (first_among e.points b some f) (same_point-from b b refl))
  ]

  pub not_last : e.points ≢ [] → last_point e.points ≢ b
  not_last some f = elim (both_count b edges e m.0 n m.1) [
    | inl s ↦ twice_at_most (last_twice m.0.points b (inner_is_early m.0.points b m.2) (ap (λ (x : Edge). last_point x.points) (sym s) ∙ f))
    | inr s ↦ omega (arith, s, here, once_only, among_counts (same_point b) e.points b (at_last e.points some f) (same_point-from b b refl))
  ]
    where
      at_last : (points : List Point) → points ≢ [] → last_point points ≡ b → Among b points
      at_last [] l g = absurd (l refl)
      at_last (x ∷ points) l g = last_among x points b g

pub removed_are_inner : RemovedAreInner
removed_are_inner h j once points =
    All-weaker (λ (t : Taken). IsInnerOf (edges_before_sweep h j) t.b) (λ t. IsInnerOfChains h j t.b)
    (λ t m. of_vertex t.b (inner_of_less (removals_to h (j - 1)) edges t.b (subst (λ es. IsInnerOf es t.b) (before_is h j once) m)))
    (trace_at h j) (taken h j once).inner
  where
    edges : List Edge
    edges = edges_of h j [] (chains_at h j)

    -- the edge of a chain, with its points
    some_points : (c : Chain) → Among c (chains_at h j) → (edge_of h j [] c).points ≢ []
    some_points c m e = members_all (λ d. chain_points h.base.arcs d ≢ []) (chains_at h j) c points m (sym (without_none (chain_points h.base.arcs c)) ∙ e)

    of_vertex : (b : Point) → IsInnerOf edges b → IsInnerOfChains h j b
    of_vertex b m =
        let c = map_among (edge_of h j []) (chains_at h j) m.0 m.1 in
        record {
          chain = c.0;
          member = contained (chains_at h j) c.0 c.1;
          inner = contained (inner_points (chain_points h.base.arcs c.0)) b
              (subst (λ ps. Among b (inner_points ps)) (without_none (chain_points h.base.arcs c.0)) (subst (λ (e : Edge). Among b (inner_points e.points)) (sym c.2) m.2));
          no_start = all_members (λ d. first_point (chain_points h.base.arcs d) ≢ b) (chains_at h j) (λ d n e.
              not_first edges once b m (edge_of h j [] d) (among_map (edge_of h j []) (chains_at h j) d n) (some_points d n)
              (ap first_point (without_none (chain_points h.base.arcs d)) ∙ e));
          no_end = all_members (λ d. last_point (chain_points h.base.arcs d) ≢ b) (chains_at h j) (λ d n e.
              not_last edges once b m (edge_of h j [] d) (among_map (edge_of h j []) (chains_at h j) d n) (some_points d n)
              (ap last_point (without_none (chain_points h.base.arcs d)) ∙ e));
        }
