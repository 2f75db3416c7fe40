-- Laws of points that stand once among the points of all edges, and of what a sweep lists.
use Rattle.std.specs.Prelude.{◌≡◌, ◌≢◌, ◌≤◌, ℕ, ℤ, true, List, [], ◌∷◌, map, flat_map, length, count_by, All, AllPairs, Contains}
use Rattle.tgap_model.specs.declared.geometry.Point.{Point}
use Rattle.tgap_model.specs.declared.slice.Edge.{Edge}
use Rattle.tgap_model.specs.declared.slice.Removal.{Removal}
use Rattle.tgap_model.specs.Base.{same_point, no_repeat}
use Rattle.tgap_model.specs.Merged.{MergedMap}
use Rattle.tgap_model.specs.Chains.{Chain, chain_points, chains_at, first_point, last_point}
use Rattle.tgap_model.specs.Partition.{AreApart, all_but_last, edge_segments}
use Rattle.tgap_model.specs.Removals.{without, edges_of, sweep_edges, removals_to}
use Rattle.removal_laws.specs.Trace.{swept_edges, edges_after_sweep, trace_at}

-- the points of all edges
abbrev pub live_points : List Edge → List Point
live_points edges = flat_map (λ e. e.points) edges

-- the points of a row but the first and the last
abbrev pub inner_points : List Point → List Point
inner_points [] = []
inner_points (a ∷ points) = all_but_last points

-- each inner point of an edge stands once among the points of all edges
abbrev pub InnerPointsStandOnce : List Edge → Type 0
InnerPointsStandOnce edges = All (λ e. All (λ b. count_by (same_point b) (live_points edges) ≤ 1) (inner_points e.points)) edges

-- Edges have different keys, two points at least, no two points in a row that are one, and segments that have no point in common
-- but permitted ones.
pub record AreSound (edges : List Edge) : Type 0 where
  pub keys : AllPairs (λ e f. e.key ≢ f.key) edges
  pub points : All (λ e. 2 ≤ length e.points) edges
  pub steps : All (λ e. no_repeat e.points ≡ true) edges
  pub apart : AllPairs AreApart (edge_segments edges)

-- of such edges an inner point stands once
abbrev pub SoundPointsStandOnce : Type 0
SoundPointsStandOnce = (edges : List Edge) → AreSound edges → InnerPointsStandOnce edges

-- a sweep keeps edges such
abbrev pub SweepKeepsSound : Type 0
SweepKeepsSound =
    (ratio : ℕ) (area : ℤ) (made : ℕ) (edges : List Edge) → AreSound edges → AreSound (swept_edges ratio area made [] edges)

-- the edges less the listed vertices
abbrev pub edges_less : List Removal → List Edge → List Edge
edges_less removals edges = map {A = Edge} (λ e. record e { points = without removals e.points }) edges

-- Where inner points stand once, a sweep leaves the edges less what it takes out, whatever step that is listed with.
abbrev pub SweepIsWithout : Type 0
SweepIsWithout =
    (ratio : ℕ) (area : ℤ) (made step : ℕ) (edges : List Edge) → InnerPointsStandOnce edges
    → swept_edges ratio area made [] edges ≡ edges_less (map (λ p. record { point = p; step = step }) (sweep_edges ratio area made [] edges)) edges

-- Where inner points of the chains after step j stand once, its sweep leaves the edges of the chains less all that is listed then.
abbrev pub SweepIsSlice : Type 0
SweepIsSlice =
    (h : MergedMap) (j : ℕ) → 1 ≤ j → j ≤ length h.steps → InnerPointsStandOnce (edges_of h j [] (chains_at h j))
    → edges_after_sweep h j ≡ edges_of h j (removals_to h j) (chains_at h j)

-- inner points stand once in the chains after each of the first k steps
abbrev pub ChainPointsStandOnce : MergedMap → ℕ → Type 0
ChainPointsStandOnce h k = (j : ℕ) → 1 ≤ j → j ≤ k → InnerPointsStandOnce (edges_of h j [] (chains_at h j))

-- then no vertex is listed twice
abbrev pub VerticesAreListedOnce : Type 0
VerticesAreListedOnce =
    (h : MergedMap) (k : ℕ) → ChainPointsStandOnce h k → AllPairs (λ r s. r.point ≢ s.point) (removals_to h k)

-- The point is an inner point of a chain after step j, and not the first or the last of any of these chains.
pub record IsInnerOfChains (h : MergedMap) (j : ℕ) (b : Point) : Type 0 where
  pub chain : Chain
  pub member : Contains (chains_at h j) chain
  pub inner : Contains (inner_points (chain_points h.base.arcs chain)) b
  pub no_start : All (λ c. first_point (chain_points h.base.arcs c) ≢ b) (chains_at h j)
  pub no_end : All (λ c. last_point (chain_points h.base.arcs c) ≢ b) (chains_at h j)

-- And what a step takes out is an inner point of its chains, where these have points.
abbrev pub RemovedAreInner : Type 0
RemovedAreInner =
    (h : MergedMap) (j : ℕ) → InnerPointsStandOnce (edges_of h j [] (chains_at h j))
    → All (λ c. chain_points h.base.arcs c ≢ []) (chains_at h j) → All (λ t. IsInnerOfChains h j t.b) (trace_at h j)
