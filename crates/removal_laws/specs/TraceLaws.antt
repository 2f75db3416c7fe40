-- Laws of the trace of the sweeps.
use Rattle.std.specs.Prelude.{◌≡◌, ◌≢◌, ◌≤◌, ℕ, ◌==◌, true, false, ℤ, List, [], ◌∷◌, ◌++◌, map, length, All, AllPairs}
use Rattle.tgap_model.specs.declared.slice.Edge.{Edge}
use Rattle.tgap_model.specs.Merged.{MergedMap, step_number}
use Rattle.tgap_model.specs.Partition.{AreApart, edge_segments}
use Rattle.tgap_model.specs.Removals.{is_removable, has_side, removals_to}
use Rattle.removal_laws.specs.ReplaceLaws.{other_segments}
use Rattle.removal_laws.specs.Trace.{Taken, removal_of, edges_with, edges_without, swept_edges, edges_before_sweep, edges_after_sweep, step_area, trace_at, trace_to}

-- the vertices of the trace, with their steps, are the removals, in order
abbrev pub TraceIsRemovals : Type 0
TraceIsRemovals = (h : MergedMap) (k : ℕ) → map removal_of (trace_to h k) ≡ removals_to h k

-- A vertex is taken out by the rule: of an edge that borders the new face, where it is on one line with its neighbours, or where
-- their triangle is small enough and clear of every other live segment.
pub record IsTakenByRule (ratio : ℕ) (area : ℤ) (made : ℕ) (t : Taken) : Type 0 where
  pub borders : has_side made t.edge ≡ true
  pub points : t.edge.points ≡ t.front ++ t.a ∷ t.b ∷ t.c ∷ t.rest
  pub rule : is_removable ratio area (other_segments t.before t.after t.front t.a t.c t.rest) t.a t.b t.c ≡ true

-- It is so by the numbers of its step, which is one of the first k.
pub record IsTakenAtStep (h : MergedMap) (k : ℕ) (t : Taken) : Type 0 where
  pub from_one : 1 ≤ t.step
  pub to_last : t.step ≤ length h.steps
  pub to_k : t.step ≤ k
  pub ratio : (h.base.rules.ratio == 0) ≡ false
  pub rule : IsTakenByRule h.base.rules.ratio (step_area h t.step) (step_number h t.step).made t

abbrev pub TraceFollowsRule : Type 0
TraceFollowsRule = (h : MergedMap) (k : ℕ) → All (IsTakenAtStep h k) (trace_to h k)

-- The vertices are taken out one after the other: the live edges are the first ones, and then what the one before left.
abbrev pub LeadTo : List Edge → List Taken → List Edge → Type 0
LeadTo edges [] last = edges ≡ last
LeadTo edges (t ∷ ts) last = (edges_with t ≡ edges) × LeadTo (edges_without t) ts last

-- what a step takes out leads from the edges before its sweep to those after it
abbrev pub TraceLeads : Type 0
TraceLeads = (h : MergedMap) (j : ℕ) → LeadTo (edges_before_sweep h j) (trace_at h j) (edges_after_sweep h j)

-- A sweep keeps segments apart: where the segments of edges with different keys have no point in common but permitted ones, those
-- of the edges after the sweep have none.
abbrev pub SweepKeepsApart : Type 0
SweepKeepsApart =
    (ratio : ℕ) (area : ℤ) (made : ℕ) (edges : List Edge) → AllPairs (λ e f. e.key ≢ f.key) edges
    → AllPairs AreApart (edge_segments edges) → AllPairs AreApart (edge_segments (swept_edges ratio area made [] edges))
