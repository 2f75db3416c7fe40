-- Where inner points stand once, what is taken out of the edges one after the other is left out of them all.
use Rattle.std.proofs.Common.{◌≡◌, ◌≢◌, inl, inr, ℕ, suc, ◌+◌, ◌≤◌, Bool, false, not, List, [], ◌∷◌, ◌++◌, map, All, AllPairs, append_assoc, refl, sym, ap, ap₂, ◌∙◌, subst, true≢false, arith}
use Rattle.std.specs.Prelude.{count_by}
use Rattle.std.proofs.lemmas.Bool.{or_parts, not-true}
use Rattle.std.proofs.lemmas.List.{map-append}
use Rattle.std.proofs.lemmas.List.Elements.{All-nil, All-cons, All-head, All-tail, All-weaker}
use Rattle.std.proofs.lemmas.List.Kept.{AllPairs-cons}
use Rattle.lemmas.proofs.Members.{AllPairs-nil}
use Rattle.tgap_model.specs.declared.geometry.Point.{Point}
use Rattle.tgap_model.specs.declared.slice.Edge.{Edge}
use Rattle.tgap_model.specs.declared.slice.Removal.{Removal}
use Rattle.tgap_model.specs.Base.{same_point}
use Rattle.tgap_model.specs.Partition.{all_but_last}
use Rattle.tgap_model.specs.Removals.{is_removed, without}
use Rattle.tgap_model.proofs.Points.{same_point-from}
use Rattle.map_laws.proofs.ChainMembers.{Among, filter_among, among_right, count_passes}
use Rattle.map_laws.proofs.Lists.{map_among}
use Rattle.removal_laws.specs.Trace.{Taken, removal_of, edges_with, edges_without, trace_edges, swept_edges}
use Rattle.removal_laws.specs.TraceLaws.{IsTakenByRule, LeadTo}
use Rattle.removal_laws.specs.StandLaws.{live_points, inner_points, InnerPointsStandOnce, edges_less, SweepIsWithout}
use Rattle.removal_laws.proofs.Less.{times_of_append, without_append, without_absent, without_this, filter_inner, inner_between, less_none, less_both, less_absent, less_stands, points_append, stands_at}
use Rattle.removal_laws.proofs.Tracing.{follow_edges}

-- ---- one vertex

-- the points in front of b, b, and those behind it
split_at : (front : List Point) (a b c : Point) (rest : List Point) → (front ++ a ∷ []) ++ b ∷ c ∷ rest ≡ front ++ a ∷ b ∷ c ∷ rest
split_at front a b c rest = append_assoc front (a ∷ []) (b ∷ c ∷ rest)

module _ (t : Taken) (points : t.edge.points ≡ t.front ++ t.a ∷ t.b ∷ t.c ∷ t.rest) (once : InnerPointsStandOnce (edges_with t)) where
  there : Among t.edge (edges_with t)
  there = among_right t.before (t.edge ∷ t.after) t.edge (inl refl)

  pub is_inner : Among t.b (inner_points t.edge.points)
  is_inner = subst (λ ps. Among t.b (inner_points ps)) (sym points) (inner_between t.front t.a t.b t.c t.rest)

  -- how often b stands in each part
  parts : (count_by (same_point t.b) (live_points t.before) ≡ 0) × (count_by (same_point t.b) (t.front ++ t.a ∷ []) ≡ 0)
      × (count_by (same_point t.b) (t.c ∷ t.rest) ≡ 0) × (count_by (same_point t.b) (live_points t.after) ≡ 0)
  parts = (omega (arith, total, outer, middle), omega (arith, total, outer, middle), omega (arith, total, outer, middle), omega (arith, total, outer, middle))
    where
      p : Point → Bool
      p = same_point t.b

      total : count_by (same_point t.b) (live_points (edges_with t)) ≤ 1
      total = stands_at (edges_with t) once t.edge there t.b is_inner

      outer : count_by (same_point t.b) (live_points (edges_with t))
          ≡ count_by (same_point t.b) (live_points t.before) + (count_by (same_point t.b) t.edge.points + count_by (same_point t.b) (live_points t.after))
      outer =
          ap (count_by (same_point t.b)) (points_append t.before (t.edge ∷ t.after))
          ∙ times_of_append t.b (live_points t.before) (t.edge.points ++ live_points t.after)
          ∙ ap (λ (n : ℕ). count_by (same_point t.b) (live_points t.before) + n) (times_of_append t.b t.edge.points (live_points t.after))

      middle : count_by (same_point t.b) t.edge.points ≡ count_by (same_point t.b) (t.front ++ t.a ∷ []) + suc (count_by (same_point t.b) (t.c ∷ t.rest))
      middle =
          ap (count_by (same_point t.b)) (points ∙ sym (split_at t.front t.a t.b t.c t.rest))
          ∙ times_of_append t.b (t.front ++ t.a ∷ []) (t.b ∷ t.c ∷ t.rest)
          ∙ ap (λ (n : ℕ). count_by (same_point t.b) (t.front ++ t.a ∷ []) + n) (count_passes (same_point t.b) t.b (t.c ∷ t.rest) (same_point-from t.b t.b refl))

  pub one_less : edges_without t ≡ edges_less (removal_of t ∷ []) (edges_with t)
  one_less = sym (
      map-append (λ (e : Edge). record e { points = without (removal_of t ∷ []) e.points }) t.before (t.edge ∷ t.after)
      ∙ ap₂ (λ (xs ys : List Edge). xs ++ record t.edge { points = without (removal_of t ∷ []) t.edge.points } ∷ ys)
      (less_absent (removal_of t) t.before parts.0) (less_absent (removal_of t) t.after parts.3)
      ∙ ap (λ (ps : List Point). t.before ++ record t.edge { points = ps } ∷ t.after) of_edge)
    where
      of_edge : without (removal_of t ∷ []) t.edge.points ≡ t.front ++ t.a ∷ t.c ∷ t.rest
      of_edge =
          ap (without (removal_of t ∷ [])) (points ∙ sym (split_at t.front t.a t.b t.c t.rest))
          ∙ without_append (removal_of t ∷ []) (t.front ++ t.a ∷ []) (t.b ∷ t.c ∷ t.rest)
          ∙ ap₂ (λ (xs ys : List Point). xs ++ ys) (without_absent (removal_of t) (t.front ++ t.a ∷ []) parts.1)
          (without_this (removal_of t) (t.c ∷ t.rest) ∙ without_absent (removal_of t) (t.c ∷ t.rest) parts.2)
          ∙ append_assoc t.front (t.a ∷ []) (t.c ∷ t.rest)

-- ---- all of them

-- the vertex is an inner point of an edge
abbrev pub IsInnerOf : List Edge → Point → Type 0
IsInnerOf edges b = (e : Edge) × Among e edges × Among b (inner_points e.points)

pub record IsLess (edges : List Edge) (ts : List Taken) (last : List Edge) : Type 0 where
  pub less : last ≡ edges_less (map removal_of ts) edges
  pub inner : All (λ t. IsInnerOf edges t.b) ts
  pub differ : AllPairs (λ t u. t.b ≢ u.b) ts

-- an inner point is a point
pub early_among : (points : List Point) (b : Point) → Among b (all_but_last points) → Among b points
early_among [] b m = m
early_among (x ∷ []) b m = absurd m
early_among (x ∷ y ∷ points) b (inl e) = inl e
early_among (x ∷ y ∷ points) b (inr m) = inr (early_among (y ∷ points) b m)

pub inner_among : (points : List Point) (b : Point) → Among b (inner_points points) → Among b points
inner_among [] b m = m
inner_among (x ∷ points) b m = inr (early_among points b m)

-- what is an inner point where vertices are left out was one before, and is not one of these
pub inner_of_less : (rs : List Removal) (edges : List Edge) (b : Point) → IsInnerOf (edges_less rs edges) b → IsInnerOf edges b
inner_of_less rs edges b m =
    let old = map_among (λ (f : Edge). record f { points = without rs f.points }) edges m.0 m.1 in
    (old.0, old.1, filter_inner (λ p. not (is_removed rs p)) old.0.points b (subst (λ (f : Edge). Among b (inner_points f.points)) (sym old.2) m.2))

pub not_listed : (rs : List Removal) (edges : List Edge) (b : Point) → IsInnerOf (edges_less rs edges) b → is_removed rs b ≡ false
not_listed rs edges b m =
    let old = map_among (λ (f : Edge). record f { points = without rs f.points }) edges m.0 m.1 in
    not-true (is_removed rs b) (filter_among (λ p. not (is_removed rs p)) old.0.points b
    (inner_among (without rs old.0.points) b (subst (λ (f : Edge). Among b (inner_points f.points)) (sym old.2) m.2)))

-- one vertex, and then others
module _ (edges : List Edge) (t : Taken) (ts : List Taken) (last : List Edge) (same : edges_with t ≡ edges)
    (here : t.edge.points ≡ t.front ++ t.a ∷ t.b ∷ t.c ∷ t.rest) (once : InnerPointsStandOnce edges) where
  once_here : InnerPointsStandOnce (edges_with t)
  once_here = subst InnerPointsStandOnce (sym same) once

  left : edges_without t ≡ edges_less (removal_of t ∷ []) edges
  left = one_less t here once_here ∙ ap (edges_less (removal_of t ∷ [])) same

  once_left : InnerPointsStandOnce (edges_without t)
  once_left = subst InnerPointsStandOnce (sym left) (less_stands (removal_of t ∷ []) edges once)

  less_on : IsLess (edges_without t) ts last → IsLess edges (t ∷ ts) last
  less_on later = record {
    less = later.less ∙ ap (edges_less (map removal_of ts)) left ∙ less_both (removal_of t ∷ []) (map removal_of ts) edges;
    inner = All-cons (λ u. IsInnerOf edges u.b) t ts
        (t.edge, subst (Among t.edge) same (there t here once_here), is_inner t here once_here)
        (All-weaker (λ (u : Taken). IsInnerOf (edges_without t) u.b) (λ u. IsInnerOf edges u.b)
        (λ u m. inner_of_less (removal_of t ∷ []) edges u.b (subst (λ es. IsInnerOf es u.b) left m)) ts later.inner);
    differ = AllPairs-cons (λ u v. u.b ≢ v.b) t ts
        (All-weaker (λ (u : Taken). IsInnerOf (edges_without t) u.b) (λ u. t.b ≢ u.b)
        (λ u m e. true≢false (sym (same_point-from t.b u.b e) ∙ (or_parts (same_point t.b u.b) false (not_listed (removal_of t ∷ []) edges u.b (subst (λ es. IsInnerOf es u.b) left m))).0))
        ts later.inner)
        later.differ;
  }

pub follow_less : (edges : List Edge) (ts : List Taken) (last : List Edge) → LeadTo edges ts last
    → All (λ t. t.edge.points ≡ t.front ++ t.a ∷ t.b ∷ t.c ∷ t.rest) ts → InnerPointsStandOnce edges → IsLess edges ts last
follow_less edges [] last leads points once = record {
  less = sym leads ∙ sym (less_none edges);
  inner = All-nil (λ t. IsInnerOf edges t.b);
  differ = AllPairs-nil (λ t u. t.b ≢ u.b);
}
follow_less edges (t ∷ ts) last leads points once =
    let here = All-head (λ (u : Taken). u.edge.points ≡ u.front ++ u.a ∷ u.b ∷ u.c ∷ u.rest) t ts points in
    less_on edges t ts last leads.0 here once
    (follow_less (edges_without t) ts last leads.1 (All-tail (λ (u : Taken). u.edge.points ≡ u.front ++ u.a ∷ u.b ∷ u.c ∷ u.rest) t ts points)
    (once_left edges t ts last leads.0 here once))

-- ---- a sweep

pub sweep_is_without : SweepIsWithout
sweep_is_without ratio area made step edges once =
    let h = follow_edges ratio area made step [] edges in
    let f = follow_less edges (trace_edges ratio area made step [] edges) (swept_edges ratio area made [] edges) h.leads
    (All-weaker (IsTakenByRule ratio area made) (λ t. t.edge.points ≡ t.front ++ t.a ∷ t.b ∷ t.c ∷ t.rest) (λ t k. k.points)
    (trace_edges ratio area made step [] edges) h.rule) once in
    f.less ∙ ap (λ (rs : List Removal). edges_less rs edges) h.gone
