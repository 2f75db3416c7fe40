-- The trace of the sweeps: each vertex that they take out, in order, with all edges as they are at that moment.
use Rattle.std.specs.Prelude.{ℕ, zero, suc, ◌-◌, true, false, nat_lt, ◌==◌, ℤ, List, [], ◌∷◌, ◌++◌, length, if◌then◌else◌}
use Rattle.tgap_model.specs.declared.geometry.Point.{Point}
use Rattle.tgap_model.specs.declared.slice.Edge.{Edge}
use Rattle.tgap_model.specs.declared.slice.Removal.{Removal}
use Rattle.tgap_model.specs.Merged.{MergedMap, step_number, face_area}
use Rattle.tgap_model.specs.Chains.{chains_at}
use Rattle.tgap_model.specs.Removals.{is_removable, sweep_points, live_segments, has_side, edges_of, removals_to}
use Rattle.removal_laws.specs.ReplaceLaws.{other_segments}

-- A vertex b that a step takes out of an edge between a and c: the edge has the points `front`, a, b, c and `rest`, and stands
-- between others.
pub record Taken : Type 0 where
  pub step : ℕ
  pub before : List Edge
  pub edge : Edge
  pub after : List Edge
  pub front : List Point
  pub a : Point
  pub b : Point
  pub c : Point
  pub rest : List Point

-- the removal that it is listed as
abbrev pub removal_of : Taken → Removal
removal_of t = record { point = t.b; step = t.step }

-- the edges that are live at that moment, and those after it
abbrev pub edges_with : Taken → List Edge
edges_with t = t.before ++ t.edge ∷ t.after

abbrev pub edges_without : Taken → List Edge
edges_without t = t.before ++ record t.edge { points = t.front ++ t.a ∷ t.c ∷ t.rest } ∷ t.after

-- the vertices of one edge, of which the points `front` and a are kept, and these follow
abbrev pub trace_from : ℕ → ℤ → ℕ → List Edge → Edge → List Edge → List Point → Point → List Point → List Taken
trace_from ratio area step before e after front a [] = []
trace_from ratio area step before e after front a (b ∷ []) = []
trace_from ratio area step before e after front a (b ∷ c ∷ points) =
    elim (is_removable ratio area (other_segments before after front a c points) a b c) [
      | true ↦
          record {
            step = step;
            before = before;
            edge = record e { points = front ++ a ∷ b ∷ c ∷ points };
            after = after;
            front = front;
            a = a;
            b = b;
            c = c;
            rest = points;
          } ∷ trace_from ratio area step before e after front a (c ∷ points)
      | false ↦ trace_from ratio area step before e after (front ++ a ∷ []) b (c ∷ points)
    ]

abbrev pub trace_points : ℕ → ℤ → ℕ → List Edge → Edge → List Edge → List Point → List Taken
trace_points ratio area step before e after [] = []
trace_points ratio area step before e after (a ∷ points) = trace_from ratio area step before e after [] a points

-- the edge after its sweep
abbrev pub swept_edge : ℕ → ℤ → List Edge → Edge → List Edge → Edge
swept_edge ratio area before e after =
    record e { points = (sweep_points ratio area (live_segments before ++ live_segments after) e.points).kept }

-- the vertices of the edges that border the new face, where those before are swept, and the edges after the sweep
abbrev pub trace_edges : ℕ → ℤ → ℕ → ℕ → List Edge → List Edge → List Taken
trace_edges ratio area made step before [] = []
trace_edges ratio area made step before (e ∷ edges) =
    elim (has_side made e) [
      | true ↦
          trace_points ratio area step before e edges e.points
          ++ trace_edges ratio area made step (before ++ swept_edge ratio area before e edges ∷ []) edges
      | false ↦ trace_edges ratio area made step (before ++ e ∷ []) edges
    ]

abbrev pub swept_edges : ℕ → ℤ → ℕ → List Edge → List Edge → List Edge
swept_edges ratio area made before [] = before
swept_edges ratio area made before (e ∷ edges) =
    elim (has_side made e) [
      | true ↦ swept_edges ratio area made (before ++ swept_edge ratio area before e edges ∷ []) edges
      | false ↦ swept_edges ratio area made (before ++ e ∷ []) edges
    ]

-- ---- all steps

-- the edges of the chains after step j, before its sweep
abbrev pub edges_before_sweep : MergedMap → ℕ → List Edge
edges_before_sweep h j = edges_of h j (removals_to h (j - 1)) (chains_at h j)

-- twice the area of the face that step j takes
abbrev pub step_area : MergedMap → ℕ → ℤ
step_area h j = face_area h (j - 1) (step_number h j).loser

-- what step j takes out, from 1 to the last one, and the edges after its sweep
abbrev pub trace_at : MergedMap → ℕ → List Taken
trace_at h j =
    if h.base.rules.ratio == 0 then []
    else trace_edges h.base.rules.ratio (step_area h j) (step_number h j).made j [] (edges_before_sweep h j)

abbrev pub edges_after_sweep : MergedMap → ℕ → List Edge
edges_after_sweep h j =
    if h.base.rules.ratio == 0 then edges_before_sweep h j
    else swept_edges h.base.rules.ratio (step_area h j) (step_number h j).made [] (edges_before_sweep h j)

-- what the first k steps take out
abbrev pub trace_to : MergedMap → ℕ → List Taken
trace_to h zero = []
trace_to h (suc k) = if nat_lt k (length h.steps) then trace_to h k ++ trace_at h (suc k) else trace_to h k
