-- Rows of arcs of which no point is left but the ends, and the tables that tell from which step on.
use Rattle.std.specs.Prelude.{◌≡◌, ◌<◌, ◌≤◌, ◌+◌, ℕ, max, Bool, true, false, not, ◌&&◌, ◌==◌, nat_le, nat_lt, List, [], ◌∷◌, filter, map, length, slice_index_or, slice_range, get_or, if◌then◌else◌}
use Rattle.std.specs.List.{All}
use Rattle.tgap_model.specs.declared.geometry.Point.{Point}
use Rattle.tgap_model.specs.declared.base.BaseArc.{BaseArc}
use Rattle.tgap_model.specs.Chains.{Chain, arc_number, chain_points, chain_start, chain_end, link_start, link_end, has_links, turned_round}
use Rattle.edge_forest.specs.declared.edge.Part.{Part}
use Rattle.edge_forest.specs.declared.edge.ForestEdge.{ForestEdge}
use Rattle.edge_forest.specs.declared.walk.Link.{Link}
use Rattle.edge_forest.specs.declared.span.Span.{Span}
use Rattle.edge_forest.specs.declared.spent.Spent.{Spent}
use Rattle.edge_forest.specs.declared.gone_steps.GoneSteps.{GoneSteps}
use Rattle.edge_forest.specs.Edges.{chains_of}
use Rattle.edge_forest.specs.Forest.{never}
use Rattle.edge_forest.specs.Removed.{PointSteps, step_of, is_gone_by}
use Rattle.edge_forest.specs.Walks.{chain_link}

-- the point is left after k steps
abbrev pub is_left : PointSteps → ℕ → Point → Bool
is_left t k p = not (is_gone_by t k p)

-- the points of a row of arcs that are left after k steps, and those of its two ends
abbrev pub left_points : List BaseArc → PointSteps → ℕ → Chain → List Point
left_points arcs t k c = filter (is_left t k) (chain_points arcs c)

abbrev pub left_ends : List BaseArc → PointSteps → ℕ → Chain → List Point
left_ends arcs t k c = filter (is_left t k) (chain_start arcs c ∷ chain_end arcs c ∷ [])

-- No point of the row is left after k steps but the ends, whichever way it is gone along.
pub record IsBare (arcs : List BaseArc) (t : PointSteps) (k : ℕ) (c : Chain) : Type 0 where
  pub along : left_points arcs t k c ≡ left_ends arcs t k c
  pub back : left_points arcs t k (turned_round c) ≡ left_ends arcs t k (turned_round c)

-- the step at which a point was removed, or `never`
abbrev pub gone_step : PointSteps → Point → ℕ
gone_step t p = if step_of t p == 0 then never else step_of t p

-- the step was made when k steps were
abbrev pub is_past : ℕ → ℕ → Bool
is_past step k = nat_le step k && nat_lt step never

-- ---- spans

abbrev pub turned_link : Link → Link
turned_link d = record { arc = d.arc; turned = not d.turned }

-- the span of the row that is turned round
abbrev pub turned_span : Span → Span
turned_span s = record { step = s.step; first = turned_link s.last; last = turned_link s.first }

-- the span of two rows, one after the other: the points where they meet have to go too
abbrev pub joined_span : List BaseArc → PointSteps → Span → Span → Span
joined_span arcs t a b = record {
  step = max (max a.step b.step) (max (gone_step t (link_end arcs (chain_link a.last))) (gone_step t (link_start arcs (chain_link b.first))));
  first = a.first;
  last = b.last;
}

-- The row of arcs starts and ends with these arcs, and from the step on it is bare.
pub record IsSpan (arcs : List BaseArc) (t : PointSteps) (c : Chain) (s : Span) : Type 0 where
  pub links : has_links c ≡ true
  pub known : All (λ d. d.arc < length arcs) c
  pub first_arc : s.first.arc < length arcs
  pub last_arc : s.last.arc < length arcs
  pub first : link_start arcs (chain_link s.first) ≡ chain_start arcs c
  pub last : link_end arcs (chain_link s.last) ≡ chain_end arcs c
  pub bare : (k : ℕ) → is_past s.step k ≡ true → IsBare arcs t k c

-- ---- tables

-- Beside the points of each arc stand the steps at which they were removed.
pub record AreGoneSteps (arcs : List BaseArc) (t : PointSteps) (gone : GoneSteps) : Type 0 where
  pub count : length gone.starts.items ≡ length arcs
  pub inside : (i : ℕ) → i < length arcs → get_or gone.starts.items i 0 + length (arc_number arcs i).points ≤ length gone.steps.items
  pub each : (i : ℕ) → i < length arcs
      → slice_range gone.steps.items (get_or gone.starts.items i 0) (get_or gone.starts.items i 0 + length (arc_number arcs i).points) ≡ map (step_of t) (arc_number arcs i).points

-- the span of a part: by the steps of the arcs and the spans of the edges
abbrev pub whole_span : List ℕ → List Span → Part → Span
whole_span steps spans p =
    if p.leaf
    then record { step = slice_index_or steps p.id 0; first = record { arc = p.id; turned = false }; last = record { arc = p.id; turned = false } }
    else slice_index_or spans p.id (record { step = 0; first = record { arc = 0; turned = false }; last = record { arc = 0; turned = false } })

abbrev pub part_span : List ℕ → List Span → Part → Span
part_span steps spans p = if p.turned then turned_span (whole_span steps spans p) else whole_span steps spans p

-- from the step beside an arc on it is bare
abbrev pub AreArcSteps : List BaseArc → PointSteps → List ℕ → Type 0
AreArcSteps arcs t steps =
    (i : ℕ) → i < length steps → (k : ℕ) → is_past (slice_index_or steps i 0) k ≡ true → IsBare arcs t k (record { arc = i; turned = false } ∷ [])

-- beside a chain stands its span
abbrev pub AreSpans : List BaseArc → PointSteps → List Chain → List Span → Type 0
AreSpans arcs t chains spans =
    (i : ℕ) → i < length spans
    → IsSpan arcs t (slice_index_or chains i [])
    (slice_index_or spans i (record { step = 0; first = record { arc = 0; turned = false }; last = record { arc = 0; turned = false } }))

-- a step for each arc, a span for each edge, and the steps of the points
pub record AreSpent (arcs : List BaseArc) (t : PointSteps) (edges : List ForestEdge) (s : Spent) : Type 0 where
  pub arcs_count : length s.arcs.items ≡ length arcs
  pub edges_count : length s.edges.items ≡ length edges
  pub arc_steps : AreArcSteps arcs t s.arcs.items
  pub edge_spans : AreSpans arcs t (chains_of edges) s.edges.items
  pub gone : AreGoneSteps arcs t s.gone
