-- The directions in which the edges of a slice leave their nodes: those of their first and last arcs in the base map, whatever vertices
-- were removed since.
use Rattle.std.specs.Prelude.{◌≡◌, ◌<◌, ◌≤◌, ℕ, true, List, [], ◌∷◌, map, reverse, length, All}
use Rattle.std.specs.List.{AllZip}
use Rattle.tgap_model.specs.declared.geometry.Point.{Point}
use Rattle.tgap_model.specs.declared.base.BaseArc.{BaseArc}
use Rattle.tgap_model.specs.declared.slice.Edge.{Edge}
use Rattle.tgap_model.specs.declared.limits.TheConstants.{MAX_ARCS, MAX_POINTS}
use Rattle.tgap_model.specs.Base.{BaseMap}
use Rattle.tgap_model.specs.Bounds.{IsNear}
use Rattle.tgap_model.specs.Merged.{merged}
use Rattle.tgap_model.specs.Chains.{Link, Chain, first_point, last_point, link_points, has_links, chains_at}
use Rattle.ring_walk.specs.declared.span.EdgeEnds.{EdgeEnds}
use Rattle.ring_walk.specs.declared.span.Span.{Span}
use Rattle.ring_walk.specs.Sides.{origin}
use Rattle.ring_walk.specs.Spans.{IsSpan}

-- the point next to the first one of a row
abbrev pub second_point : List Point → Point
second_point [] = origin
second_point (p ∷ []) = p
second_point (p ∷ q ∷ points) = q

-- the last link of a chain, of which this one stands in front
abbrev pub last_link : Link → Chain → Link
last_link d [] = d
last_link d (e ∷ chain) = last_link e chain

-- where a chain leaves its two ends: the point next to the first one in its first arc, and that next to the last one in its last arc
abbrev pub chain_ends : List BaseArc → Chain → EdgeEnds
chain_ends arcs [] = record { after_first = origin; before_last = origin }
chain_ends arcs (d ∷ chain) = record {
  after_first = second_point (link_points arcs d);
  before_last = second_point (reverse (link_points arcs (last_link d chain)));
}

-- The ends of the edges of a slice after k steps, in the order of the edges.
unfoldable pub slice_ends : BaseMap → ℕ → List EdgeEnds
slice_ends m k = map (chain_ends m.arcs) (chains_at (merged m) k)

-- a chain of these arcs, which has one
pub record IsChainOf (arcs : List BaseArc) (chain : Chain) : Type 0 where
  pub some : has_links chain ≡ true
  pub within : All (λ d. d.arc < length arcs) chain

-- each arc has two points at least
abbrev pub HaveSegments : List BaseArc → Type 0
HaveSegments arcs = All (λ a. 2 ≤ length a.points) arcs

-- ---- what the edges of a slice keep with their ends

-- an edge with its ends, as a span of rings
abbrev pub span_with : Edge → EdgeEnds → Span
span_with e ends = record { first = first_point e.points; last = last_point e.points; ends = ends; left = e.left; right = e.right }

-- an edge of at least one segment, within the limits of a map
pub record IsEdgeWithin (e : Edge) : Type 0 where
  pub near : All IsNear e.points
  pub some : 2 ≤ length e.points
  pub short : length e.points ≤ MAX_POINTS

-- Edges within the limits of a map, no more than it may have arcs, each with its ends: it leaves each of its two nodes toward another
-- point, and these points are within the limits too.
pub record LeaveNodes (edges : List Edge) (ends : List EdgeEnds) : Type 0 where
  pub few : length edges ≤ MAX_ARCS
  pub within : All IsEdgeWithin edges
  pub leave : AllZip (λ e x. IsSpan (span_with e x)) edges ends
