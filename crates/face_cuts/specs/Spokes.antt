-- Spokes of a node and the last one of them, and rows of sides that come back.
use Rattle.std.specs.Prelude.{◌≡◌, ◌≢◌, Option, Some, None, IsTrue, List, length, if◌then◌else◌}
use Rattle.tgap_model.specs.declared.geometry.Point.{Point}
use Rattle.tgap_model.specs.Base.{in_limits}
use Rattle.ring_walk.specs.declared.span.Span.{Span}
use Rattle.ring_walk.specs.declared.side.Side.{Side}
use Rattle.ring_walk.specs.Sides.{spoke_before, start_of}
use Rattle.ring_walk.specs.Spans.{IsRing, IsSide}
use Rattle.ring_walk.specs.Rings.{next_side}
use Rattle.ring_walk.specs.Orbits.{IsRound}

-- a side that leaves the node
pub record IsSpoke (spans : List Span) (v : Point) (s : Side) : Type 0 where
  pub side : IsSide (length spans) s
  pub node : start_of spans s ≡ v

-- of a spoke and the last one of others, the one that comes last
abbrev pub later : List Span → Side → Option Side → Side
later spans s None = s
later spans s (Some t) = if spoke_before spans s t then t else s

-- a direction in which an arc leaves a node
pub record IsDirection (v p : Point) : Type 0 where
  pub node : IsTrue (in_limits v)
  pub toward : IsTrue (in_limits p)
  pub apart : v ≢ p

-- sides that come back to where they began, each the next one of the one in front of it
pub record IsRow (spans : List Span) (row : List Side) : Type 0 where
  pub ring : IsRing (length spans) row
  pub round : IsRound (next_side spans) row
