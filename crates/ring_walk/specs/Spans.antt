-- What spans have to be, and the sides that leave their nodes, in one order for all nodes.
use Rattle.std.specs.Prelude.{◌≡◌, ◌≢◌, ◌≤◌, ◌<◌, ℕ, ◌*◌, ◌^◌, Bool, ◌&&◌, ◌||◌, not, nat_lt, IsTrue, List, length, map, filter, get_or, All, AllPairs}
use Rattle.std.specs.List.Sorted.{IsSortedBy}
use Rattle.tgap_model.specs.declared.geometry.Point.{Point}
use Rattle.tgap_model.specs.Base.{in_limits, same_point}
use Rattle.tgap_model.specs.Segment.{point_before, turns_before}
use Rattle.ring_walk.specs.declared.span.Span.{Span}
use Rattle.ring_walk.specs.declared.side.Side.{Side}
use Rattle.ring_walk.specs.declared.spoke.Spoke.{Spoke}
use Rattle.ring_walk.specs.Sides.{side_number, start_of, toward_of}
use Rattle.ring_walk.specs.Rings.{in_front, next_side}

-- a span within the limits of a map, that leaves each of its nodes toward another point
pub record IsSpan (s : Span) : Type 0 where
  pub first : IsTrue (in_limits s.first) × IsTrue (in_limits s.ends.after_first)
  pub last : IsTrue (in_limits s.last) × IsTrue (in_limits s.ends.before_last)
  pub leaves_first : s.first ≢ s.ends.after_first
  pub leaves_last : s.last ≢ s.ends.before_last

-- such spans, so many that 32 bits number them
pub record AreSpans (spans : List Span) : Type 0 where
  pub few : length spans ≤ 2 ^ 32
  pub each : All IsSpan spans

-- the side is one of so many spans
abbrev pub IsSide : ℕ → Side → Type 0
IsSide n s = s.span < n

-- a row of such sides, each once at most
pub record IsRing (n : ℕ) (ring : List Side) : Type 0 where
  pub sides : All (IsSide n) ring
  pub short : length ring ≤ 2 * n

-- ---- spokes

-- Of two sides that leave nodes, this one comes first: by node, round a node counter-clockwise from the direction of positive x, and of
-- those in one direction by number.
abbrev pub before : Spoke → Spoke → Bool
before p q =
    point_before p.node q.node
    || (same_point p.node q.node
    && (turns_before p.node p.toward q.toward || (not (turns_before p.node q.toward p.toward) && nat_lt (side_number p.side) (side_number q.side))))

-- the node and the direction are those of the side
pub record IsSpokeOf (spans : List Span) (p : Spoke) : Type 0 where
  pub side : IsSide (length spans) p.side
  pub node : p.node ≡ start_of spans p.side
  pub toward : p.toward ≡ toward_of spans p.side

abbrev pub sides_in : List Spoke → List Side
sides_in spokes = map (λ p. p.side) spokes

-- ---- the table of next sides

-- by the number of each side, its next one
pub record AreNext (spans : List Span) (table : List Side) : Type 0 where
  pub long : length table ≡ 2 * length spans
  pub each : (s : Side) → IsSide (length spans) s → get_or table (side_number s) s ≡ next_side spans s
  pub within : All (IsSide (length spans)) table

-- the spoke leaves the node
abbrev pub leaves : Point → Spoke → Bool
leaves v p = same_point p.node v

-- spokes of different sides, in order
pub record AreOrdered (spokes : List Spoke) : Type 0 where
  pub sorted : IsSortedBy before spokes
  pub differ : AllPairs (λ p q. p.side ≢ q.side) spokes

-- Round the node of spoke i, in the order of the spokes, the side of spoke j stands in front of its side.
abbrev pub IsInFront : List Spoke → ℕ → ℕ → Type 0
IsInFront spokes i j =
    (d : Spoke) → (get_or spokes j d).side ≡ in_front (get_or spokes i d).side (sides_in (filter (leaves (get_or spokes i d).node) spokes))
