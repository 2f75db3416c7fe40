-- The rings of spans, told of the next side of each side: they are the orbits of the sides.
use Rattle.std.specs.Prelude.{◌≡◌, ◌≢◌, ◌≤◌, ◌<◌, ℕ, ◌+◌, ◌*◌, nat_lt, List, length, flat_map, slice_index_or, All, AllPairs, Contains, if◌then◌else◌}
use Rattle.ring_walk.specs.declared.span.Span.{Span}
use Rattle.ring_walk.specs.declared.side.Side.{Side}
use Rattle.ring_walk.specs.Sides.{side_number, start_of, end_of}
use Rattle.ring_walk.specs.Rings.{next_side, rings_of}
use Rattle.ring_walk.specs.Spans.{IsSide}

-- the place after a place of a cyclic row of n
abbrev pub place_after : ℕ → ℕ → ℕ
place_after n k = if nat_lt (k + 1) n then k + 1 else 0

-- After each side of a ring comes its next one, and after the last side the first one.
abbrev pub IsRound : (Side → Side) → List Side → Type 0
IsRound next ring = (k : ℕ) (d : Side) → k < length ring → slice_index_or ring (place_after (length ring) k) d ≡ next (slice_index_or ring k d)

-- the ring begins with its side of least number
abbrev pub BeginsLeast : List Side → Type 0
BeginsLeast ring = (d : Side) → 0 < length ring → All (λ s. side_number (slice_index_or ring 0 d) ≤ side_number s) ring

-- the sides of rings, ring by ring
abbrev pub sides_of : List (List Side) → List Side
sides_of rings = flat_map (λ r. r) rings

-- Rings that are the orbits of the sides of n spans: a ring is a row of next sides that comes back to where it began, each side stands in
-- one ring and once, and the rings begin with their least sides, in the order of these.
pub record AreOrbits (n : ℕ) (next : Side → Side) (rings : List (List Side)) : Type 0 where
  pub some : All (λ r. 0 < length r) rings
  pub round : All (IsRound next) rings
  pub within : All (IsSide n) (sides_of rings)
  pub short : All (λ r. length r ≤ 2 * n) rings
  pub each : (s : Side) → IsSide n s → Contains (sides_of rings) s
  pub once : AllPairs (λ s t. s ≢ t) (sides_of rings)
  pub least : All BeginsLeast rings
  pub order : AllPairs (λ q r. (d : Side) → side_number (slice_index_or q 0 d) < side_number (slice_index_or r 0 d)) rings

-- The next side is one to one: a side is the next one of one side and no other. It leaves where that one arrives.
pub record IsNextOneToOne (spans : List Span) : Type 0 where
  pub within : (s : Side) → IsSide (length spans) s → IsSide (length spans) (next_side spans s)
  pub one : (s t : Side) → IsSide (length spans) s → IsSide (length spans) t → next_side spans s ≡ next_side spans t → s ≡ t
  pub onto : (t : Side) → IsSide (length spans) t → (s : Side) × IsSide (length spans) s × (next_side spans s ≡ t)
  pub leaves : (s : Side) → IsSide (length spans) s → start_of spans (next_side spans s) ≡ end_of spans s

-- ---- the laws

abbrev pub NextIsOneToOne : Type 0
NextIsOneToOne = (spans : List Span) → IsNextOneToOne spans

abbrev pub RingsAreOrbits : Type 0
RingsAreOrbits = (spans : List Span) → AreOrbits (length spans) (next_side spans) (rings_of spans)
