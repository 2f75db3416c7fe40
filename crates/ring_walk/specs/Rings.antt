-- The next side of a side, and the rings: the rows of next sides that come back to where they began.
use Rattle.std.specs.Prelude.{ℕ, zero, suc, ◌*◌, Bool, List, [], ◌∷◌, ◌++◌, fold, length, if◌then◌else◌}
use Rattle.std.specs.List.{list_any}
use Rattle.ring_walk.specs.declared.span.Span.{Span}
use Rattle.ring_walk.specs.declared.side.Side.{Side}
use Rattle.ring_walk.specs.Sides.{turned, same_side, sides, end_of, face_of, spokes_at}

-- ---- the next side

-- the last of a row, where one stands in front of it
abbrev pub last_after : Side → List Side → Side
last_after s [] = s
last_after s (t ∷ ts) = last_after t ts

-- what stands in front of a side in a row, where one stands in front of the row
abbrev pub in_front_after : Side → Side → List Side → Side
in_front_after before s [] = before
in_front_after before s (t ∷ ts) = if same_side t s then before else in_front_after t s ts

-- what stands in front of a side in a cyclic row: in front of the first one it is the last one
abbrev pub in_front : Side → List Side → Side
in_front s ts = in_front_after (last_after s ts) s ts

-- A side arrives at a node by one of the sides that leave it, turned; the next one is what stands in front of that one round the node.
abbrev pub next_side : List Span → Side → Side
next_side spans s = in_front (turned s) (spokes_at spans (sides (length spans)) (end_of spans s))

-- ---- rings

-- the row of sides from t on, each the next one of the one in front of it, until s comes again; n at most
abbrev pub row_until : (Side → Side) → Side → ℕ → Side → List Side
row_until next s zero t = []
row_until next s (suc n) t = t ∷ (if same_side (next t) s then [] else row_until next s n (next t))

-- the ring of a side, from it on
abbrev pub ring_from : List Span → Side → List Side
ring_from spans s = row_until (next_side spans) s (2 * length spans) s

-- the side is in one of the rings
abbrev pub is_in_ring : List (List Side) → Side → Bool
is_in_ring rings s = list_any (λ ring. list_any (same_side s) ring) rings

-- the ring of the side more, where it is in none of the rings
abbrev pub with_ring_of : List Span → List (List Side) → Side → List (List Side)
with_ring_of spans rings s = if is_in_ring rings s then rings else rings ++ ring_from spans s ∷ []

-- The rings, each from its least side on, in the order of these.
unfoldable pub rings_of : List Span → List (List Side)
rings_of spans = fold (with_ring_of spans) [] (sides (length spans))

-- the face of a ring: that of its sides
abbrev pub ring_face : List Span → List Side → ℕ
ring_face spans [] = 0
ring_face spans (s ∷ ring) = face_of spans s
