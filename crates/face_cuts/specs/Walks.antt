-- The walk from the end of a new arc to its start, along sides of one face.
use Rattle.std.specs.Prelude.{ℕ, ◌==◌, List, [], ◌∷◌, Option, Some, None, option_map, if◌then◌else◌}
use Rattle.ring_walk.specs.declared.span.Span.{Span}
use Rattle.ring_walk.specs.declared.side.Side.{Side}
use Rattle.ring_walk.specs.Sides.{same_side, face_of}
use Rattle.ring_walk.specs.Rings.{next_side, ring_from}

-- The sides of a row up to the first one that arrives at the arc's start by the spoke that ends the sector of the start: in front of that spoke there
-- stands `start`, with which the sector begins, so this is the next side. None where a side on the way does not have the face, or where no side
-- arrives so.
abbrev pub walk_along : List Span → ℕ → Side → List Side → Option (List Side)
walk_along spans f start [] = None
walk_along spans f start (s ∷ row) =
    if face_of spans s == f
    then (if same_side (next_side spans s) start then Some (s ∷ []) else option_map (λ walk. s ∷ walk) (walk_along spans f start row))
    else None

-- The walk between the sectors of the arc's ends. Its sides are next sides from that on with which the sector at the arc's end begins. They come back
-- to it after twice as many sides as there are arcs at the latest.
abbrev pub walk_between : List Span → ℕ → Side → Side → Option (List Side)
walk_between spans f start end = walk_along spans f start (ring_from spans end)
