-- What a table of arcs is asked: the sides at a node and beside a face.
use Rattle.std.specs.Prelude.{◌==◌, ℕ, List, length, filter}
use Rattle.tgap_model.specs.declared.geometry.Point.{Point}
use Rattle.tgap_model.specs.Base.{same_point}
use Rattle.ring_walk.specs.declared.span.Span.{Span}
use Rattle.ring_walk.specs.declared.side.Side.{Side}
use Rattle.ring_walk.specs.Sides.{face_of, sides, start_of}

-- the sides that leave a node, in the order of their numbers
abbrev pub sides_leaving : List Span → Point → List Side
sides_leaving spans v = filter (λ s. same_point (start_of spans s) v) (sides (length spans))

-- the sides beside face f, in the order of their numbers
abbrev pub sides_beside : List Span → ℕ → List Side
sides_beside spans f = filter (λ s. face_of spans s == f) (sides (length spans))
