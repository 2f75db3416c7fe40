-- The sides that a cut takes over to the new face, and the arcs afterwards.
use Rattle.std.specs.Prelude.{◌≡◌, ◌==◌, ℕ, Bool, true, ◌||◌, ◌&&◌, List, [], ◌∷◌, ◌++◌, length, filter, All, Result, Ok, if◌then◌else◌}
use Rattle.std.specs.List.{list_any}
use Rattle.std.specs.Option.{ok_or}
use Rattle.tgap_model.specs.declared.geometry.Point.{Point}
use Rattle.tgap_model.specs.declared.base.BaseArc.{BaseArc}
use Rattle.ring_walk.specs.declared.span.Span.{Span}
use Rattle.ring_walk.specs.declared.side.Side.{Side}
use Rattle.ring_walk.specs.Sides.{face_of, same_side}
use Rattle.ring_walk.specs.Rings.{is_in_ring, ring_from}
use Rattle.ring_walk.specs.Spans.{IsSide}
use Rattle.face_cuts.specs.Outcomes.{◌>>=◌}
use Rattle.face_cuts.specs.Sectors.{spans_of}
use Rattle.face_cuts.specs.Walks.{walk_between}
use Rattle.face_cuts.specs.Cuts.{goes_over, lines_of, sectors_of, with_faces}
use Rattle.face_cuts.specs.Tables.{sides_beside}

-- a side beside the face that is cut goes over: it is on the walk, or its ring lies at the left of the new one
abbrev pub is_moved : List BaseArc → List Point → List Side → Side → Bool
is_moved arcs points walk s = list_any (same_side s) walk || goes_over (lines_of arcs) points walk (ring_from (spans_of arcs) s)

-- the sides beside face f that go over, in the order of their numbers
abbrev pub moved_sides : List BaseArc → ℕ → List Point → List Side → List Side
moved_sides arcs f points walk = filter (is_moved arcs points walk) (sides_beside (spans_of arcs) f)

-- The sides that a cut of face f by an arc with these points takes over to the new face. Cause 9: an end is no node, or the arc leaves it in no sector of f; 12:
-- no walk along f comes from the arc's end to its start.
abbrev pub cut_off_sides : List BaseArc → ℕ → List Point → Result (List Side) ℕ
cut_off_sides arcs f points =
    ok_or (sectors_of (spans_of arcs) f points) 9 >>= λ sectors. ok_or (walk_between (spans_of arcs) f sectors.0 sectors.1) 12 >>= λ walk. Ok (moved_sides arcs f points walk)

-- the face of a side after a cut of face f by which these sides go over
abbrev pub face_with : List BaseArc → ℕ → ℕ → List Side → Side → ℕ
face_with arcs f new moved s = if (face_of (spans_of arcs) s == f) && list_any (same_side s) moved then new else face_of (spans_of arcs) s

-- the arcs after such a cut by an arc with these points
abbrev pub divided_arcs : List BaseArc → ℕ → ℕ → List Point → List Side → List BaseArc
divided_arcs arcs f new points moved = with_faces (face_with arcs f new moved) 0 arcs ++ record { left = new; right = f; points = points } ∷ []

-- ---- rings of some sides

-- the row of next sides of one of the sides
pub record IsRingOf (spans : List Span) (ring : List Side) : Type 0 where
  pub first : Side
  pub within : IsSide (length spans) first
  pub is : ring ≡ ring_from spans first

-- rings in which these sides stand
pub record AreRingsOf (spans : List Span) (row : List Side) (rings : List (List Side)) : Type 0 where
  pub formed : All (IsRingOf spans) rings
  pub each : All (λ s. is_in_ring rings s ≡ true) row
