-- Worked walks, computed from the definitions.
use Rattle.std.proofs.Common.{◌≡◌, ℕ, pos, negsuc, List, [], ◌∷◌, map, refl}
use Rattle.tgap_model.specs.declared.geometry.Point.{Point}
use Rattle.ring_walk.specs.declared.span.Span.{Span}
use Rattle.ring_walk.specs.declared.side.Side.{Side}
use Rattle.ring_walk.specs.declared.side.Way.TheVariants.{Along, Against}
use Rattle.tgap_model.specs.Segment.{turns_before}
use Rattle.ring_walk.specs.Sides.{sides, spokes_at}
use Rattle.ring_walk.specs.Rings.{next_side, rings_of, ring_face}
use Rattle.ring_walk.specs.Areas.{ring_area}

abbrev pub along : ℕ → Side
along i = record { span = i; way = Along }

abbrev pub against : ℕ → Side
against i = record { span = i; way = Against }

abbrev pub point : ℕ → ℕ → Point
point x y = record { x = pos x; y = pos y }

abbrev points : List ℕ → List Point
points (x ∷ y ∷ more) = point x y ∷ points more
points more = []

abbrev span : Point → Point → Point → Point → ℕ → ℕ → Span
span first after before last left right = record { first = first; last = last; ends = record { after_first = after; before_last = before }; left = left; right = right }

-- ---- two squares side by side

abbrev two_squares : List Span
two_squares =
    span (point 10 10) (point 0 10) (point 0 0) (point 10 0) 1 0
    ∷ span (point 10 0) (point 20 0) (point 20 10) (point 10 10) 2 0
    ∷ span (point 10 0) (point 10 10) (point 10 0) (point 10 10) 1 2 ∷ []

spokes_low : spokes_at two_squares (sides 3) (point 10 0) ≡ along 1 ∷ along 2 ∷ against 0 ∷ []
unfolding spokes_at turns_before
spokes_low = refl

rings_two : rings_of two_squares ≡ (along 0 ∷ along 2 ∷ []) ∷ (against 0 ∷ against 1 ∷ []) ∷ (along 1 ∷ against 2 ∷ []) ∷ []
unfolding rings_of spokes_at turns_before
rings_two = refl

areas_two : map (ring_area (points (10 ∷ 10 ∷ 0 ∷ 10 ∷ 0 ∷ 0 ∷ 10 ∷ 0 ∷ []) ∷ points (10 ∷ 0 ∷ 20 ∷ 0 ∷ 20 ∷ 10 ∷ 10 ∷ 10 ∷ []) ∷ points (10 ∷ 0 ∷ 10 ∷ 10 ∷ []) ∷ [])) (rings_of two_squares)
    ≡ pos 200 ∷ negsuc 399 ∷ pos 200 ∷ []
unfolding rings_of spokes_at turns_before
areas_two = refl

faces_two : map (ring_face two_squares) (rings_of two_squares) ≡ 1 ∷ 0 ∷ 2 ∷ []
unfolding rings_of spokes_at turns_before
faces_two = refl

-- ---- two squares that touch at a corner: the ring round both comes to the corner twice

abbrev two_corners : List Span
two_corners =
    span (point 10 10) (point 0 10) (point 10 0) (point 10 10) 1 0
    ∷ span (point 10 10) (point 20 10) (point 10 20) (point 10 10) 1 0 ∷ []

spokes_corner : spokes_at two_corners (sides 2) (point 10 10) ≡ along 1 ∷ against 1 ∷ along 0 ∷ against 0 ∷ []
unfolding spokes_at turns_before
spokes_corner = refl

rings_corner : rings_of two_corners ≡ (along 0 ∷ []) ∷ (against 0 ∷ against 1 ∷ []) ∷ (along 1 ∷ []) ∷ []
unfolding rings_of spokes_at turns_before
rings_corner = refl

-- ---- spans that leave a node in one direction stand in the order of their numbers, of one span the start before the end

abbrev one_way_out : List Span
one_way_out =
    span (point 0 0) (point 5 0) (point 7 0) (point 0 0) 1 2
    ∷ span (point 0 0) (point 3 0) (point 8 8) (point 9 9) 2 1 ∷ []

spokes_tied : spokes_at one_way_out (sides 2) (point 0 0) ≡ along 0 ∷ against 0 ∷ along 1 ∷ []
unfolding spokes_at turns_before
spokes_tied = refl

next_tied : map (next_side one_way_out) (sides 2) ≡ along 0 ∷ along 1 ∷ against 1 ∷ against 0 ∷ []
unfolding spokes_at turns_before
next_tied = refl

rings_tied : rings_of one_way_out ≡ (along 0 ∷ []) ∷ (against 0 ∷ along 1 ∷ against 1 ∷ []) ∷ []
unfolding rings_of spokes_at turns_before
rings_tied = refl
