-- Worked maps at every step, computed from the definitions: degrees, chains, vertex removals, slices and windows.
use Rattle.std.proofs.Common.{◌≡◌, ℕ, true, false, pos, List, [], ◌∷◌, ◌++◌, refl, All, arith}
use Rattle.std.proofs.lemmas.List.Elements.{All-nil, All-cons}
use Rattle.tgap_model.specs.declared.geometry.Point.{Point}
use Rattle.tgap_model.specs.declared.base.BaseArc.{BaseArc}
use Rattle.tgap_model.specs.declared.slice.Edge.{Edge}
use Rattle.tgap_model.specs.declared.slice.FaceRow.{FaceRow}
use Rattle.tgap_model.specs.declared.slice.Removal.{Removal}
use Rattle.tgap_model.specs.Base.{BaseMap}
use Rattle.tgap_model.specs.Merged.{MergedMap, merged}
use Rattle.tgap_model.specs.Chains.{Link, degree, chains_at, are_chains}
use Rattle.tgap_model.specs.Clear.{is_clear}
use Rattle.tgap_model.specs.Removals.{is_removable, sweep, removals_to}
use Rattle.tgap_model.specs.Slice.{IsSlice, IsEdgeOf, left_of, right_of, slice, window_of}
use Rattle.tgap_model.specs.History.{next_step, history_of}
use Rattle.map_laws.proofs.Examples.{two_squares, four_squares, hole_with_face, points_of, step, arc, plain_map}

-- an arc in its direction, and against it
abbrev pub ahead : ℕ → Link
ahead i = record { arc = i; turned = false }

abbrev pub back : ℕ → Link
back i = record { arc = i; turned = true }

abbrev pub point : ℕ → ℕ → Point
point x y = record { x = pos x; y = pos y }

abbrev pub edge : ℕ → ℕ → ℕ → List ℕ → Edge
edge key left right coordinates = record { key = key; left = left; right = right; points = points_of coordinates }

abbrev face : ℕ → FaceRow
face f = record { face = f; class = 0 }

abbrev removal : ℕ → ℕ → ℕ → Removal
removal x y j = record { point = point x y; step = j }

-- ---- four squares round one node

abbrev pub four_squares_merged : MergedMap
four_squares_merged = record { base = four_squares; steps = step 1 2 5 ∷ step 3 4 6 ∷ step 5 6 7 ∷ [] }

middle_degrees : degree four_squares_merged 0 (point 10 10) ∷ degree four_squares_merged 1 (point 10 10)
    ∷ degree four_squares_merged 2 (point 10 10) ∷ degree four_squares_merged 3 (point 10 10) ∷ [] ≡ 4 ∷ 3 ∷ 2 ∷ 0 ∷ []
middle_degrees = refl

four_squares_chains_0 : chains_at four_squares_merged 0 ≡ (ahead 0 ∷ []) ∷ (ahead 1 ∷ []) ∷ (ahead 2 ∷ []) ∷ (ahead 3 ∷ []) ∷ (ahead 4 ∷ []) ∷ (ahead 5 ∷ []) ∷ (ahead 6 ∷ []) ∷ (ahead 7 ∷ []) ∷ []
unfolding chains_at
four_squares_chains_0 = refl

four_squares_chains_1 : chains_at four_squares_merged 1 ≡ (ahead 0 ∷ ahead 1 ∷ []) ∷ (ahead 2 ∷ []) ∷ (ahead 3 ∷ []) ∷ (ahead 5 ∷ []) ∷ (ahead 6 ∷ []) ∷ (ahead 7 ∷ []) ∷ []
unfolding chains_at
four_squares_chains_1 = refl

four_squares_chains_2 : chains_at four_squares_merged 2 ≡ (ahead 0 ∷ ahead 1 ∷ []) ∷ (ahead 2 ∷ ahead 3 ∷ []) ∷ (ahead 5 ∷ back 7 ∷ []) ∷ []
unfolding chains_at
four_squares_chains_2 = refl

four_squares_chains_3 : chains_at four_squares_merged 3 ≡ (ahead 2 ∷ ahead 3 ∷ ahead 0 ∷ ahead 1 ∷ []) ∷ []
unfolding chains_at
four_squares_chains_3 = refl

four_squares_are_chains_0 : are_chains four_squares_merged 0 ((ahead 0 ∷ []) ∷ (ahead 1 ∷ []) ∷ (ahead 2 ∷ []) ∷ (ahead 3 ∷ []) ∷ (ahead 4 ∷ []) ∷ (ahead 5 ∷ []) ∷ (ahead 6 ∷ []) ∷ (ahead 7 ∷ []) ∷ []) ≡ true
unfolding are_chains
four_squares_are_chains_0 = refl

four_squares_are_chains_1 : are_chains four_squares_merged 1 ((ahead 0 ∷ ahead 1 ∷ []) ∷ (ahead 2 ∷ []) ∷ (ahead 3 ∷ []) ∷ (ahead 5 ∷ []) ∷ (ahead 6 ∷ []) ∷ (ahead 7 ∷ []) ∷ []) ≡ true
unfolding are_chains
four_squares_are_chains_1 = refl

four_squares_are_chains_2 : are_chains four_squares_merged 2 ((ahead 0 ∷ ahead 1 ∷ []) ∷ (ahead 2 ∷ ahead 3 ∷ []) ∷ (ahead 5 ∷ back 7 ∷ []) ∷ []) ≡ true
unfolding are_chains
four_squares_are_chains_2 = refl

four_squares_are_chains_3 : are_chains four_squares_merged 3 ((ahead 2 ∷ ahead 3 ∷ ahead 0 ∷ ahead 1 ∷ []) ∷ []) ≡ true
unfolding are_chains
four_squares_are_chains_3 = refl

-- the ring does not start at its anchor
open_ring : are_chains four_squares_merged 3 ((ahead 0 ∷ ahead 1 ∷ ahead 2 ∷ ahead 3 ∷ []) ∷ []) ≡ false
unfolding are_chains
open_ring = refl

-- two chains are not joined at the middle node, whose degree is two
unjoined : are_chains four_squares_merged 2 ((ahead 0 ∷ ahead 1 ∷ []) ∷ (ahead 2 ∷ ahead 3 ∷ []) ∷ (ahead 5 ∷ []) ∷ (ahead 7 ∷ []) ∷ []) ≡ false
unfolding are_chains
unjoined = refl

-- two chains are joined at the middle node while its degree is three
joined_early : are_chains four_squares_merged 1 ((ahead 0 ∷ ahead 1 ∷ []) ∷ (ahead 2 ∷ []) ∷ (ahead 3 ∷ []) ∷ (ahead 5 ∷ back 7 ∷ []) ∷ (ahead 6 ∷ []) ∷ []) ≡ false
unfolding are_chains
joined_early = refl

-- a chain runs against its least arc
against_its_key : are_chains four_squares_merged 2 ((back 1 ∷ back 0 ∷ []) ∷ (ahead 2 ∷ ahead 3 ∷ []) ∷ (ahead 5 ∷ back 7 ∷ []) ∷ []) ≡ false
unfolding are_chains
against_its_key = refl

four_squares_slice_2 : slice four_squares 2 ≡ record {
  step = 2;
  faces = face 5 ∷ face 6 ∷ [];
  edges =
      edge 0 5 0 (0 ∷ 10 ∷ 0 ∷ 0 ∷ 10 ∷ 0 ∷ 20 ∷ 0 ∷ 20 ∷ 10 ∷ [])
      ∷ edge 2 6 0 (20 ∷ 10 ∷ 20 ∷ 20 ∷ 10 ∷ 20 ∷ 0 ∷ 20 ∷ 0 ∷ 10 ∷ [])
      ∷ edge 5 5 6 (20 ∷ 10 ∷ 10 ∷ 10 ∷ 0 ∷ 10 ∷ []) ∷ [];
}
unfolding slice removals_to sweep is_removable is_clear chains_at history_of next_step
four_squares_slice_2 = refl

four_squares_slice_3 : slice four_squares 3 ≡ record { step = 3; faces = face 7 ∷ []; edges = edge 0 7 0 (20 ∷ 10 ∷ 20 ∷ 20 ∷ 10 ∷ 20 ∷ 0 ∷ 20 ∷ 0 ∷ 10 ∷ 0 ∷ 0 ∷ 10 ∷ 0 ∷ 20 ∷ 0 ∷ 20 ∷ 10 ∷ []) ∷ [] }
unfolding slice removals_to sweep is_removable is_clear chains_at history_of next_step
four_squares_slice_3 = refl

-- ---- two squares

two_squares_slice_0 : slice two_squares 0 ≡ record {
  step = 0;
  faces = face 1 ∷ face 2 ∷ [];
  edges =
      edge 0 1 0 (10 ∷ 10 ∷ 0 ∷ 10 ∷ 0 ∷ 0 ∷ 10 ∷ 0 ∷ [])
      ∷ edge 1 2 0 (10 ∷ 0 ∷ 20 ∷ 0 ∷ 20 ∷ 10 ∷ 10 ∷ 10 ∷ [])
      ∷ edge 2 1 2 (10 ∷ 0 ∷ 10 ∷ 10 ∷ []) ∷ [];
}
unfolding slice removals_to sweep is_removable is_clear chains_at history_of next_step
two_squares_slice_0 = refl

-- of the ring only the vertex on a straight line goes: each other triangle is too large
two_squares_removals : removals_to (merged two_squares) 1 ≡ removal 10 0 1 ∷ []
unfolding removals_to sweep is_removable is_clear chains_at history_of next_step
two_squares_removals = refl

two_squares_slice_1 : slice two_squares 1 ≡ record { step = 1; faces = face 3 ∷ []; edges = edge 0 3 0 (10 ∷ 10 ∷ 0 ∷ 10 ∷ 0 ∷ 0 ∷ 20 ∷ 0 ∷ 20 ∷ 10 ∷ 10 ∷ 10 ∷ []) ∷ [] }
unfolding slice removals_to sweep is_removable is_clear chains_at history_of next_step
two_squares_slice_1 = refl

two_squares_window : window_of (record { x0 = pos 12; y0 = pos 2; x1 = pos 30; y1 = pos 4 }) (slice two_squares 0)
    ≡ record { step = 0; faces = face 2 ∷ []; edges = edge 1 2 0 (10 ∷ 0 ∷ 20 ∷ 0 ∷ 20 ∷ 10 ∷ 10 ∷ 10 ∷ []) ∷ [] }
unfolding window_of slice removals_to sweep is_removable is_clear chains_at history_of next_step
two_squares_window = refl

-- ---- two islands that touch at a node

abbrev pub touching_islands : BaseMap
touching_islands = plain_map 16 (0 ∷ 0 ∷ []) (arc 1 0 (10 ∷ 10 ∷ 0 ∷ 10 ∷ 0 ∷ 0 ∷ 10 ∷ 0 ∷ 10 ∷ 10 ∷ [])
    ∷ arc 2 0 (10 ∷ 10 ∷ 20 ∷ 10 ∷ 20 ∷ 20 ∷ 10 ∷ 20 ∷ 10 ∷ 10 ∷ []) ∷ [])

islands_history : history_of touching_islands ≡ []
unfolding history_of next_step
islands_history = refl

islands_chains : chains_at (merged touching_islands) 0 ≡ (ahead 0 ∷ []) ∷ (ahead 1 ∷ []) ∷ []
unfolding chains_at history_of next_step
islands_chains = refl

islands_are_chains : are_chains (merged touching_islands) 0 ((ahead 0 ∷ []) ∷ (ahead 1 ∷ []) ∷ []) ≡ true
unfolding are_chains history_of next_step
islands_are_chains = refl

-- two rings are joined at a node of degree four
islands_joined : are_chains (merged touching_islands) 0 ((ahead 0 ∷ ahead 1 ∷ []) ∷ []) ≡ false
unfolding are_chains history_of next_step
islands_joined = refl

-- ---- a square with a hole, and a face in it

hole_slice_1 : slice hole_with_face 1 ≡ record { step = 1; faces = face 3 ∷ []; edges = edge 0 3 0 (0 ∷ 0 ∷ 30 ∷ 0 ∷ 30 ∷ 30 ∷ 0 ∷ 30 ∷ 0 ∷ 0 ∷ []) ∷ [] }
unfolding slice removals_to sweep is_removable is_clear chains_at history_of next_step
hole_slice_1 = refl

-- ---- a square with a spike, and an island under it or none

abbrev spike_arcs : List BaseArc
spike_arcs =
    arc 1 0 (40 ∷ 40 ∷ 0 ∷ 40 ∷ 4 ∷ 20 ∷ 0 ∷ 0 ∷ 40 ∷ 0 ∷ []) ∷ arc 2 0 (40 ∷ 0 ∷ 60 ∷ 0 ∷ 60 ∷ 40 ∷ 40 ∷ 40 ∷ [])
    ∷ arc 1 2 (40 ∷ 0 ∷ 40 ∷ 40 ∷ []) ∷ []

abbrev pub spike : BaseMap
spike = plain_map 10 (0 ∷ 0 ∷ []) spike_arcs

abbrev pub spike_with_island : BaseMap
spike_with_island = plain_map 10 (0 ∷ 0 ∷ 0 ∷ []) (spike_arcs ++ arc 3 0 (1 ∷ 20 ∷ 2 ∷ 20 ∷ 1 ∷ 21 ∷ 1 ∷ 20 ∷ []) ∷ [])

spike_slice : slice spike 1 ≡ record { step = 1; faces = face 3 ∷ []; edges = edge 0 3 0 (40 ∷ 40 ∷ 0 ∷ 40 ∷ 0 ∷ 0 ∷ 60 ∷ 0 ∷ 60 ∷ 40 ∷ 40 ∷ 40 ∷ []) ∷ [] }
unfolding slice removals_to sweep is_removable is_clear chains_at history_of next_step
spike_slice = refl

spike_removals : removals_to (merged spike) 1 ≡ removal 4 20 1 ∷ removal 40 0 1 ∷ []
unfolding removals_to sweep is_removable is_clear chains_at history_of next_step
spike_removals = refl

-- the island stands in the triangle of the spike, so the spike stays
island_slice : slice spike_with_island 1 ≡ record {
  step = 1;
  faces = face 3 ∷ face 4 ∷ [];
  edges =
      edge 0 4 0 (40 ∷ 40 ∷ 0 ∷ 40 ∷ 4 ∷ 20 ∷ 0 ∷ 0 ∷ 60 ∷ 0 ∷ 60 ∷ 40 ∷ 40 ∷ 40 ∷ [])
      ∷ edge 3 3 0 (1 ∷ 20 ∷ 2 ∷ 20 ∷ 1 ∷ 21 ∷ 1 ∷ 20 ∷ []) ∷ [];
}
unfolding slice removals_to sweep is_removable is_clear chains_at history_of next_step
island_slice = refl

island_removals : removals_to (merged spike_with_island) 1 ≡ removal 40 0 1 ∷ []
unfolding removals_to sweep is_removable is_clear chains_at history_of next_step
island_removals = refl

island_in_the_way : is_clear (point 0 40) (point 4 20) (point 0 0) (record { a = point 1 20; b = point 2 20 }) ≡ false
unfolding is_clear
island_in_the_way = refl

-- a segment from a corner, away from the triangle
side_at_a_corner : is_clear (point 0 40) (point 4 20) (point 0 0) (record { a = point 0 0; b = point 40 0 }) ≡ true
unfolding is_clear
side_at_a_corner = refl

-- ---- two triangles that make one ring of three points, of which no more are removed

abbrev pub two_triangles : BaseMap
two_triangles = plain_map 1 (0 ∷ 0 ∷ [])
    (arc 1 0 (0 ∷ 0 ∷ 12 ∷ 0 ∷ 6 ∷ 6 ∷ []) ∷ arc 2 0 (6 ∷ 6 ∷ 0 ∷ 12 ∷ 0 ∷ 0 ∷ []) ∷ arc 2 1 (0 ∷ 0 ∷ 6 ∷ 6 ∷ []) ∷ [])

-- any other vertex is kept by the third segment, whose ends are both corners of the triangle
triangles_removals : removals_to (merged two_triangles) 1 ≡ removal 0 12 1 ∷ []
unfolding removals_to sweep is_removable is_clear chains_at history_of next_step
triangles_removals = refl

triangles_slice : slice two_triangles 1 ≡ record { step = 1; faces = face 3 ∷ []; edges = edge 0 3 0 (6 ∷ 6 ∷ 0 ∷ 0 ∷ 12 ∷ 0 ∷ 6 ∷ 6 ∷ []) ∷ [] }
unfolding slice removals_to sweep is_removable is_clear chains_at history_of next_step
triangles_slice = refl

abbrev two_squares_merged : MergedMap
two_squares_merged = record { base = two_squares; steps = step 1 2 3 ∷ [] }

-- ---- the relation: the slice of the two squares after the step is one, and an edge with another face is not the chain's

both : (P : Link → Type 0) → P (ahead 0) → P (ahead 1) → All P (ahead 0 ∷ ahead 1 ∷ [])
both P p q = All-cons P (ahead 0) (ahead 1 ∷ []) p (All-cons P (ahead 1) [] q (All-nil P))

two_squares_is_slice : IsSlice two_squares_merged 1 (removal 10 0 1 ∷ []) (record { step = 1; faces = face 3 ∷ []; edges = edge 0 3 0 (10 ∷ 10 ∷ 0 ∷ 10 ∷ 0 ∷ 0 ∷ 20 ∷ 0 ∷ 20 ∷ 10 ∷ 10 ∷ 10 ∷ []) ∷ [] })
unfolding are_chains
two_squares_is_slice = record {
  step = refl;
  faces = refl;
  chains = (ahead 0 ∷ ahead 1 ∷ []) ∷ [];
  are_chains = refl;
  edges = (
    record {
      key = refl;
      points = refl;
      left = both (λ d. left_of two_squares_merged 1 d ≡ 3) refl refl;
      right = both (λ d. right_of two_squares_merged 1 d ≡ 0) refl refl;
    },
    tt,
  );
}

face_before_the_step : IsEdgeOf two_squares_merged 1 (removal 10 0 1 ∷ []) (ahead 0 ∷ ahead 1 ∷ []) (edge 0 2 0 (10 ∷ 10 ∷ 0 ∷ 10 ∷ 0 ∷ 0 ∷ 20 ∷ 0 ∷ 20 ∷ 10 ∷ 10 ∷ 10 ∷ [])) → ⊥
face_before_the_step h = let left : 3 ≡ 2 = h.left 0 (ahead 0) (omega arith) in absurd (omega (arith, left))
