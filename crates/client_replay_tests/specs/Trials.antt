-- Two squares side by side, seen in a window of the right one: the window after the step that makes them one face, and the record
-- of that step, with what the trials change of them.
use Rattle.std.specs.Prelude.{ℕ, Bool, false, pos, List, [], ◌∷◌, if◌then◌else◌}
use Rattle.tgap_model.specs.declared.geometry.Point.{Point}
use Rattle.tgap_model.specs.declared.slice.Edge.{Edge}
use Rattle.tgap_model.specs.declared.slice.FaceRow.{FaceRow}
use Rattle.tgap_model.specs.declared.slice.Slice.{Slice}
use Rattle.tgap_model.specs.declared.record.Mend.{Mend}
use Rattle.tgap_model.specs.declared.record.Piece.{Piece}
use Rattle.tgap_model.specs.declared.window_record.WindowStep.{WindowStep}

abbrev pub point : ℕ → ℕ → Point
point x y = record { x = pos x; y = pos y }

-- the ring round both squares, without the vertex at (10, 0)
abbrev pub ring_points : List Point
ring_points = point 10 10 ∷ point 0 10 ∷ point 0 0 ∷ point 20 0 ∷ point 20 10 ∷ point 10 10 ∷ []

-- the window of the right square at a step
abbrev pub right_slice : ℕ → List FaceRow → Slice
right_slice step faces = record { step = step; faces = faces; edges = record { key = 0; left = 3; right = 0; points = ring_points } ∷ [] }

abbrev pub piece : ℕ → ℕ → ℕ → Piece
piece key last side = record { key = key; last = last; side = side; turned = false }

-- the mend of the edge with this key, with this vertex, whose first piece gets this side
abbrev pub ring_mends : ℕ → Point → ℕ → List Mend
ring_mends key p side = record { key = key; puts = record { at = 3; point = p } ∷ []; pieces = piece 0 3 side ∷ piece 1 6 2 ∷ [] } ∷ []

-- an edge with the key of the second piece
abbrev pub twin : Edge
twin = record { key = 1; left = 2; right = 0; points = point 10 0 ∷ point 20 0 ∷ [] }

-- the record of a step by which the face 3 becomes 1 and 2
abbrev pub step_with : ℕ → List FaceRow → List Mend → List Edge → WindowStep
step_with step faces mends comes = record { step = step; loser = 1; winner = 2; made = 3; faces = faces; mends = mends; comes = comes }

abbrev pub right_step : ℕ → List FaceRow → ℕ → Point → ℕ → Bool → WindowStep
right_step step rows key p side twice = step_with step rows (ring_mends key p side) (if twice then twin ∷ [] else [])

-- the record by which a triangle comes whose highest vertex was not there
abbrev pub upper_step : WindowStep
upper_step = step_with 1 (record { face = 2; class = 0 } ∷ []) [] (record { key = 1; left = 2; right = 0; points = point 6 6 ∷ point 0 12 ∷ point 0 0 ∷ [] } ∷ [])
