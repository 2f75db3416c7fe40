-- What the sweep keeps beside its line: the faces at the sides of the segments, and at how many places of the row they differ.
use Rattle.std.specs.Prelude.{◌≡◌, ℕ, ◌+◌, List, [], ◌∷◌, ◌++◌, length, map, get_or}
use Rattle.tgap_model.specs.declared.geometry.Seg.{Seg}
use Rattle.tgap_model.specs.declared.segment.LabelledSegment.{LabelledSegment}
use Rattle.tgap_model.specs.Partition.{Sides, sides}
use Rattle.planar_sweep.specs.declared.line.Line.{Line}
use Rattle.planar_sweep.specs.Faces.{gaps_from}
use Rattle.planar_sweep.specs.Rows.{Change, IsRow}
use Rattle.planar_sweep.specs.Line.{IsLineOf}

-- the faces above and below each segment, and then those of the end, which is outside
abbrev pub face_pair : LabelledSegment → ℕ × ℕ
face_pair s = ((sides s).upper, (sides s).lower)

abbrev pub AreFaces : List LabelledSegment → List (ℕ × ℕ) → Type 0
AreFaces segments faces = faces ≡ map face_pair segments ++ (0, 0) ∷ []

abbrev pub sides_in : List (ℕ × ℕ) → ℕ → Sides
sides_in faces n = record { upper = (get_or faces n (0, 0)).0; lower = (get_or faces n (0, 0)).1 }

-- there are faces for each segment, and the outside for the end
pub record HasFaces (segs : List Seg) (faces : List (ℕ × ℕ)) : Type 0 where
  pub long : length faces ≡ length segs + 1
  pub outside : get_or faces (length segs) (0, 0) ≡ (0, 0)

-- the places of a row at which the faces differ
abbrev pub gaps_in : List (ℕ × ℕ) → List ℕ → ℕ
gaps_in faces row = gaps_from 0 (map (sides_in faces) row)

-- The line after some changes.
pub record IsSwept (segs : List Seg) (faces : List (ℕ × ℕ)) (done : List Change) (l : Line) (g : ℕ) : Type 0 where
  pub line : IsLineOf segs l
  pub row : IsRow segs done l.row.row
  pub gaps : g ≡ gaps_in faces l.row.row
