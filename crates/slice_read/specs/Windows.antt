-- What is read of a window of a slice.
use Rattle.std.specs.Prelude.{◌≡◌, ◌↔◌, ℕ, not, ◌==◌, List, [], ◌∷◌, map, filter, flat_map, Contains}
use Rattle.std.specs.List.Sorted.{IsStrictlyIncreasing}
use Rattle.tgap_model.specs.declared.slice.Edge.{Edge}
use Rattle.tgap_model.specs.declared.slice.FaceRow.{FaceRow}
use Rattle.tgap_model.specs.History.{class_of}
use Rattle.face_tree.specs.Tree.{FaceHistory}

-- the faces at the sides of the edges, edge by edge
abbrev pub all_sides : List Edge → List ℕ
all_sides edges = flat_map (λ e. e.left ∷ e.right ∷ []) edges

-- the faces at the sides of the edges, edge by edge, without the outside
abbrev pub sides_of : List Edge → List ℕ
sides_of edges = filter (λ f. not (f == 0)) (all_sides edges)

-- a face with its class
abbrev pub row_of : FaceHistory → ℕ → FaceRow
row_of t f = record { face = f; class = class_of t.classes f }

-- The rows are those of the faces at the sides of the edges, in ascending order.
pub record AreBeside (t : FaceHistory) (edges : List Edge) (rows : List FaceRow) : Type 0 where
  pub faces : List ℕ
  pub ascend : IsStrictlyIncreasing faces
  pub members : (f : ℕ) → Contains faces f ↔ Contains (sides_of edges) f
  pub each : rows ≡ map (row_of t) faces
