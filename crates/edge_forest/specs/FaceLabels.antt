-- Labels of faces, while the history is run: an edge holds the labels of its faces, so that the edges of a winner stay as they are.
use Rattle.std.specs.Prelude.{◌≡◌, ◌<◌, ◌==◌, ℕ, length, get_or, if◌then◌else◌}
use Rattle.tgap_model.specs.declared.merge.MergeStep.{MergeStep}
use Rattle.edge_forest.specs.declared.face_labels.FaceLabels.{FaceLabels}
use Rattle.edge_forest.specs.declared.face_labels.Sides.{Sides}

-- the face of a label, and the label of a face
abbrev pub face_of : FaceLabels → ℕ → ℕ
face_of t l = get_or t.faces.items l 0

abbrev pub label_of : FaceLabels → ℕ → ℕ
label_of t f = get_or t.labels.items f 0

-- The face has a label, which stands for it.
pub record HasLabel (t : FaceLabels) (f : ℕ) : Type 0 where
  pub face : f < length t.labels.items
  pub label : label_of t f < length t.faces.items
  pub exact : face_of t (label_of t f) ≡ f

-- The label is that of its face.
pub record IsCurrent (t : FaceLabels) (l : ℕ) : Type 0 where
  pub label : l < length t.faces.items
  pub face : face_of t l < length t.labels.items
  pub exact : label_of t (face_of t l) ≡ l

-- the labels of the loser and of the winner of a step
abbrev pub sides_of : FaceLabels → MergeStep → Sides
sides_of t s = record { loser = label_of t s.loser; winner = label_of t s.winner }

-- an edge of the loser gets the label of the winner, and each other one keeps its own
abbrev pub moved_label : Sides → ℕ → ℕ
moved_label sides l = if l == sides.loser then sides.winner else l

abbrev pub moved : FaceLabels → MergeStep → ℕ → ℕ
moved t s l = moved_label (sides_of t s) l
