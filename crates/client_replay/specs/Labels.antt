-- Faces by labels: an edge holds the labels of its faces, so that one change renames a face at all its edges.
use Rattle.std.specs.Prelude.{◌≡◌, ℕ, ◌<◌, length, get_or, Option, Some}
use Rattle.std.specs.BTreeMap.{get}
use Rattle.std.specs.Ordering.{nat_cmp}
use Rattle.client_replay.specs.declared.labels.Labels.{Labels}

-- the face of a label
abbrev pub face_of : Labels → ℕ → ℕ
face_of t i = get_or t.faces.items i 0

-- the label of a face, where it has one
abbrev pub label_of : Labels → ℕ → Option ℕ
label_of t n = get nat_cmp t.labels n

-- the label of a face is one that stands for the face
abbrev pub AreExact : Labels → Type 0
AreExact t = (n i : ℕ) → label_of t n ≡ Some i → (i < length t.faces.items) × (face_of t i ≡ n)

-- the label is that of its face
abbrev pub IsLabel : Labels → ℕ → Type 0
IsLabel t i = (i < length t.faces.items) × (label_of t (face_of t i) ≡ Some i)

-- labels stay, and stand for the faces that this gives for those before
abbrev pub AreRelabelled : (ℕ → ℕ) → Labels → Labels → Type 0
AreRelabelled change t u = (i : ℕ) → IsLabel t i → IsLabel u i × (face_of u i ≡ change (face_of t i))
