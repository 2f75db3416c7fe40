-- The arcs that are listed for a face.
use Rattle.std.specs.Prelude.{◌≡◌, ◌≤◌, ℕ, ◌-◌, Bool, true, ◌&&◌, List, [], length, slice_index_or, All}
use Rattle.tgap_model.specs.declared.base.BaseArc.{BaseArc}
use Rattle.tgap_model.specs.Base.{borders_face}
use Rattle.arc_places.specs.Places.{arc_passes, is_among}
use Rattle.arc_places.specs.Slots.{is_there}

-- the arcs that are listed for a face, in rows of which each is that of a face
abbrev pub bordering : List (List ℕ) → ℕ → List ℕ
bordering rows f = slice_index_or rows f []

-- how many faces there are, the one outside not counted
abbrev pub face_count : List (List ℕ) → ℕ
face_count rows = length rows - 1

-- the arc is there and has the face at its left or right
abbrev pub is_beside : ℕ → BaseArc → Bool
is_beside f a = is_there a && borders_face f a

-- Each arc that is there is listed for its two faces. Others may be listed too.
abbrev pub CoversFaces : (ℕ → List ℕ) → List BaseArc → Type 0
CoversFaces lists arcs = (f i : ℕ) → arc_passes (is_beside f) arcs i ≡ true → is_among i (lists f) ≡ true

-- the faces of the arc are among so many
pub record HasFaces (count : ℕ) (a : BaseArc) : Type 0 where
  pub left : a.left ≤ count
  pub right : a.right ≤ count

abbrev pub HaveFaces : ℕ → List BaseArc → Type 0
HaveFaces count arcs = All (HasFaces count) arcs
