-- A slice while records are undone on it: its faces by number, and its edges by key.
use Rattle.std.specs.Prelude.{◌≡◌, ◌||◌, ℕ, true, nat_lt, List, map, All}
use Rattle.std.specs.BTreeMap.{IsOrdered}
use Rattle.std.specs.Ordering.{nat_cmp}
use Rattle.tgap_model.specs.declared.slice.Edge.{Edge}
use Rattle.tgap_model.specs.declared.slice.FaceRow.{FaceRow}
use Rattle.tgap_model.specs.declared.slice.Slice.{Slice}
use Rattle.tgap_model.specs.Records.{edge_before, in_place_of}
use Rattle.client_replay.specs.declared.labels.Labels.{Labels}
use Rattle.client_replay.specs.declared.lines.Line.{Line}
use Rattle.client_replay.specs.declared.working.Working.{Working}
use Rattle.client_replay.specs.Labels.{face_of, AreExact, IsLabel}

-- the edge that a line with its key is
abbrev pub edge_of : Labels → ℕ × Line → Edge
edge_of t p = record { key = p.0; left = face_of t p.1.left; right = face_of t p.1.right; points = p.1.points }

abbrev pub edges_of : Labels → List (ℕ × Line) → List Edge
edges_of t lines = map (edge_of t) lines

-- the row of a face with its class
abbrev pub row_of : ℕ × ℕ → FaceRow
row_of p = record { face = p.0; class = p.1 }

abbrev pub rows_of : List (ℕ × ℕ) → List FaceRow
rows_of faces = map row_of faces

-- the slice that it is
abbrev pub slice_of : Working → Slice
slice_of w = record { step = w.step; faces = rows_of w.faces.entries; edges = edges_of w.labels w.lines.entries }

-- both sides of each line are labels
abbrev pub AreLabelled : Labels → List (ℕ × Line) → Type 0
AreLabelled t lines = All (λ p. IsLabel t p.1.left × IsLabel t p.1.right) lines

-- labels and lines fit together
pub record IsSound (w : Working) : Type 0 where
  pub faces : IsOrdered nat_cmp w.faces
  pub lines : IsOrdered nat_cmp w.lines
  pub exact : AreExact w.labels
  pub labelled : AreLabelled w.labels w.lines.entries

-- the key of one of the two is below that of the other
abbrev pub DifferBy : {A : Type 0} → (A → ℕ) → A → A → Type 0
DifferBy key x y = (nat_lt (key x) (key y) || nat_lt (key y) (key x)) ≡ true

-- one of two edges stands before the other
abbrev pub DifferInKey : Edge → Edge → Type 0
DifferInKey e f = (edge_before e f || edge_before f e) ≡ true

-- a line with one label in place of another
abbrev pub moved : ℕ → ℕ → Line → Line
moved from to l = record l { left = in_place_of from to l.left; right = in_place_of from to l.right }
