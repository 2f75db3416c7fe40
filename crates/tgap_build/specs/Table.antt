-- Edges by their keys, while the history is run: they hold labels, which stand for faces.
use Rattle.std.specs.Prelude.{◌≡◌, ◌<◌, ℕ, ◌==◌, Bool, ◌&&◌, not, List, [], ◌∷◌, ◌++◌, map, filter, fold, length, get_or, set, Contains, All, Option, Some, None, if◌then◌else◌}
use Rattle.tgap_model.specs.declared.geometry.Point.{Point}
use Rattle.tgap_model.specs.declared.merge.MergeStep.{MergeStep}
use Rattle.tgap_model.specs.declared.slice.Edge.{Edge}
use Rattle.tgap_model.specs.Removals.{has_side}
use Rattle.tgap_model.specs.Records.{is_edge_between}
use Rattle.grid_index.specs.Keyed.{edge_in, edges_in, AreAtKeys}
use Rattle.point_rope.specs.Rows.{oriented, glued}
use Rattle.edge_forest.specs.declared.face_labels.FaceLabels.{FaceLabels}
use Rattle.edge_forest.specs.FaceLabels.{face_of, label_of, IsCurrent}
use Rattle.tgap_build.specs.declared.edge_table.EdgeTable.{EdgeTable}
use Rattle.tgap_build.specs.declared.joined.OldEdge.{OldEdge}

-- ---- what a table has

-- the edge with its faces in place of their labels
abbrev pub faced : FaceLabels → Edge → Edge
faced labels e = record { key = e.key; left = face_of labels e.left; right = face_of labels e.right; points = e.points }

-- the edges of a table with their labels, in order of key
abbrev pub labelled_edges : EdgeTable → List Edge
labelled_edges t = edges_in t.places.items

-- and with their faces
abbrev pub table_edges : EdgeTable → List Edge
table_edges t = map (faced t.labels) (labelled_edges t)

-- the keys that are listed at a label
abbrev pub listed_at : List (List ℕ) → ℕ → List ℕ
listed_at lists l = get_or lists l []

-- An edge of a table: its labels are those of its faces, and its key is listed at both of them.
pub record IsHeld (labels : FaceLabels) (lists : List (List ℕ)) (e : Edge) : Type 0 where
  pub left : IsCurrent labels e.left
  pub right : IsCurrent labels e.right
  pub at_left : Contains (listed_at lists e.left) e.key
  pub at_right : Contains (listed_at lists e.right) e.key

-- What is known of a table: each edge stands at the place of its key, the listed keys have places, and each face that is
-- numbered so far or later has a label at which keys are listed.
pub record IsTableOf (labels : FaceLabels) (lists : List (List ℕ)) (places : List (Option Edge)) : Type 0 where
  pub keyed : AreAtKeys places
  pub each : All (IsHeld labels lists) (edges_in places)
  pub listed : (l k : ℕ) → Contains (listed_at lists l) k → k < length places
  pub face_room : (f : ℕ) → f < length lists → f < length labels.labels.items
  pub label_room : (f : ℕ) → f < length lists → label_of labels f < length lists

abbrev pub IsTable : EdgeTable → Type 0
IsTable t = IsTableOf t.labels t.beside.items t.places.items

-- Two tables have as many places, and lists for as many labels.
pub record HaveSameRoom (t u : EdgeTable) : Type 0 where
  pub places : length u.places.items ≡ length t.places.items
  pub lists : length u.beside.items ≡ length t.beside.items

-- ---- a step

-- the edges that are not between the loser and the winner of a step
abbrev pub left_by : MergeStep → List Edge → List Edge
left_by s edges = filter (λ e. not (is_edge_between s.loser s.winner e)) edges

-- a label after another one has taken the place of one
abbrev pub moved_label : ℕ → ℕ → ℕ → ℕ
moved_label from to l = if l == from then to else l

abbrev pub moved_edge : ℕ → ℕ → Edge → Edge
moved_edge from to e = record { key = e.key; left = moved_label from to e.left; right = moved_label from to e.right; points = e.points }

-- an edge has both labels, or the first one alone
abbrev pub has_both : ℕ → ℕ → Edge → Bool
has_both from to e = has_side from e && has_side to e

abbrev pub has_first : ℕ → ℕ → Edge → Bool
has_first from to e = has_side from e && not (has_side to e)

-- a place after an edge with both labels has gone, and another has the second label for the first
abbrev pub place_after : ℕ → ℕ → Option Edge → Option Edge
place_after from to None = None
place_after from to (Some e) = if has_both from to e then None else Some (moved_edge from to e)

-- the lists after that: the key of an edge that had the first label alone is listed at the second
abbrev pub lists_after : ℕ → ℕ → ℕ → Option Edge → List (List ℕ) → List (List ℕ)
lists_after from to k None lists = lists
lists_after from to k (Some e) lists = if has_first from to e then set lists to (listed_at lists to ++ k ∷ []) else lists

-- ---- a join

-- the edge with a key, where there is one
abbrev pub edge_with : List (Option Edge) → ℕ → Edge
edge_with places k = elim (edge_in places k) [ None ↦ record { key = k; left = 0; right = 0; points = [] } | Some e ↦ e ]

-- the points of an edge of which another one is made, in the direction of that one
abbrev pub part_row : List (Option Edge) → OldEdge → List Point
part_row places p = oriented p.turned (edge_with places p.key).points

-- the points of the edge that is made of these
abbrev pub joined_row : List (Option Edge) → List OldEdge → List Point
joined_row places parts = fold (λ row p. glued row (part_row places p)) [] parts

-- that edge, where it has the key of one of them
abbrev pub joined_edge : List (Option Edge) → ℕ → List OldEdge → Edge
joined_edge places k parts = record { key = k; left = (edge_with places k).left; right = (edge_with places k).right; points = joined_row places parts }

abbrev pub old_keys : List OldEdge → List ℕ
old_keys parts = map (λ p. p.key) parts
