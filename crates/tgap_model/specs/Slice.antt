-- The slice of a base map after some steps of its history, and a window of it.
-- From: van Oosterom (2005) and Meijers (2011): the faces and edges whose step range holds the step.
use Rattle.std.specs.Prelude.{◌≡◌, ℕ, Bool, true, ◌&&◌, int_le, List, map, filter, All, if◌then◌else◌}
use Rattle.std.specs.List.{AllZip, list_any}
use Rattle.tgap_model.specs.declared.geometry.Window.{Window}
use Rattle.tgap_model.specs.declared.slice.Edge.{Edge}
use Rattle.tgap_model.specs.declared.slice.FaceRow.{FaceRow}
use Rattle.tgap_model.specs.declared.slice.Slice.{Slice}
use Rattle.tgap_model.specs.declared.slice.Removal.{Removal}
use Rattle.tgap_model.specs.Base.{BaseMap}
use Rattle.tgap_model.specs.History.{class_of}
use Rattle.tgap_model.specs.Merged.{MergedMap, merged, label_at, all_classes, live_faces}
use Rattle.tgap_model.specs.Chains.{Link, Chain, arc_number, chain_points, key, are_chains, chains_at}
use Rattle.tgap_model.specs.Removals.{edges_of, removals_to, has_side, without}

abbrev pub face_row : MergedMap → ℕ → FaceRow
face_row h f = record { face = f; class = class_of (all_classes h) f }

-- The slice after k steps: the live faces by number, each with its class, and the edges of the chains by key, less the vertices
-- that were removed by then.
abbrev pub slice_at : MergedMap → ℕ → Slice
slice_at h k = record {
  step = k;
  faces = map (face_row h) (live_faces h k);
  edges = edges_of h k (removals_to h k) (chains_at h k);
}

-- the slice of a base map after k steps
unfoldable pub slice : BaseMap → ℕ → Slice
slice m k = slice_at (merged m) k

-- ---- what a slice has to keep

-- the label of the face at the left of an arc, seen in the direction of its chain, and of that at the right
abbrev pub left_of : MergedMap → ℕ → Link → ℕ
left_of h k d = label_at h k (if d.turned then (arc_number h.base.arcs d.arc).right else (arc_number h.base.arcs d.arc).left)

abbrev pub right_of : MergedMap → ℕ → Link → ℕ
right_of h k d = label_at h k (if d.turned then (arc_number h.base.arcs d.arc).left else (arc_number h.base.arcs d.arc).right)

-- An edge is that of a chain: its key is the chain's, its points are those of the chain's arcs, each junction once, less the
-- listed vertices, and its faces are the labels at the sides of each arc, seen in its direction.
pub record IsEdgeOf (h : MergedMap) (k : ℕ) (removals : List Removal) (c : Chain) (e : Edge) : Type 0 where
  pub key : e.key ≡ key c
  pub points : e.points ≡ without removals (chain_points h.base.arcs c)
  pub left : All (λ d. left_of h k d ≡ e.left) c
  pub right : All (λ d. right_of h k d ≡ e.right) c

-- A slice after k steps, less the listed vertices: its faces are the live faces by number, each with its class, and its edges
-- are those of the chains, in the order of their keys.
pub record IsSlice (h : MergedMap) (k : ℕ) (removals : List Removal) (s : Slice) : Type 0 where
  pub step : s.step ≡ k
  pub faces : s.faces ≡ map (face_row h) (live_faces h k)
  pub chains : List Chain
  pub are_chains : are_chains h k chains ≡ true
  pub edges : AllZip (IsEdgeOf h k removals) chains s.edges

-- ---- windows

-- the bounding box of an edge meets a closed window
abbrev pub meets_window : Window → Edge → Bool
meets_window w e =
    list_any (λ p. int_le p.x w.x1) e.points && list_any (λ p. int_le w.x0 p.x) e.points
    && list_any (λ p. int_le p.y w.y1) e.points && list_any (λ p. int_le w.y0 p.y) e.points

-- The edges of a slice whose bounding box meets the window, and the faces that stand beside one of them.
unfoldable pub window_of : Window → Slice → Slice
window_of w s =
    let edges = filter (meets_window w) s.edges in
    record { step = s.step; faces = filter (λ r. list_any (has_side r.face) edges) s.faces; edges = edges }
