-- Which edges of the forest may be in a window, whatever the step: those whose box of all points meets it.
use Rattle.std.specs.Prelude.{◌≡◌, ◌<◌, ℕ, ◌+◌, ◌*◌, ◌^◌, Bool, true, nat_lt, List, map, filter, length, IsPermutation, Option, Some, None, if◌then◌else◌}
use Rattle.std.specs.List.Sorted.{IsNonDecreasingBy}
use Rattle.tgap_model.specs.declared.geometry.Window.{Window}
use Rattle.tgap_model.specs.declared.slice.Edge.{Edge}
use Rattle.tgap_model.specs.Merged.{merged}
use Rattle.tgap_model.specs.Slice.{meets_window}
use Rattle.grid_index.specs.Boxes.{meets}
use Rattle.grid_index.specs.Near.{near_boxes}
use Rattle.face_tree.specs.Tree.{FaceHistory, face_history}
use Rattle.edge_forest.specs.declared.edge.ForestEdge.{ForestEdge}
use Rattle.edge_forest.specs.Edges.{edge_at, is_alive}
use Rattle.edge_forest.specs.Forest.{EdgeForest, IsForest, last_step}
use Rattle.tgap_build.specs.Boxes.{boxes_of, edge_box}
use Rattle.tgap_build.specs.Built.{HasRemoved}
use Rattle.refine_packets.specs.declared.near.NearEdge.{NearEdge}
use Rattle.refine_packets.specs.declared.near.NearEdges.{NearEdges}

-- the place of a step among those of the edges with a key, in the order of keys and, of one key, of steps
abbrev pub place_of : ℕ → ℕ → ℕ
place_of key step = key * 2 ^ 32 + step

-- the edge is there at some step
abbrev pub is_some_time : ForestEdge → Bool
is_some_time e = nat_lt e.low e.high

-- an edge by its place
abbrev pub entry_of : List ForestEdge → ℕ → NearEdge
entry_of edges i = record { place = place_of (edge_at edges i).key (edge_at edges i).low; id = i }

-- those of these edges that are there at some step
abbrev pub entries_of : List ForestEdge → List ℕ → List NearEdge
entries_of edges ids = map (entry_of edges) (filter (λ i. is_some_time (edge_at edges i)) ids)

-- They are all edges that may be in the window at some step, by their places.
pub record AreNear (f : EdgeForest) (n : NearEdges) : Type 0 where
  pub entries : IsPermutation (entries_of f.edges (near_boxes n.area (boxes_of f))) n.entries.items
  pub order : IsNonDecreasingBy (λ e. e.place) n.entries.items

-- The edge with the key that is there after k steps, or none where the window has none at that step.
abbrev pub IsFound : EdgeForest → Window → ℕ → ℕ → Option ℕ → Type 0
IsFound f area key k (Some i) = (i < length f.edges) × ((edge_at f.edges i).key ≡ key) × (is_alive k (edge_at f.edges i) ≡ true)
IsFound f area key k None =
    (i : ℕ) → i < length f.edges → meets area (edge_box f i) ≡ true → is_alive k (edge_at f.edges i) ≡ true → (edge_at f.edges i).key ≡ key → ⊥

-- the edge, where it meets the window
abbrev pub seen : Window → Edge → Option Edge
seen area e = if meets_window area e then Some e else None

-- What is looked through for the edges of a window: a forest whose history is at its end, with what the steps remove, the tree of
-- its faces, and the edges that may be in the window.
pub record IsSight (f : EdgeForest) (t : FaceHistory) (n : NearEdges) : Type 0 where
  pub forest : IsForest f
  pub closed : f.closed ≡ true
  pub made : f.made ≡ last_step f
  pub removed : HasRemoved f (last_step f)
  pub tree : t ≡ face_history (merged f.base)
  pub near : AreNear f n
