-- The edges between the loser and the winner of a step end, key by key.
use Rattle.std.specs.Prelude.{◌≡◌, ◌<◌, ◌⊎◌, ℕ, Bool, false, List, [], ◌∷◌, length, set, Contains, Option, Some, None, if◌then◌else◌}
use Rattle.edge_forest.specs.declared.edge.ForestEdge.{ForestEdge}
use Rattle.edge_forest.specs.declared.nodes.Nodes.{Nodes}
use Rattle.edge_forest.specs.declared.net.Current.{Current}
use Rattle.edge_forest.specs.declared.face_labels.Sides.{Sides}
use Rattle.edge_forest.specs.declared.growth.Growth.{Growth}
use Rattle.edge_forest.specs.Edges.{edge_at}
use Rattle.edge_forest.specs.Forest.{never}
use Rattle.edge_forest.specs.Net.{row_at}
use Rattle.edge_forest.specs.Nodes.{node_at}
use Rattle.edge_forest.specs.Growth.{rows_of, ended, is_row_between, row_after, IsEndBetween, IsOfEdge}

-- the edges after the one of this row ended, if it is between loser and winner
abbrev pub edges_after : Sides → ℕ → Option Current → List ForestEdge → List ForestEdge
edges_after sides low None edges = edges
edges_after sides low (Some r) edges = if is_row_between sides r then set edges r.id (ended low (edge_at edges r.id)) else edges

-- the nodes at its ends, if it is
abbrev pub nodes_after : Sides → Nodes → Option Current → List ℕ
nodes_after sides nodes None = []
nodes_after sides nodes (Some r) = if is_row_between sides r then node_at nodes r.first ∷ node_at nodes r.last ∷ [] else []

-- the key is that of an edge between loser and winner
abbrev pub is_ending : Sides → List (Option Current) → ℕ → Bool
is_ending sides rows i = elim (row_at rows i) [ None ↦ false | Some r ↦ is_row_between sides r ]

-- Some keys of a step have been visited: the rows, the edges and the touched nodes, beside what there was before the step.
pub record IsSettling (sides : Sides) (low : ℕ) (keys : List ℕ) (g : Growth) (rows' : List (Option Current)) (edges' : List ForestEdge) (touched' : List ℕ) : Type 0 where
  pub count : length rows' ≡ length (rows_of g)
  pub edge_count : length edges' ≡ length g.edges.items
  pub visited : (i : ℕ) → Contains keys i → row_at rows' i ≡ row_after sides (row_at (rows_of g) i)
  pub rows : (i : ℕ) → (row_at rows' i ≡ row_after sides (row_at (rows_of g) i)) ⊎ (row_at rows' i ≡ row_at (rows_of g) i)
  pub edges : (i : ℕ) → i < length edges'
      → (edge_at edges' i ≡ edge_at g.edges.items i) ⊎ (((edge_at g.edges.items i).high ≡ never) × (edge_at edges' i ≡ ended low (edge_at g.edges.items i)))
  pub of_edges : (i : ℕ) (r : Current) → row_at rows' i ≡ Some r → IsOfEdge edges' i r
  pub of_rows : (i : ℕ) → i < length edges' → (edge_at edges' i).high ≡ never → (r : Current) × (row_at rows' (edge_at edges' i).key ≡ Some r) × (r.id ≡ i)
  pub touched : (i : ℕ) (r : Current) → row_at (rows_of g) i ≡ Some r → row_at rows' i ≡ None → Contains touched' (node_at g.nodes r.first) × Contains touched' (node_at g.nodes r.last)
  pub only : (n : ℕ) → Contains touched' n → IsEndBetween sides g n
