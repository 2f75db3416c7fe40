-- The forest of edges of a base map, after some steps of its merge history.
use Rattle.std.specs.Prelude.{◌≡◌, ◌<◌, ◌≤◌, ◌⊎◌, ℕ, ◌+◌, ◌-◌, ◌^◌, Bool, true, false, List, map, length, IsTrue}
use Rattle.tgap_model.specs.declared.geometry.Point.{Point}
use Rattle.tgap_model.specs.Base.{BaseMap, is_base}
use Rattle.tgap_model.specs.Partition.{IsPartition, base_segments}
use Rattle.tgap_model.specs.History.{history_of}
use Rattle.tgap_model.specs.Merged.{merged}
use Rattle.tgap_model.specs.Chains.{chains_at}
use Rattle.edge_forest.specs.declared.edge.ForestEdge.{ForestEdge}
use Rattle.edge_forest.specs.Edges.{edge_at, chain_of, is_alive, alive_edges, IsForestEdge}
use Rattle.edge_forest.specs.Removed.{PointSteps, is_gone_by}

-- a base map, the number of steps made, whether the history is at its end, the edges by number, and the points with the steps at
-- which they were removed
pub record EdgeForest : Type 0 where
  pub base : BaseMap
  pub made : ℕ
  pub closed : Bool
  pub edges : List ForestEdge
  pub removed : PointSteps

-- the number of steps of the history
abbrev pub last_step : EdgeForest → ℕ
last_step f = length (history_of f.base)

-- the point was removed at step k or before
abbrev pub is_gone : EdgeForest → ℕ → Point → Bool
is_gone f k p = is_gone_by f.removed k p

-- what stands for the high step of an edge that goes on, until the history is at its end
abbrev pub never : ℕ
never = 2 ^ 32 - 1

-- The range of an edge.
pub record IsRange (f : EdgeForest) (e : ForestEdge) : Type 0 where
  -- it does not end before it begins; the range of an edge that was joined at the step that made it holds no step
  pub order : e.low ≤ e.high
  -- before the history is closed the edge has ended at a step that was made, or goes on
  pub growing : f.closed ≡ false → (e.high ≤ f.made) ⊎ (e.high ≡ never)
  -- once it is closed the edge has ended, at the step after the last one at the latest
  pub done : f.closed ≡ true → e.high ≤ last_step f + 1
  -- and at that step where it is there after the last one
  pub last : f.closed ≡ true → is_alive (last_step f) e ≡ true → e.high ≡ last_step f + 1

-- the edges whose range holds k are the chains after k steps
abbrev pub AreChains : EdgeForest → ℕ → Type 0
AreChains f k = map (chain_of f.edges) (alive_edges f.edges k) ≡ chains_at (merged f.base) k

-- What is known of a forest: its base map is a planar partition, each edge is one and has a range, no two have one chain, and after any
-- number of steps that were made the edges whose range holds it are the chains.
pub record IsForest (f : EdgeForest) : Type 0 where
  pub base : IsTrue (is_base f.base)
  pub partition : IsPartition (base_segments f.base)
  pub steps : f.made ≤ last_step f
  pub edges : (i : ℕ) → i < length f.edges → IsForestEdge (merged f.base) f.edges i
  pub low : (i : ℕ) → i < length f.edges → (edge_at f.edges i).low ≤ f.made
  pub ranges : (i : ℕ) → i < length f.edges → IsRange f (edge_at f.edges i)
  pub once : (i j : ℕ) → i < length f.edges → j < length f.edges → chain_of f.edges i ≡ chain_of f.edges j → i ≡ j
  pub chains : (k : ℕ) → k ≤ f.made → AreChains f k
