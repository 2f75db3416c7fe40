-- How the edges of a forest go on from one step to the next.
use Rattle.std.specs.Prelude.{◌≡◌, ◌<◌, ◌≤◌, ℕ, false, List, length, All}
use Rattle.edge_forest.specs.declared.edge.Part.{Part}
use Rattle.edge_forest.specs.declared.edge.ForestEdge.{ForestEdge}
use Rattle.edge_forest.specs.Edges.{edge_at, chain_of}
use Rattle.edge_forest.specs.Growth.{ended}

-- The edge with this number keeps its key, its low step, its labels, its parts and its chain; it may have ended, but one that had
-- ended stays so.
pub record IsContinued (edges edges' : List ForestEdge) (i : ℕ) : Type 0 where
  pub same : edge_at edges' i ≡ ended (edge_at edges' i).high (edge_at edges i)
  pub high : (edge_at edges' i).high ≤ (edge_at edges i).high
  pub chain : chain_of edges' i ≡ chain_of edges i

-- all edges are there as before, and others may have come
pub record AreContinued (edges edges' : List ForestEdge) : Type 0 where
  pub count : length edges ≤ length edges'
  pub each : (i : ℕ) → i < length edges → IsContinued edges edges' i

-- A part of an edge that step `low` made is an edge: another that it made, or one of the `first` that there were before, and then
-- it had not ended before the step.
pub record IsJoinedPart (low first : ℕ) (edges : List ForestEdge) (p : Part) : Type 0 where
  pub edge : p.leaf ≡ false
  pub there : p.id < first → low ≤ (edge_at edges p.id).high

-- so are the parts of each edge that the step made
abbrev pub AreJoined : ℕ → ℕ → List ForestEdge → Type 0
AreJoined low first edges = (i : ℕ) → first ≤ i → i < length edges → All (IsJoinedPart low first edges) (edge_at edges i).parts
