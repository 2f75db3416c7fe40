-- The range index: a complete binary tree over 2 ^ depth steps, with edges listed at its nodes. The root is node 1, the nodes below
-- node x are 2 x and 2 x + 1, and that of step k is 2 ^ depth + k. An edge is listed at the highest nodes of which all steps lie in its
-- range, so on the way from a step to the root it is met once where its range holds the step, and else not at all.
use Rattle.std.specs.Prelude.{◌≡◌, ◌<◌, ◌≤◌, ℕ, zero, suc, ◌+◌, ◌-◌, ◌*◌, ◌/◌, ◌^◌, ◌==◌, nat_lt, List, [], ◌∷◌, ◌++◌, length, count_by, slice_index_or, if◌then◌else◌}
use Rattle.lemmas.specs.Parity.{is_odd}
use Rattle.edge_forest.specs.declared.edge.ForestEdge.{ForestEdge}
use Rattle.edge_forest.specs.declared.index.RangeIndex.{RangeIndex}
use Rattle.edge_forest.specs.declared.alive.KeyedEdge.{KeyedEdge}
use Rattle.edge_forest.specs.Edges.{edge_at}

-- The nodes at which a range is listed, of one level and the levels above it: on this level the range goes from node `low` on and before
-- node `high`. Where it begins at a node that is the second one below its own upper node, or ends with one that is the first, the other
-- one is not in the range.
abbrev pub listed_nodes : ℕ → ℕ → ℕ → List ℕ
listed_nodes zero low high = []
listed_nodes (suc levels) low high =
    if nat_lt low high
    then (if is_odd low then low ∷ [] else []) ++ ((if is_odd (high - 1) then [] else (high - 1) ∷ []) ++ listed_nodes levels ((low + 1) / 2) (high / 2))
    else []

-- the nodes from one on the way up, on so many levels
abbrev pub path_up : ℕ → ℕ → List ℕ
path_up zero x = []
path_up (suc levels) x = x ∷ path_up levels (x / 2)

-- the nodes at which an edge is listed
abbrev pub nodes_of_edge : ℕ → ForestEdge → List ℕ
nodes_of_edge depth e = listed_nodes (suc depth) (2 ^ depth + e.low) (2 ^ depth + e.high)

-- how often a number stands in a list
abbrev pub times : ℕ → List ℕ → ℕ
times i xs = count_by (λ x. x == i) xs

-- a number is listed once more at each of these nodes
pub record IsListed (old new : List (List ℕ)) (id : ℕ) (nodes : List ℕ) : Type 0 where
  pub count : length new ≡ length old
  pub listed : (x i : ℕ) → x < length old → times i (slice_index_or new x []) ≡ times i (slice_index_or old x []) + (if i == id then times x nodes else 0)

-- an index over the steps from 0 to the last one: it has no more levels than it takes, and each edge is listed where it should be, once
-- at each of its nodes
pub record IsIndex (last : ℕ) (edges : List ForestEdge) (index : RangeIndex) : Type 0 where
  pub leaves : index.leaves ≡ 2 ^ index.depth
  pub wide : last < index.leaves
  pub least : (d : ℕ) → last < 2 ^ d → index.depth ≤ d
  pub count : length index.nodes ≡ 2 * index.leaves
  pub listed : (x i : ℕ) → x < length index.nodes
      → times i (slice_index_or index.nodes x []) ≡ (if nat_lt i (length edges) then times x (nodes_of_edge index.depth (edge_at edges i)) else 0)

-- an index over steps of which k is one, and the leaves of which are enough for the ranges
pub record IsIndexFor (k : ℕ) (edges : List ForestEdge) (index : RangeIndex) : Type 0 where
  pub last : ℕ
  pub within : k ≤ last
  pub few : last < 2 ^ 32
  pub is : IsIndex last edges index
  pub ranges : (i : ℕ) → i < length edges → (edge_at edges i).high ≤ index.leaves

-- the edge with this number, and its key beside it
abbrev pub keyed : List ForestEdge → ℕ → KeyedEdge
keyed edges i = record { key = (edge_at edges i).key; id = i }
