-- What a step changes in the edges that are kept while the history is run.
use Rattle.std.specs.Prelude.{◌≡◌, ◌<◌, ◌≤◌, ℕ, ◌+◌, ◌-◌, ◌==◌, nat_lt, Bool, false, ◌&&◌, ◌||◌, not, List, [], ◌∷◌, ◌++◌, map, filter, length, IsPermutation, Option, if◌then◌else◌}
use Rattle.std.specs.List.{list_any, range_with_len}
use Rattle.tgap_model.specs.declared.geometry.Point.{Point}
use Rattle.tgap_model.specs.declared.merge.MergeStep.{MergeStep}
use Rattle.tgap_model.specs.declared.slice.Edge.{Edge}
use Rattle.tgap_model.specs.declared.slice.Removal.{Removal}
use Rattle.tgap_model.specs.declared.record.Piece.{Piece}
use Rattle.tgap_model.specs.declared.record.Mend.{Mend}
use Rattle.tgap_model.specs.Merged.{MergedMap, step_number}
use Rattle.tgap_model.specs.Chains.{Chain, key, chains_at}
use Rattle.tgap_model.specs.Removals.{edge_of, edges_of, has_side, removals_to}
use Rattle.tgap_model.specs.Records.{runs, pieces_from, puts_from, is_needed}
use Rattle.map_laws.specs.ChainLaws.{chains_left}
use Rattle.grid_index.specs.Live.{keys, without_keys}
use Rattle.record_laws.specs.RunLaws.{chain_of_run}
use Rattle.edge_forest.specs.Edges.{edge_at, chain_of, is_alive}
use Rattle.edge_forest.specs.Forest.{EdgeForest, IsForest}
use Rattle.tgap_build.specs.declared.edge_table.EdgeTable.{EdgeTable}
use Rattle.tgap_build.specs.declared.joined.OldEdge.{OldEdge}
use Rattle.tgap_build.specs.declared.live_edges.Made.{Made}
use Rattle.tgap_build.specs.Table.{faced, labelled_edges, IsTable, edge_with, left_by}
use Rattle.tgap_build.specs.Running.{has_any, less}

-- ---- the forest

-- Step k is made in the forest, which had the first `old` edges before: those began before the step, and none of the others was there
-- before it.
pub record HasGrown (f : EdgeForest) (k old : ℕ) : Type 0 where
  pub forest : IsForest f
  pub made : f.made ≡ k
  pub within : old ≤ length f.edges
  pub low : (i : ℕ) → i < old → (edge_at f.edges i).low ≤ k - 1
  pub new : (i : ℕ) → old ≤ i → i < length f.edges → is_alive (k - 1) (edge_at f.edges i) ≡ false

-- the chains of the edges from number `old` on and before number `to` whose range holds k
abbrev pub born_chains : EdgeForest → ℕ → ℕ → ℕ → List Chain
born_chains f k old to = map (chain_of f.edges) (filter (λ i. is_alive k (edge_at f.edges i)) (range_with_len old (to - old)))

-- ---- pieces

-- The pieces of these parts from place `first` on, where `count` tells how many points the edge with a key had, and `side` which face
-- it had at the side of the new face.
abbrev pub part_pieces : (ℕ → ℕ) → (ℕ → ℕ) → ℕ → List OldEdge → List Piece
part_pieces count side first [] = []
part_pieces count side first (p ∷ parts) =
    let last = first + (count p.key - 1) in
    record { key = p.key; last = last; side = side p.key; turned = p.turned } ∷ part_pieces count side last parts

-- how many points the edge with a key has
abbrev pub count_at : List (Option Edge) → ℕ → ℕ
count_at places k = length (edge_with places k).points

-- the face of an edge with this key: the loser, if it is one of these, else the winner
abbrev pub side_with : MergeStep → List ℕ → ℕ → ℕ
side_with s losing k = if list_any (λ i. i == k) losing then s.loser else s.winner

-- an edge with this key as one piece
abbrev pub whole_of : List (Option Edge) → MergeStep → List ℕ → ℕ → Made
whole_of places s losing k = record { key = k; pieces = part_pieces (count_at places) (side_with s losing) 0 (record { key = k; turned = false } ∷ []) }

-- the keys of the edges before step k of which the edge of a chain after it is made
abbrev pub part_keys : MergedMap → ℕ → Chain → List ℕ
part_keys h k c = map (λ r. key (chain_of_run (chains_at h (k - 1)) r)) (runs (chains_at h (k - 1)) c)

-- the keys of the edges that had the loser at a side, and stay
abbrev pub losing_keys : MergedMap → ℕ → List ℕ
losing_keys h k = keys (filter (has_side (step_number h k).loser) (left_by (step_number h k) (edges_of h (k - 1) (removals_to h (k - 1)) (chains_at h (k - 1)))))

-- ---- the edges that a step changes

-- the edge of a chain after step k, as the pieces of which it is made
abbrev pub made_of : MergedMap → ℕ → Chain → Made
made_of h k c = record {
  key = key c;
  pieces = pieces_from h k ((edge_of h k (removals_to h (k - 1)) c).left == (step_number h k).made) (chains_at h (k - 1)) (removals_to h (k - 1)) 0 (runs (chains_at h (k - 1)) c);
}

-- it is made of several edges, or had the loser at a side
abbrev pub is_changed : MergedMap → ℕ → Chain → Bool
is_changed h k c = nat_lt 1 (length (runs (chains_at h (k - 1)) c)) || has_side (step_number h k).loser (edge_of h (k - 1) (removals_to h (k - 1)) c)

-- or it borders the new face, and loses one of these points
abbrev pub may_need : MergedMap → ℕ → List Point → Chain → Bool
may_need h k gone c =
    is_changed h k c || (has_any gone (edge_of h k (removals_to h (k - 1)) c) && has_side (step_number h k).made (edge_of h k (removals_to h (k - 1)) c))

-- ---- the table while edges are joined

-- the key is that of an edge before the step of which one of these chains after it is made
abbrev pub is_part_of : List Chain → List Chain → ℕ → Bool
is_part_of finer made i = list_any (λ c. list_any (λ r. key (chain_of_run finer r) == i) (runs finer c)) made

-- The edges of these chains stand in the table in place of those of which they are made, and beside them the others that step k left,
-- which are listed with their labels.
pub record HasJoined (h : MergedMap) (k : ℕ) (left : List Edge) (born : List Chain) (t : EdgeTable) : Type 0 where
  pub table : IsTable t
  pub left_faces : map (faced t.labels) left ≡ edges_of h k (removals_to h (k - 1)) (chains_left h (k - 1))
  pub new : List Edge
  pub edges : IsPermutation (filter (λ e. not (is_part_of (chains_at h (k - 1)) born e.key)) left ++ new) (labelled_edges t)
  pub new_faces : map (faced t.labels) new ≡ edges_of h k (removals_to h (k - 1)) born

-- Of edges those with some keys go, others come, and then these are there.
abbrev pub IsChange : List Edge → List ℕ → List Edge → List Edge → Type 0
IsChange edges gone come after = IsPermutation (without_keys gone edges ++ come) after

-- ---- points that go

-- the edge less these points, if it is one that the test tells
abbrev pub less_where : List Point → (Edge → Bool) → Edge → Edge
less_where gone p e = if p e then less gone e else e

-- the same where it has one of these keys
abbrev pub less_at : List Point → List ℕ → Edge → Edge
less_at gone ks e = less_where gone (λ e. list_any (λ k. k == e.key) ks) e

-- ---- mends

-- the mend of an edge of a table, which still has these points, where it needs one
abbrev pub made_mend : List (Option Edge) → List Removal → Made → Mend
made_mend places now one = record { key = one.key; puts = puts_from now 0 (edge_with places one.key).points; pieces = one.pieces }

abbrev pub made_mends : List (Option Edge) → ℕ → List Removal → Made → List Mend
made_mends places loser now one = if is_needed loser (made_mend places now one) then made_mend places now one ∷ [] else []
