-- A forest while the history goes on: what is stored of it, and how the next step changes it.
use Rattle.std.specs.Prelude.{◌≡◌, ◌<◌, ◌≤◌, ◌⊎◌, ◌↔◌, ℕ, ◌+◌, ◌*◌, ◌==◌, ◌&&◌, ◌||◌, not, Bool, true, false, List, [], ◌∷◌, ◌++◌, map, filter, count_by, length, get_or, set, Contains, Option, Some, None, IsTrue, if◌then◌else◌}
use Rattle.tgap_model.specs.declared.merge.MergeStep.{MergeStep}
use Rattle.tgap_model.specs.Base.{BaseMap, is_base}
use Rattle.tgap_model.specs.Partition.{IsPartition, base_segments}
use Rattle.tgap_model.specs.History.{history_of}
use Rattle.tgap_model.specs.Merged.{MergedMap, merged, label_at}
use Rattle.tgap_model.specs.Chains.{Chain, arc_number, chains_at}
use Rattle.edge_forest.specs.declared.edge.Part.{Part}
use Rattle.edge_forest.specs.declared.edge.ForestEdge.{ForestEdge}
use Rattle.edge_forest.specs.declared.net.Current.{Current}
use Rattle.edge_forest.specs.declared.net.Meeting.{Meeting}
use Rattle.edge_forest.specs.declared.face_labels.FaceLabels.{FaceLabels}
use Rattle.edge_forest.specs.declared.face_labels.Sides.{Sides}
use Rattle.edge_forest.specs.declared.growth.Growth.{Growth}
use Rattle.edge_forest.specs.Edges.{edge_at, chains_of, chain_of, alive_edges, IsForestEdge}
use Rattle.edge_forest.specs.FaceLabels.{face_of, HasLabel, IsCurrent, sides_of, moved_label}
use Rattle.edge_forest.specs.Forest.{never}
use Rattle.edge_forest.specs.Nodes.{AreNodes, node_at, places_at}
use Rattle.edge_forest.specs.declared.nodes.Nodes.{Nodes}
use Rattle.edge_forest.specs.Net.{row_at, IsNetOf, IsAlone, IsMeeting}
use Rattle.edge_forest.specs.Rows.{end_points, AreRows, attached, joined_row}
use Rattle.edge_forest.specs.Family.{family}

-- ---- what is stored

-- the edges that have not ended, by their keys
abbrev pub rows_of : Growth → List (Option Current)
rows_of g = g.net.rows.items

-- their chains, in the order of their keys
abbrev pub family_of : Growth → List Chain
family_of g = family (chains_of g.edges.items) (rows_of g)

-- the keys that are listed for a label
abbrev pub keys_at : List (List ℕ) → ℕ → List ℕ
keys_at lists l = get_or lists l []

-- A row has the labels of the faces at the sides of the arc with its key, and its key is listed for both.
pub record IsLabelled (h : MergedMap) (k : ℕ) (t : FaceLabels) (lists : List (List ℕ)) (i : ℕ) (r : Current) : Type 0 where
  pub left : face_of t r.left ≡ label_at h k (arc_number h.base.arcs i).left
  pub right : face_of t r.right ≡ label_at h k (arc_number h.base.arcs i).right
  pub left_current : IsCurrent t r.left
  pub right_current : IsCurrent t r.right
  pub left_listed : Contains (keys_at lists r.left) i
  pub right_listed : Contains (keys_at lists r.right) i

-- There is a list for each label, and room for the labels of all faces; each face that is there after k steps has a label.
pub record AreFacesLabelled (h : MergedMap) (k : ℕ) (t : FaceLabels) (lists : List (List ℕ)) : Type 0 where
  pub lists_count : length lists ≡ 2 * length h.base.classes + 1
  pub faces_count : length t.faces.items ≡ 2 * length h.base.classes + 1
  pub labels_count : length t.labels.items ≡ 2 * length h.base.classes + 1
  pub each : (f : ℕ) → f ≤ length h.base.classes → HasLabel t (label_at h k f)

-- A row is that of an edge that goes on.
pub record IsOfEdge (edges : List ForestEdge) (i : ℕ) (r : Current) : Type 0 where
  pub id : r.id < length edges
  pub key : (edge_at edges r.id).key ≡ i
  pub high : (edge_at edges r.id).high ≡ never

-- After k steps, and while step k is made: the edges, the nodes, and a row for each edge that goes on. Of the edges with one key
-- a later one is longer, and the row is that of the last. After fewer steps the edges whose range holds them are the chains.
pub record IsStoredOf (k : ℕ) (base_map : BaseMap) (all : Nodes) (current : List (Option Current)) (ends : List (Option ℕ)) (counts : List ℕ)
    (lists : List (List ℕ)) (t : FaceLabels) (made : List ForestEdge) : Type 0 where
  pub base : IsTrue (is_base base_map)
  pub partition : IsPartition (base_segments base_map)
  pub steps : k ≤ length (history_of base_map)
  pub nodes : AreNodes (end_points base_map.arcs) all
  pub net : IsNetOf all current ends counts
  pub count : length current ≡ length base_map.arcs
  pub faces : AreFacesLabelled (merged base_map) k t lists
  pub edges : (i : ℕ) → i < length made → IsForestEdge (merged base_map) made i
  pub low : (i : ℕ) → i < length made → (edge_at made i).low ≤ k
  pub high : (i : ℕ) → i < length made → ((edge_at made i).high ≤ k) ⊎ ((edge_at made i).high ≡ never)
  pub order : (i : ℕ) → i < length made → (edge_at made i).low ≤ (edge_at made i).high
  pub longer : (i j : ℕ) → i < j → j < length made → (edge_at made i).key ≡ (edge_at made j).key → length (chain_of made i) < length (chain_of made j)
  pub latest : (i : ℕ) (r : Current) → row_at current i ≡ Some r → (j : ℕ) → j < length made → (edge_at made j).key ≡ i → j ≤ r.id
  pub rows : AreRows (chains_of made) current
  pub labels : (i : ℕ) (r : Current) → row_at current i ≡ Some r → IsLabelled (merged base_map) k t lists i r
  pub of_edges : (i : ℕ) (r : Current) → row_at current i ≡ Some r → IsOfEdge made i r
  pub of_rows : (i : ℕ) → i < length made → (edge_at made i).high ≡ never → (r : Current) × (row_at current (edge_at made i).key ≡ Some r) × (r.id ≡ i)
  pub past : (j : ℕ) → j < k → map (chain_of made) (alive_edges made j) ≡ chains_at (merged base_map) j

abbrev pub IsStored : ℕ → Growth → Type 0
IsStored k g = IsStoredOf k g.base g.nodes g.net.rows.items g.net.ends.items g.net.counts.items g.keys.items g.labels g.edges.items

-- After k steps, when no step is being made, the rows are the chains, and so are the edges whose range holds k.
pub record IsAtRest (k : ℕ) (g : Growth) : Type 0 where
  pub stored : IsStored k g
  pub chains : family_of g ≡ chains_at (merged g.base) k
  pub alive : map (chain_of g.edges.items) (alive_edges g.edges.items k) ≡ chains_at (merged g.base) k

-- the edges that have not ended
abbrev pub present : List (Option Current) → ℕ
present rows = count_by (λ (row : Option Current). elim row [ None ↦ false | Some r ↦ true ]) rows

-- Each join makes one edge and ends two, so that there are never more than twice as many as arcs.
abbrev pub IsFew : Growth → Type 0
IsFew g = length g.edges.items + present (rows_of g) ≤ 2 * length g.base.arcs

-- The same forest: nothing has changed but the room that is taken.
pub record IsKeptAs (g g' : Growth) : Type 0 where
  pub base : g'.base ≡ g.base
  pub nodes : g'.nodes ≡ g.nodes
  pub net : g'.net ≡ g.net
  pub keys : g'.keys.items ≡ g.keys.items
  pub labels : g'.labels ≡ g.labels
  pub edges : g'.edges.items ≡ g.edges.items

-- ---- a step takes edges out

-- the row is that of an edge between the loser and the winner, by their labels
abbrev pub is_row_between : Sides → Current → Bool
is_row_between sides r = ((r.left == sides.loser) && (r.right == sides.winner)) || ((r.left == sides.winner) && (r.right == sides.loser))

-- the row with the labels after the step
abbrev pub relabel_row : Sides → Current → Current
relabel_row sides r = record { id = r.id; first = r.first; last = r.last; left = moved_label sides r.left; right = moved_label sides r.right }

-- a row after the step: there is none of an edge between loser and winner
abbrev pub row_after : Sides → Option Current → Option Current
row_after sides None = None
row_after sides (Some r) = if is_row_between sides r then None else Some (relabel_row sides r)

-- an edge that has not ended has this key
abbrev pub has_row : List (Option Current) → ℕ → Bool
has_row rows i = elim (row_at rows i) [ None ↦ false | Some r ↦ true ]

-- the keys of edges that have not ended, of those that are listed for a label
abbrev pub keys_with : Growth → ℕ → List ℕ
keys_with g l = filter (has_row (rows_of g)) (keys_at g.keys.items l)

-- the node is at an end of an edge between two faces, by their labels
abbrev pub IsEndBetween : Sides → Growth → ℕ → Type 0
IsEndBetween sides g n =
    (i : ℕ) × (r : Current) × (row_at (rows_of g) i ≡ Some r) × (is_row_between sides r ≡ true)
    × ((node_at g.nodes r.first ≡ n) ⊎ (node_at g.nodes r.last ≡ n))

-- the node is at an end of an edge between loser and winner
abbrev pub IsTouched : MergeStep → Growth → ℕ → Type 0
IsTouched s g n = IsEndBetween (sides_of g.labels s) g n

-- What a step leaves when the edges between its loser and its winner are out: the rows of the others with their new labels, and
-- the touched nodes.
pub record IsSettled (s : MergeStep) (g g' : Growth) (touched : List ℕ) : Type 0 where
  pub base : g'.base ≡ g.base
  pub nodes : g'.nodes ≡ g.nodes
  pub rows : rows_of g' ≡ map (row_after (sides_of g.labels s)) (rows_of g)
  pub chains : chains_of g'.edges.items ≡ chains_of g.edges.items
  pub nodes_touched : (n : ℕ) → Contains touched n ↔ IsTouched s g n

-- ---- a join

-- the edge, ended at a step
abbrev pub ended : ℕ → ForestEdge → ForestEdge
ended high e = record { key = e.key; low = e.low; high = high; left = e.left; right = e.right; parts = e.parts }

-- an edge as a part of another
abbrev pub edge_part : Current → Bool → Part
edge_part r turned = record { leaf = false; id = r.id; turned = turned }

-- the parts of the edge that two become
abbrev pub meeting_parts : Meeting → List Part
meeting_parts m =
    if m.one_ends then edge_part m.one false ∷ edge_part m.other m.other_ends ∷ []
    else edge_part m.other (not m.other_ends) ∷ edge_part m.one false ∷ []

-- Two edges that meet at a node have become one, which is the last.
pub record IsJoinOf (g g' : Growth) (places : List ℕ) (m : Meeting) : Type 0 where
  pub meeting : IsMeeting g.net places m
  pub rows : rows_of g' ≡ set (set (set (rows_of g) m.key None) m.other_key None) m.key (Some (joined_row m.one_ends m.other_ends (length g.edges.items) m.one m.other))
  pub chains : chains_of g'.edges.items
      ≡ chains_of g.edges.items ++ attached m.one_ends m.other_ends (chain_of g.edges.items m.one.id) (chain_of g.edges.items m.other.id) ∷ []

-- Nothing was to be joined: all that end at the node are one edge.
pub record IsUnchanged (g g' : Growth) (places : List ℕ) : Type 0 where
  pub alone : IsAlone g.net places
  pub rows : rows_of g' ≡ rows_of g
  pub chains : chains_of g'.edges.items ≡ chains_of g.edges.items

-- What a join at a node leaves.
pub record IsJoinedAt (g : Growth) (n : ℕ) (g' : Growth) : Type 0 where
  pub base : g'.base ≡ g.base
  pub nodes : g'.nodes ≡ g.nodes
  pub change : IsUnchanged g g' (places_at g.nodes n) ⊎ ((m : Meeting) × IsJoinOf g g' (places_at g.nodes n) m)

-- joins at one node after the other
abbrev pub IsJoinedInTurn : ℕ → Growth → List ℕ → Growth → Type 0
IsJoinedInTurn k g [] g' = g' ≡ g
IsJoinedInTurn k g (n ∷ ns) g' = (h : Growth) × IsJoinedAt g n h × IsStored k h × IsJoinedInTurn k h ns g'
