-- The edges that have not ended, by their keys, and the arc ends at which they end.
use Rattle.std.specs.Prelude.{◌≡◌, ◌≢◌, ◌<◌, ◌⊎◌, ℕ, ◌+◌, ◌*◌, ◌==◌, Bool, List, [], ◌∷◌, flat_map, length, get_or, sum_by, Contains, Option, Some, None, if◌then◌else◌}
use Rattle.edge_forest.specs.declared.nodes.Nodes.{Nodes}
use Rattle.edge_forest.specs.declared.net.Current.{Current}
use Rattle.edge_forest.specs.declared.net.Net.{Net}
use Rattle.edge_forest.specs.declared.net.Meeting.{Meeting}
use Rattle.edge_forest.specs.Nodes.{node_at}

-- the edge with this key that has not ended
abbrev pub row_at : List (Option Current) → ℕ → Option Current
row_at rows i = get_or rows i None

-- the key of the edge that ends at an arc end
abbrev pub key_at : List (Option ℕ) → ℕ → Option ℕ
key_at ends x = get_or ends x None

-- how many ends of an edge are at a node
abbrev pub row_ends : Nodes → ℕ → Option Current → ℕ
row_ends nodes g None = 0
row_ends nodes g (Some r) = (if node_at nodes r.first == g then 1 else 0) + (if node_at nodes r.last == g then 1 else 0)

-- the arc end is one of the two of an edge
abbrev pub HasEnd : List (Option Current) → ℕ → ℕ → Type 0
HasEnd rows i x = (r : Current) × (row_at rows i ≡ Some r) × ((r.first ≡ x) ⊎ (r.last ≡ x))

-- Each edge has two arc ends, which tell its key, and no other arc end tells one; the ends of edges are counted at each node.
pub record IsNetOf (nodes : Nodes) (rows : List (Option Current)) (ends : List (Option ℕ)) (counts : List ℕ) : Type 0 where
  pub ends_count : length ends ≡ 2 * length rows
  pub nodes_count : length nodes.node_of.items ≡ length ends
  pub counts_count : length counts ≡ length nodes.places.items
  pub below : (x : ℕ) → x < length ends → node_at nodes x < length nodes.places.items
  pub first : (i : ℕ) (r : Current) → row_at rows i ≡ Some r → (r.first < length ends) × (key_at ends r.first ≡ Some i)
  pub last : (i : ℕ) (r : Current) → row_at rows i ≡ Some r → (r.last < length ends) × (key_at ends r.last ≡ Some i)
  pub apart : (i : ℕ) (r : Current) → row_at rows i ≡ Some r → r.first ≢ r.last
  pub keyed : (x i : ℕ) → key_at ends x ≡ Some i → HasEnd rows i x
  pub counted : (g : ℕ) → g < length nodes.places.items → get_or counts g 0 ≡ sum_by (row_ends nodes g) rows

abbrev pub IsNet : Nodes → Net → Type 0
IsNet nodes net = IsNetOf nodes net.rows.items net.ends.items net.counts.items

-- ---- two edges that meet

-- no edge ends at these places but one with a key
abbrev pub NoneBesides : List (Option ℕ) → List ℕ → Option ℕ → Type 0
NoneBesides ends places besides = (x i : ℕ) → Contains places x → key_at ends x ≡ Some i → besides ≡ Some i

-- an edge with another key ends at one of these places
pub record IsBesides (ends : List (Option ℕ)) (places : List ℕ) (besides : Option ℕ) (x i : ℕ) : Type 0 where
  pub there : Contains places x
  pub key : key_at ends x ≡ Some i
  pub other : besides ≢ Some i

-- all edges that end at these places are one
abbrev pub IsAlone : Net → List ℕ → Type 0
IsAlone net places =
    (x y i j : ℕ) → Contains places x → Contains places y → key_at net.ends.items x ≡ Some i → key_at net.ends.items y ≡ Some j → i ≡ j

-- the end of an edge, or its start
abbrev pub tip_end : Bool → Current → ℕ
tip_end e r = if e then r.last else r.first

-- two edges that end at one of these places each, the one with the lesser key first
pub record IsMeeting (net : Net) (places : List ℕ) (m : Meeting) : Type 0 where
  pub less : m.key < m.other_key
  pub one : row_at net.rows.items m.key ≡ Some m.one
  pub other : row_at net.rows.items m.other_key ≡ Some m.other
  pub one_there : Contains places (tip_end m.one_ends m.one)
  pub other_there : Contains places (tip_end m.other_ends m.other)

-- the numbers of the edges, in the order of their keys
abbrev pub numbers_of : List (Option Current) → List ℕ
numbers_of rows = flat_map (λ (row : Option Current). elim row [ None ↦ [] | Some r ↦ r.id ∷ [] ]) rows
