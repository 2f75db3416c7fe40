-- The edges of a forest: each is a chain of border arcs, made of earlier edges, with the range of steps at which it is one.
-- From: van Oosterom (2005) and Meijers (2011); ranges are half open, and labels are those at birth.
use Rattle.std.specs.Prelude.{◌≡◌, ◌<◌, ℕ, Bool, true, false, ◌&&◌, nat_le, nat_lt, List, [], ◌∷◌, ◌++◌, flat_map, filter, fold, length, slice_index_or, All, if◌then◌else◌}
use Rattle.std.specs.List.{range_with_len}
use Rattle.lemmas.specs.Sorting.{sort_by}
use Rattle.tgap_model.specs.Merged.{MergedMap, label_at}
use Rattle.tgap_model.specs.Chains.{Chain, arc_number, key, has_links, turned_round}
use Rattle.edge_forest.specs.declared.edge.Part.{Part}
use Rattle.edge_forest.specs.declared.edge.ForestEdge.{ForestEdge}

-- the edge with this number
abbrev pub edge_at : List ForestEdge → ℕ → ForestEdge
edge_at edges i = slice_index_or edges i (record { key = 0; low = 0; high = 0; left = 0; right = 0; parts = [] })

-- ---- the chain of an edge

-- the chain of a part: an arc, or the chain of an earlier edge, in its direction or turned round
abbrev pub whole_part : List Chain → Part → Chain
whole_part chains p = if p.leaf then record { arc = p.id; turned = false } ∷ [] else slice_index_or chains p.id []

abbrev pub part_chain : List Chain → Part → Chain
part_chain chains p = if p.turned then turned_round (whole_part chains p) else whole_part chains p

-- the chains of some parts in a row
abbrev pub parts_chain : List Chain → List Part → Chain
parts_chain chains parts = flat_map (part_chain chains) parts

-- the chain of each edge, by its number
abbrev pub chains_of : List ForestEdge → List Chain
chains_of edges = fold (λ chains e. chains ++ parts_chain chains e.parts ∷ []) [] edges

abbrev pub chain_of : List ForestEdge → ℕ → Chain
chain_of edges i = slice_index_or (chains_of edges) i []

-- ---- ranges

-- the range of the edge holds k
abbrev pub is_alive : ℕ → ForestEdge → Bool
is_alive k e = nat_le e.low k && nat_lt k e.high

-- the numbers of the edges whose range holds k, in the order of their keys
abbrev pub alive_edges : List ForestEdge → ℕ → List ℕ
alive_edges edges k =
    sort_by (λ i j. nat_lt (edge_at edges i).key (edge_at edges j).key)
    (filter (λ i. is_alive k (edge_at edges i)) (range_with_len 0 (length edges)))

-- ---- what is known of an edge

-- A part is an arc of the map or an earlier edge.
pub record IsPart (arcs i : ℕ) (p : Part) : Type 0 where
  pub arc : p.leaf ≡ true → p.id < arcs
  pub edge : p.leaf ≡ false → p.id < i

-- An edge is made of arcs and earlier edges; it has the key of its chain, and the labels that the sides of the arc with this
-- number have at its low step.
pub record IsForestEdge (h : MergedMap) (edges : List ForestEdge) (i : ℕ) : Type 0 where
  pub parts : All (IsPart (length h.base.arcs) i) (edge_at edges i).parts
  pub links : has_links (chain_of edges i) ≡ true
  pub key : (edge_at edges i).key ≡ key (chain_of edges i)
  pub left : (edge_at edges i).left ≡ label_at h (edge_at edges i).low (arc_number h.base.arcs (edge_at edges i).key).left
  pub right : (edge_at edges i).right ≡ label_at h (edge_at edges i).low (arc_number h.base.arcs (edge_at edges i).key).right
