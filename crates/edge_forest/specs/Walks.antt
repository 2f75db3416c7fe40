-- The walk along an edge: its arcs from the last one to the first, by a stack of parts.
use Rattle.std.specs.Prelude.{◌≡◌, ◌<◌, ℕ, false, not, List, map, reverse, length, All, if◌then◌else◌}
use Rattle.tgap_model.specs.Chains as chains
use Rattle.edge_forest.specs.declared.edge.Part.{Part}
use Rattle.edge_forest.specs.declared.edge.ForestEdge.{ForestEdge}
use Rattle.edge_forest.specs.declared.walk.Link.{Link}
use Rattle.edge_forest.specs.Edges.{edge_at}

-- the arc as a link of a chain
abbrev pub chain_link : Link → chains.Link
chain_link link = record { arc = link.arc; turned = link.turned }

-- the part, turned
abbrev pub turned_part : Part → Part
turned_part p = record { leaf = p.leaf; id = p.id; turned = not p.turned }

-- the parts of an edge that is turned round
abbrev pub turned_parts : List Part → List Part
turned_parts parts = map turned_part (reverse parts)

-- A part of an edge is an arc or an earlier edge.
abbrev pub IsMadeOfEarlier : List ForestEdge → Type 0
IsMadeOfEarlier edges = (i : ℕ) → i < length edges → All (λ p. p.leaf ≡ false → p.id < i) (edge_at edges i).parts

-- the parts of the edge that a part is, in the direction of the part
abbrev pub inner_parts : List ForestEdge → Part → List Part
inner_parts edges p = if p.turned then turned_parts (edge_at edges p.id).parts else (edge_at edges p.id).parts
