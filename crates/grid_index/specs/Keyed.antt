-- Edges at the places of their keys.
use Rattle.std.specs.Prelude.{◌≡◌, ℕ, List, get_or, Option, Some, None, option_to_list}
use Rattle.std.specs.List.{flat_map}
use Rattle.tgap_model.specs.declared.slice.Edge.{Edge}

-- the edge at a place, if there is one
abbrev pub edge_in : List (Option Edge) → ℕ → Option Edge
edge_in places i = get_or places i None

-- all edges, in the order of the places
abbrev pub edges_in : List (Option Edge) → List Edge
edges_in places = flat_map option_to_list places

-- each edge stands at the place of its key
abbrev pub AreAtKeys : List (Option Edge) → Type 0
AreAtKeys places = (i : ℕ) (e : Edge) → edge_in places i ≡ Some e → e.key ≡ i

-- the edges with these keys, as they stand at the places of their keys
abbrev pub edges_at : List (Option Edge) → List ℕ → List Edge
edges_at places keys = flat_map (λ k. option_to_list (edge_in places k)) keys
