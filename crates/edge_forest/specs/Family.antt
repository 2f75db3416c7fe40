-- The chains of the edges that have not ended.
use Rattle.std.specs.Prelude.{List, [], ◌∷◌, flat_map, get_or, Option, Some, None}
use Rattle.tgap_model.specs.Chains.{Chain}
use Rattle.edge_forest.specs.declared.net.Current.{Current}

abbrev pub row_chains : List Chain → Option Current → List Chain
row_chains chains None = []
row_chains chains (Some r) = get_or chains r.id [] ∷ []

-- the chains of the edges that have not ended, in the order of their keys
abbrev pub family : List Chain → List (Option Current) → List Chain
family chains rows = flat_map (row_chains chains) rows
