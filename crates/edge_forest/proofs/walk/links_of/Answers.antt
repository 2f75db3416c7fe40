-- The arcs come from the last one to the first.
use Rattle.std.proofs.Common.{map, ap, ◌∙◌}
use Rattle.edge_forest.specs.Walks.{chain_link}
use Rattle.edge_forest.proofs.Reversed.{map_reversed}
use Rattle.edge_forest.proofs.walk.links_of.Goals as goal

pub returns : goal.returns
returns c = ap (map chain_link) (c.from.ensures ∙ c.reverse.ensures.items) ∙ map_reversed chain_link c.in_ok-links.links.items ∙ c.in_ok-links.ensures
