-- The points of the arcs so far, from the last one to the first.
use Rattle.std.proofs.Common.{◌≡◌, map, take, reverse}
use Rattle.tgap_model.specs.Chains.{chain_points}
use Rattle.edge_forest.specs.Walks.{chain_link}
use Rattle.edge_forest.proofs.walk.points_along.Given as goal

abbrev pub invariant-loop-link : goal.invariant-loop-link
invariant-loop-link l = reverse l.points.items ≡ chain_points l.arcs (reverse (map chain_link (take l.link-index l.links)))
