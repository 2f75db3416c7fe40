use Rattle.std.proofs.Common.{◌+◌, ◌*◌, map}
use Rattle.edge_forest.specs.Kept.{closed_edge}
use Rattle.edge_forest.proofs.Listing.{AreListed}
use Rattle.edge_forest.proofs.index.index_of.Given as goal

abbrev pub invariant-loop-id : goal.invariant-loop-id
invariant-loop-id l = AreListed (map (closed_edge (l.last + 1)) l.edges) l.depth (2 * l.leaves) l.id l.nodes.items
