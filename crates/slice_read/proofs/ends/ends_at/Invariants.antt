use Rattle.std.proofs.Common.{◌≡◌, map, take}
use Rattle.edge_forest.specs.Edges.{chain_of}
use Rattle.slice_read.specs.Ends.{chain_ends}
use Rattle.slice_read.proofs.ends.ends_at.Given as goal

-- the ends of the edges so far
abbrev pub invariant-loop-id : goal.invariant-loop-id
invariant-loop-id l = l.ends ≡ map (chain_ends l.arcs) (map (chain_of l.forest.edges) (take l.id-index l.id-items))

-- nobody counts
abbrev pub ghosts-ids_at : goal.ghosts-ids_at
ghosts-ids_at a = record { name = a.blank.name; parts = a.blank.parts }
