-- The keys of the edges so far.
use Rattle.std.proofs.Common.{◌≡◌, take}
use Rattle.grid_index.specs.Keyed.{edges_in}
use Rattle.grid_index.specs.Live.{keys}
use Rattle.tgap_build.proofs.edge_table.EdgeTable.keys.Given as goal

abbrev pub invariant-loop-place : goal.invariant-loop-place
invariant-loop-place l = l.found ≡ keys (edges_in (take l.place-index l.self.places.items))
