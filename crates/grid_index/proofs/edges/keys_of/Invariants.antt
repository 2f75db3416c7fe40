-- The keys of the edges so far.
use Rattle.std.proofs.Common.{◌≡◌, take}
use Rattle.grid_index.specs.Live.{keys}
use Rattle.grid_index.proofs.edges.keys_of.Given as goal

abbrev pub invariant-loop-edge : goal.invariant-loop-edge
invariant-loop-edge l = l.keys.items ≡ keys (take l.edge-index l.edges)
