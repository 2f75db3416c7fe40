-- At the places so far no other edge ends.
use Rattle.std.proofs.Common.{take}
use Rattle.edge_forest.specs.Net.{NoneBesides}
use Rattle.edge_forest.proofs.net.other_end.Given as goal

abbrev pub invariant-loop-place : goal.invariant-loop-place
invariant-loop-place l = NoneBesides l.ends (take l.place-index l.places) l.besides
