use Rattle.std.proofs.Common.{◌≡◌, map, take}
use Rattle.edge_forest.proofs.alive.numbers_of.Given as goal

abbrev pub invariant-loop-edge : goal.invariant-loop-edge
invariant-loop-edge l = l.ids.items ≡ map (λ e. e.id) (take l.edge-index l.found)
