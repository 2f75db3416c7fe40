-- the keys so far
use Rattle.std.proofs.Common.{◌≡◌, map, filter, take}
use Rattle.vertex_drop.specs.Corners.{may_lose}
use Rattle.vertex_drop_tests.proofs.keys.small_keys.Given as goal

abbrev pub invariant-loop-edge : goal.invariant-loop-edge
invariant-loop-edge l = l.keys.items ≡ map (λ e. e.key) (filter (may_lose l.ratio l.loser_area l.made) (take l.edge-index l.edges))
