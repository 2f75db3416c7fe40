use Rattle.std.proofs.Common.{◌≡◌, ◌∷◌, get_or, map, take}
use Rattle.topo_write.proofs.parts.part_with.Given as goal

abbrev pub invariant-loop-place : goal.invariant-loop-place
invariant-loop-place l = l.rings ≡ l.outer ∷ map (λ k. get_or l.inner k 0) (take l.place-index l.held)
