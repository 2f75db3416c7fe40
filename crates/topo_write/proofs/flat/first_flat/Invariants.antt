use Rattle.std.proofs.Common.{◌≡◌, pos, drop}
use Rattle.std.specs.List.{find}
use Rattle.std.specs.Ordering.{int_eq}
use Rattle.topo_write.specs.Building.{area_at}
use Rattle.topo_write.proofs.flat.first_flat.Given as goal

-- the first of the places that are left is the first of all
abbrev pub invariant-loop-place : goal.invariant-loop-place
invariant-loop-place l = find (λ p. int_eq (area_at l.areas p) (pos 0)) (drop l.place-index l.places) ≡ find (λ p. int_eq (area_at l.areas p) (pos 0)) l.places
