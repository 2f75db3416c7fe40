use Rattle.std.proofs.Common.{◌≡◌, pos, int_lt, drop}
use Rattle.std.specs.List.{list_any}
use Rattle.topo_write.specs.Building.{area_at}
use Rattle.topo_write.proofs.flat.has_outer.Given as goal

-- there is one among the places that are left exactly where there is one
abbrev pub invariant-loop-place : goal.invariant-loop-place
invariant-loop-place l = list_any (λ p. int_lt (pos 0) (area_at l.areas p)) (drop l.place-index l.places) ≡ list_any (λ p. int_lt (pos 0) (area_at l.areas p)) l.places
