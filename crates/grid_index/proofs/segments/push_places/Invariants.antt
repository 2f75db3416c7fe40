-- The places so far.
use Rattle.std.proofs.Common.{◌≡◌, ◌++◌, map, take}
use Rattle.grid_index.proofs.segments.push_places.Given as goal

abbrev pub invariant-loop-place : goal.invariant-loop-place
invariant-loop-place l = l.found ≡ l.fn.found ++ map (λ i. record { key = l.key; place = i }) (take l.place-index l.places)
