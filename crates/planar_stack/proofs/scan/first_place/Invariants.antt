-- The faces agree at all higher places.
use Rattle.std.proofs.Common.{◌≡◌, ◌<◌, ◌≤◌, ◌-◌, ℕ, map, length}
use Rattle.grid_geo.specs.Evidence.{face_above, face_below}
use Rattle.planar_stack.specs.Sweep.{sides_at}
use Rattle.planar_stack.proofs.scan.first_place.Given as goal

abbrev pub invariant-loop-place : goal.invariant-loop-place
invariant-loop-place l = record {
  within : l.place ≤ length l.stack;
  agree : (k : ℕ) → k < l.place → face_above (map (sides_at l.starts) l.stack) k ≡ face_below (map (sides_at l.starts) l.stack) k;
}

abbrev pub decreases-loop-place : goal.decreases-loop-place
decreases-loop-place l = length l.stack - l.place
