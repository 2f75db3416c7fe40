-- The faces so far.
use Rattle.std.proofs.Common.{◌≡◌, map, take}
use Rattle.planar_sweep.specs.Swept.{face_pair}
use Rattle.planar_sweep.proofs.faces.faces_of.Given as goal

abbrev pub invariant-loop-s : goal.invariant-loop-s
invariant-loop-s l = l.faces.items ≡ map face_pair (take l.s-index l.segments)
