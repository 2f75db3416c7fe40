use Rattle.std.proofs.Common.{◌≡◌, filter, take}
use Rattle.face_cuts.specs.SideSets.{has}
use Rattle.face_cuts.proofs.over.kept.Given as goal

abbrev pub invariant-loop-side : goal.invariant-loop-side
invariant-loop-side l = l.found ≡ filter (has l.set) (take l.side-index l.row)
