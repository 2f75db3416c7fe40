use Rattle.std.proofs.Common.{◌≡◌, map, take}
use Rattle.face_merge.specs.Measures.{measure_of}
use Rattle.face_merge.proofs.measures.measures_of.Given as goal

abbrev pub invariant-loop-arc : goal.invariant-loop-arc
invariant-loop-arc l = l.measures ≡ map measure_of (take l.arc-index l.arcs)
