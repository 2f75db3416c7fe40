use Rattle.std.proofs.Common.{◌≡◌, map, take}
use Rattle.tgap_model.specs.History.{labelled}
use Rattle.face_merge.proofs.measures.labelled_arcs.Given as goal

abbrev pub invariant-loop-i : goal.invariant-loop-i
invariant-loop-i l = l.found.items ≡ map labelled (take l.i l.arcs)
