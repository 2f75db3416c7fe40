use Rattle.face_cuts.proofs.FusionsKeep.{fusions_keep}
use Rattle.face_cuts.proofs.laws.fusions_keep_maps.Goals as goal

pub returns : goal.returns
returns c = fusions_keep
