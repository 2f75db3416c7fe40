use Rattle.face_cuts.proofs.FusionsInside.{fusions_inside}
use Rattle.face_cuts.proofs.laws.fusions_keep_inside.Goals as goal

pub returns : goal.returns
returns c = fusions_inside
