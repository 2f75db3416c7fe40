use Rattle.face_cuts.proofs.CutsInside.{cuts_inside}
use Rattle.face_cuts.proofs.laws.cuts_keep_inside.Goals as goal

pub returns : goal.returns
returns c = cuts_inside
