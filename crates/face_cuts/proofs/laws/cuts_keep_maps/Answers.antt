use Rattle.face_cuts.proofs.CutsKeep.{cuts_keep}
use Rattle.face_cuts.proofs.laws.cuts_keep_maps.Goals as goal

pub returns : goal.returns
returns c = cuts_keep
