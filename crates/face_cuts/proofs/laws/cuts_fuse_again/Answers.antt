use Rattle.face_cuts.proofs.FusedAgain.{fuse_again}
use Rattle.face_cuts.proofs.laws.cuts_fuse_again.Goals as goal

pub returns : goal.returns
returns c = fuse_again
