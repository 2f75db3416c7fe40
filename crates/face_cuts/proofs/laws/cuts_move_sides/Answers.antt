use Rattle.face_cuts.proofs.CutCalls.{cuts_move}
use Rattle.face_cuts.proofs.laws.cuts_move_sides.Goals as goal

pub returns : goal.returns
returns c = cuts_move
