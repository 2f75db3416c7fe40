use Rattle.removal_laws.proofs.InsideKept.{sweep_keeps_inside}
use Rattle.removal_laws.proofs.faces.sweep_keeps_inside.Goals as goal

pub returns : goal.returns
returns c = sweep_keeps_inside
