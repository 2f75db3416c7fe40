use Rattle.removal_laws.proofs.InsideKept.{step_keeps_inside}
use Rattle.removal_laws.proofs.faces.step_keeps_inside.Goals as goal

pub returns : goal.returns
returns c = step_keeps_inside
