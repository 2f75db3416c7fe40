use Rattle.removal_laws.proofs.InsideKept.{replaced_inside}
use Rattle.removal_laws.proofs.faces.replaced_inside.Goals as goal

pub returns : goal.returns
returns c = replaced_inside
