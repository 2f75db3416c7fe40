use Rattle.removal_laws.proofs.StackKept.{replaced_agrees}
use Rattle.removal_laws.proofs.faces.replaced_agrees.Goals as goal

pub returns : goal.returns
returns c = replaced_agrees
