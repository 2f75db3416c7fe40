use Rattle.removal_laws.proofs.Replaced.{replaced_is_apart}
use Rattle.removal_laws.proofs.replace.replaced_is_apart.Goals as goal

pub returns : goal.returns
returns c = replaced_is_apart
