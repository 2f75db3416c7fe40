use Rattle.removal_laws.proofs.ChainEnds.{ends_were_ends}
use Rattle.removal_laws.proofs.ends.ends_were_ends.Goals as goal

pub returns : goal.returns
returns c = ends_were_ends
