use Rattle.map_laws.proofs.ChainsUnique.{chains_unique}
use Rattle.map_laws.proofs.chains.chains_are_unique.Goals as goal

pub returns : goal.returns
returns c = chains_unique
