use Rattle.map_laws.proofs.ChainsExist.{chains_exist}
use Rattle.map_laws.proofs.chains.chains_exist.Goals as goal

pub returns : goal.returns
returns c = chains_exist
