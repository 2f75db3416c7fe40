use Rattle.map_laws.proofs.ChainsStep.{chains_step}
use Rattle.map_laws.proofs.chains.chains_step.Goals as goal

pub returns : goal.returns
returns c = chains_step
