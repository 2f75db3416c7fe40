use Rattle.record_laws.proofs.RunsAreChains.{runs_are_chains}
use Rattle.record_laws.proofs.runs.runs_are_chains.Goals as goal

pub returns : goal.returns
returns c = runs_are_chains
