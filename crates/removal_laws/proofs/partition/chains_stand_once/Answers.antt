use Rattle.removal_laws.proofs.StandOnce.{chains_stand_once}
use Rattle.removal_laws.proofs.partition.chains_stand_once.Goals as goal

pub returns : goal.returns
returns c = chains_stand_once
