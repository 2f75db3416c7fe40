use Rattle.removal_laws.proofs.StandOnce.{partition_has_removals}
use Rattle.removal_laws.proofs.partition.partition_has_removals.Goals as goal

pub returns : goal.returns
returns c = partition_has_removals
