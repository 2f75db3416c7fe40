use Rattle.edit_laws.proofs.Joined.{batches_join}
use Rattle.edit_laws.proofs.joined_batches.Goals as goal

pub returns : goal.returns
returns c = batches_join
