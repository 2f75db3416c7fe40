use Rattle.edit_laws.proofs.Joined.{batches_end}
use Rattle.edit_laws.proofs.accepted_batches_end.Goals as goal

pub returns : goal.returns
returns c = batches_end
