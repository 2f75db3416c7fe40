use Rattle.edit_laws.proofs.Batches.{batches_keep}
use Rattle.edit_laws.proofs.batches_keep_maps.Goals as goal

pub returns : goal.returns
returns c = batches_keep
