use Rattle.edit_laws.proofs.EditsKeep.{drops_keep}
use Rattle.edit_laws.proofs.drops_keep_maps.Goals as goal

pub returns : goal.returns
returns c = drops_keep
