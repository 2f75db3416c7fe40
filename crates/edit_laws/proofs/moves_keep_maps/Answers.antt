use Rattle.edit_laws.proofs.EditsKeep.{moves_keep}
use Rattle.edit_laws.proofs.moves_keep_maps.Goals as goal

pub returns : goal.returns
returns c = moves_keep
