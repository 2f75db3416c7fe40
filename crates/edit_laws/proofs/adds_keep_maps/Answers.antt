use Rattle.edit_laws.proofs.EditsKeep.{adds_keep}
use Rattle.edit_laws.proofs.adds_keep_maps.Goals as goal

pub returns : goal.returns
returns c = adds_keep
