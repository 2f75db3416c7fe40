use Rattle.edit_laws.proofs.EditsKeep.{classes_keep}
use Rattle.edit_laws.proofs.classes_keep_maps.Goals as goal

pub returns : goal.returns
returns c = classes_keep
